-- Each part of the table is sound.
use Rattle.std.proofs.Common.{◌≡◌, true, false, refl}
use Rattle.php_grammar.specs.Parts.{in_full, in_const, low_or, low_xor, low_and, choice, coalescing, either, both, equality, order, sum, product, instance, word_seen, var_seen, this_seen, place_seen, other_seen, place_member_seen, other_member_seen, static_member_seen, exit_seen, new_seen, of_while, of_for, of_foreach, Part, file, stmts, stmt, if_body, if_rest, if_listed_rest, loop_body, switch_body, maybe_semi, arms, arm_sign, maybe_int, maybe_expr, second_var, more_vars, after_static, more_static, maybe_default, more_consts, maybe_text, first_catch, more_catches, more_caught, params, more_params, param, maybe_amp, hint_name, maybe_hint, hint, maybe_result, plain_word, class_name, class_or_var, maybe_parent, maybe_interfaces, maybe_parents, more_names, members, more_class_consts, more_properties, any_var, mods, member, method_body, any_word, print_part, not_part, unary_part, quote_rest, array_part, prim, after_colons, tail, index_part, assign_only, value_or_reference, member_part, args, more_args, items, item_expr, arrow_value, more_items, more_places, place, step_place, static_place, place_tail, this_place_tail, place_member_part, c_not_part, c_unary_part, c_prim, c_word_tail, c_member, c_array_part, begun_prim, question_part, c_question_part, operators, level, begun}
use Rattle.php_grammar.specs.Grammar.{operand, steps, production, weight}
use Rattle.php_grammar.proofs.Table.{Sound}

pub checked : (a : Part) → Sound a
unfolding operand steps production weight
checked file = record { rows_fit = refl; laid_fits = refl; rows_tokens = refl; laid_token = refl; calm = refl; firm = refl; stepped = refl; leveled = refl; ended = refl; plain_steps = refl; open_steps = refl }
checked stmts = record { rows_fit = refl; laid_fits = refl; rows_tokens = refl; laid_token = refl; calm = refl; firm = refl; stepped = refl; leveled = refl; ended = refl; plain_steps = refl; open_steps = refl }
checked stmt = record { rows_fit = refl; laid_fits = refl; rows_tokens = refl; laid_token = refl; calm = refl; firm = refl; stepped = refl; leveled = refl; ended = refl; plain_steps = refl; open_steps = refl }
checked if_body = record { rows_fit = refl; laid_fits = refl; rows_tokens = refl; laid_token = refl; calm = refl; firm = refl; stepped = refl; leveled = refl; ended = refl; plain_steps = refl; open_steps = refl }
checked if_rest = record { rows_fit = refl; laid_fits = refl; rows_tokens = refl; laid_token = refl; calm = refl; firm = refl; stepped = refl; leveled = refl; ended = refl; plain_steps = refl; open_steps = refl }
checked if_listed_rest = record { rows_fit = refl; laid_fits = refl; rows_tokens = refl; laid_token = refl; calm = refl; firm = refl; stepped = refl; leveled = refl; ended = refl; plain_steps = refl; open_steps = refl }
checked (loop_body of_while) = record { rows_fit = refl; laid_fits = refl; rows_tokens = refl; laid_token = refl; calm = refl; firm = refl; stepped = refl; leveled = refl; ended = refl; plain_steps = refl; open_steps = refl }
checked (loop_body of_for) = record { rows_fit = refl; laid_fits = refl; rows_tokens = refl; laid_token = refl; calm = refl; firm = refl; stepped = refl; leveled = refl; ended = refl; plain_steps = refl; open_steps = refl }
checked (loop_body of_foreach) = record { rows_fit = refl; laid_fits = refl; rows_tokens = refl; laid_token = refl; calm = refl; firm = refl; stepped = refl; leveled = refl; ended = refl; plain_steps = refl; open_steps = refl }
checked switch_body = record { rows_fit = refl; laid_fits = refl; rows_tokens = refl; laid_token = refl; calm = refl; firm = refl; stepped = refl; leveled = refl; ended = refl; plain_steps = refl; open_steps = refl }
checked maybe_semi = record { rows_fit = refl; laid_fits = refl; rows_tokens = refl; laid_token = refl; calm = refl; firm = refl; stepped = refl; leveled = refl; ended = refl; plain_steps = refl; open_steps = refl }
checked arms = record { rows_fit = refl; laid_fits = refl; rows_tokens = refl; laid_token = refl; calm = refl; firm = refl; stepped = refl; leveled = refl; ended = refl; plain_steps = refl; open_steps = refl }
checked arm_sign = record { rows_fit = refl; laid_fits = refl; rows_tokens = refl; laid_token = refl; calm = refl; firm = refl; stepped = refl; leveled = refl; ended = refl; plain_steps = refl; open_steps = refl }
checked maybe_int = record { rows_fit = refl; laid_fits = refl; rows_tokens = refl; laid_token = refl; calm = refl; firm = refl; stepped = refl; leveled = refl; ended = refl; plain_steps = refl; open_steps = refl }
checked maybe_expr = record { rows_fit = refl; laid_fits = refl; rows_tokens = refl; laid_token = refl; calm = refl; firm = refl; stepped = refl; leveled = refl; ended = refl; plain_steps = refl; open_steps = refl }
checked second_var = record { rows_fit = refl; laid_fits = refl; rows_tokens = refl; laid_token = refl; calm = refl; firm = refl; stepped = refl; leveled = refl; ended = refl; plain_steps = refl; open_steps = refl }
checked more_vars = record { rows_fit = refl; laid_fits = refl; rows_tokens = refl; laid_token = refl; calm = refl; firm = refl; stepped = refl; leveled = refl; ended = refl; plain_steps = refl; open_steps = refl }
checked after_static = record { rows_fit = refl; laid_fits = refl; rows_tokens = refl; laid_token = refl; calm = refl; firm = refl; stepped = refl; leveled = refl; ended = refl; plain_steps = refl; open_steps = refl }
checked more_static = record { rows_fit = refl; laid_fits = refl; rows_tokens = refl; laid_token = refl; calm = refl; firm = refl; stepped = refl; leveled = refl; ended = refl; plain_steps = refl; open_steps = refl }
checked maybe_default = record { rows_fit = refl; laid_fits = refl; rows_tokens = refl; laid_token = refl; calm = refl; firm = refl; stepped = refl; leveled = refl; ended = refl; plain_steps = refl; open_steps = refl }
checked more_consts = record { rows_fit = refl; laid_fits = refl; rows_tokens = refl; laid_token = refl; calm = refl; firm = refl; stepped = refl; leveled = refl; ended = refl; plain_steps = refl; open_steps = refl }
checked maybe_text = record { rows_fit = refl; laid_fits = refl; rows_tokens = refl; laid_token = refl; calm = refl; firm = refl; stepped = refl; leveled = refl; ended = refl; plain_steps = refl; open_steps = refl }
checked first_catch = record { rows_fit = refl; laid_fits = refl; rows_tokens = refl; laid_token = refl; calm = refl; firm = refl; stepped = refl; leveled = refl; ended = refl; plain_steps = refl; open_steps = refl }
checked more_catches = record { rows_fit = refl; laid_fits = refl; rows_tokens = refl; laid_token = refl; calm = refl; firm = refl; stepped = refl; leveled = refl; ended = refl; plain_steps = refl; open_steps = refl }
checked more_caught = record { rows_fit = refl; laid_fits = refl; rows_tokens = refl; laid_token = refl; calm = refl; firm = refl; stepped = refl; leveled = refl; ended = refl; plain_steps = refl; open_steps = refl }
checked params = record { rows_fit = refl; laid_fits = refl; rows_tokens = refl; laid_token = refl; calm = refl; firm = refl; stepped = refl; leveled = refl; ended = refl; plain_steps = refl; open_steps = refl }
checked more_params = record { rows_fit = refl; laid_fits = refl; rows_tokens = refl; laid_token = refl; calm = refl; firm = refl; stepped = refl; leveled = refl; ended = refl; plain_steps = refl; open_steps = refl }
checked param = record { rows_fit = refl; laid_fits = refl; rows_tokens = refl; laid_token = refl; calm = refl; firm = refl; stepped = refl; leveled = refl; ended = refl; plain_steps = refl; open_steps = refl }
checked maybe_amp = record { rows_fit = refl; laid_fits = refl; rows_tokens = refl; laid_token = refl; calm = refl; firm = refl; stepped = refl; leveled = refl; ended = refl; plain_steps = refl; open_steps = refl }
checked hint_name = record { rows_fit = refl; laid_fits = refl; rows_tokens = refl; laid_token = refl; calm = refl; firm = refl; stepped = refl; leveled = refl; ended = refl; plain_steps = refl; open_steps = refl }
checked maybe_hint = record { rows_fit = refl; laid_fits = refl; rows_tokens = refl; laid_token = refl; calm = refl; firm = refl; stepped = refl; leveled = refl; ended = refl; plain_steps = refl; open_steps = refl }
checked hint = record { rows_fit = refl; laid_fits = refl; rows_tokens = refl; laid_token = refl; calm = refl; firm = refl; stepped = refl; leveled = refl; ended = refl; plain_steps = refl; open_steps = refl }
checked maybe_result = record { rows_fit = refl; laid_fits = refl; rows_tokens = refl; laid_token = refl; calm = refl; firm = refl; stepped = refl; leveled = refl; ended = refl; plain_steps = refl; open_steps = refl }
checked plain_word = record { rows_fit = refl; laid_fits = refl; rows_tokens = refl; laid_token = refl; calm = refl; firm = refl; stepped = refl; leveled = refl; ended = refl; plain_steps = refl; open_steps = refl }
checked class_name = record { rows_fit = refl; laid_fits = refl; rows_tokens = refl; laid_token = refl; calm = refl; firm = refl; stepped = refl; leveled = refl; ended = refl; plain_steps = refl; open_steps = refl }
checked class_or_var = record { rows_fit = refl; laid_fits = refl; rows_tokens = refl; laid_token = refl; calm = refl; firm = refl; stepped = refl; leveled = refl; ended = refl; plain_steps = refl; open_steps = refl }
checked maybe_parent = record { rows_fit = refl; laid_fits = refl; rows_tokens = refl; laid_token = refl; calm = refl; firm = refl; stepped = refl; leveled = refl; ended = refl; plain_steps = refl; open_steps = refl }
checked maybe_interfaces = record { rows_fit = refl; laid_fits = refl; rows_tokens = refl; laid_token = refl; calm = refl; firm = refl; stepped = refl; leveled = refl; ended = refl; plain_steps = refl; open_steps = refl }
checked maybe_parents = record { rows_fit = refl; laid_fits = refl; rows_tokens = refl; laid_token = refl; calm = refl; firm = refl; stepped = refl; leveled = refl; ended = refl; plain_steps = refl; open_steps = refl }
checked more_names = record { rows_fit = refl; laid_fits = refl; rows_tokens = refl; laid_token = refl; calm = refl; firm = refl; stepped = refl; leveled = refl; ended = refl; plain_steps = refl; open_steps = refl }
checked (members true) = record { rows_fit = refl; laid_fits = refl; rows_tokens = refl; laid_token = refl; calm = refl; firm = refl; stepped = refl; leveled = refl; ended = refl; plain_steps = refl; open_steps = refl }
checked (members false) = record { rows_fit = refl; laid_fits = refl; rows_tokens = refl; laid_token = refl; calm = refl; firm = refl; stepped = refl; leveled = refl; ended = refl; plain_steps = refl; open_steps = refl }
checked more_class_consts = record { rows_fit = refl; laid_fits = refl; rows_tokens = refl; laid_token = refl; calm = refl; firm = refl; stepped = refl; leveled = refl; ended = refl; plain_steps = refl; open_steps = refl }
checked more_properties = record { rows_fit = refl; laid_fits = refl; rows_tokens = refl; laid_token = refl; calm = refl; firm = refl; stepped = refl; leveled = refl; ended = refl; plain_steps = refl; open_steps = refl }
checked any_var = record { rows_fit = refl; laid_fits = refl; rows_tokens = refl; laid_token = refl; calm = refl; firm = refl; stepped = refl; leveled = refl; ended = refl; plain_steps = refl; open_steps = refl }
checked (mods true true true true true true) = record { rows_fit = refl; laid_fits = refl; rows_tokens = refl; laid_token = refl; calm = refl; firm = refl; stepped = refl; leveled = refl; ended = refl; plain_steps = refl; open_steps = refl }
checked (mods true true true true true false) = record { rows_fit = refl; laid_fits = refl; rows_tokens = refl; laid_token = refl; calm = refl; firm = refl; stepped = refl; leveled = refl; ended = refl; plain_steps = refl; open_steps = refl }
checked (mods true true true true false true) = record { rows_fit = refl; laid_fits = refl; rows_tokens = refl; laid_token = refl; calm = refl; firm = refl; stepped = refl; leveled = refl; ended = refl; plain_steps = refl; open_steps = refl }
checked (mods true true true true false false) = record { rows_fit = refl; laid_fits = refl; rows_tokens = refl; laid_token = refl; calm = refl; firm = refl; stepped = refl; leveled = refl; ended = refl; plain_steps = refl; open_steps = refl }
checked (mods true true true false true true) = record { rows_fit = refl; laid_fits = refl; rows_tokens = refl; laid_token = refl; calm = refl; firm = refl; stepped = refl; leveled = refl; ended = refl; plain_steps = refl; open_steps = refl }
checked (mods true true true false true false) = record { rows_fit = refl; laid_fits = refl; rows_tokens = refl; laid_token = refl; calm = refl; firm = refl; stepped = refl; leveled = refl; ended = refl; plain_steps = refl; open_steps = refl }
checked (mods true true true false false true) = record { rows_fit = refl; laid_fits = refl; rows_tokens = refl; laid_token = refl; calm = refl; firm = refl; stepped = refl; leveled = refl; ended = refl; plain_steps = refl; open_steps = refl }
checked (mods true true true false false false) = record { rows_fit = refl; laid_fits = refl; rows_tokens = refl; laid_token = refl; calm = refl; firm = refl; stepped = refl; leveled = refl; ended = refl; plain_steps = refl; open_steps = refl }
checked (mods true true false true true true) = record { rows_fit = refl; laid_fits = refl; rows_tokens = refl; laid_token = refl; calm = refl; firm = refl; stepped = refl; leveled = refl; ended = refl; plain_steps = refl; open_steps = refl }
checked (mods true true false true true false) = record { rows_fit = refl; laid_fits = refl; rows_tokens = refl; laid_token = refl; calm = refl; firm = refl; stepped = refl; leveled = refl; ended = refl; plain_steps = refl; open_steps = refl }
checked (mods true true false true false true) = record { rows_fit = refl; laid_fits = refl; rows_tokens = refl; laid_token = refl; calm = refl; firm = refl; stepped = refl; leveled = refl; ended = refl; plain_steps = refl; open_steps = refl }
checked (mods true true false true false false) = record { rows_fit = refl; laid_fits = refl; rows_tokens = refl; laid_token = refl; calm = refl; firm = refl; stepped = refl; leveled = refl; ended = refl; plain_steps = refl; open_steps = refl }
checked (mods true true false false true true) = record { rows_fit = refl; laid_fits = refl; rows_tokens = refl; laid_token = refl; calm = refl; firm = refl; stepped = refl; leveled = refl; ended = refl; plain_steps = refl; open_steps = refl }
checked (mods true true false false true false) = record { rows_fit = refl; laid_fits = refl; rows_tokens = refl; laid_token = refl; calm = refl; firm = refl; stepped = refl; leveled = refl; ended = refl; plain_steps = refl; open_steps = refl }
checked (mods true true false false false true) = record { rows_fit = refl; laid_fits = refl; rows_tokens = refl; laid_token = refl; calm = refl; firm = refl; stepped = refl; leveled = refl; ended = refl; plain_steps = refl; open_steps = refl }
checked (mods true true false false false false) = record { rows_fit = refl; laid_fits = refl; rows_tokens = refl; laid_token = refl; calm = refl; firm = refl; stepped = refl; leveled = refl; ended = refl; plain_steps = refl; open_steps = refl }
checked (mods true false true true true true) = record { rows_fit = refl; laid_fits = refl; rows_tokens = refl; laid_token = refl; calm = refl; firm = refl; stepped = refl; leveled = refl; ended = refl; plain_steps = refl; open_steps = refl }
checked (mods true false true true true false) = record { rows_fit = refl; laid_fits = refl; rows_tokens = refl; laid_token = refl; calm = refl; firm = refl; stepped = refl; leveled = refl; ended = refl; plain_steps = refl; open_steps = refl }
checked (mods true false true true false true) = record { rows_fit = refl; laid_fits = refl; rows_tokens = refl; laid_token = refl; calm = refl; firm = refl; stepped = refl; leveled = refl; ended = refl; plain_steps = refl; open_steps = refl }
checked (mods true false true true false false) = record { rows_fit = refl; laid_fits = refl; rows_tokens = refl; laid_token = refl; calm = refl; firm = refl; stepped = refl; leveled = refl; ended = refl; plain_steps = refl; open_steps = refl }
checked (mods true false true false true true) = record { rows_fit = refl; laid_fits = refl; rows_tokens = refl; laid_token = refl; calm = refl; firm = refl; stepped = refl; leveled = refl; ended = refl; plain_steps = refl; open_steps = refl }
checked (mods true false true false true false) = record { rows_fit = refl; laid_fits = refl; rows_tokens = refl; laid_token = refl; calm = refl; firm = refl; stepped = refl; leveled = refl; ended = refl; plain_steps = refl; open_steps = refl }
checked (mods true false true false false true) = record { rows_fit = refl; laid_fits = refl; rows_tokens = refl; laid_token = refl; calm = refl; firm = refl; stepped = refl; leveled = refl; ended = refl; plain_steps = refl; open_steps = refl }
checked (mods true false true false false false) = record { rows_fit = refl; laid_fits = refl; rows_tokens = refl; laid_token = refl; calm = refl; firm = refl; stepped = refl; leveled = refl; ended = refl; plain_steps = refl; open_steps = refl }
checked (mods true false false true true true) = record { rows_fit = refl; laid_fits = refl; rows_tokens = refl; laid_token = refl; calm = refl; firm = refl; stepped = refl; leveled = refl; ended = refl; plain_steps = refl; open_steps = refl }
checked (mods true false false true true false) = record { rows_fit = refl; laid_fits = refl; rows_tokens = refl; laid_token = refl; calm = refl; firm = refl; stepped = refl; leveled = refl; ended = refl; plain_steps = refl; open_steps = refl }
checked (mods true false false true false true) = record { rows_fit = refl; laid_fits = refl; rows_tokens = refl; laid_token = refl; calm = refl; firm = refl; stepped = refl; leveled = refl; ended = refl; plain_steps = refl; open_steps = refl }
checked (mods true false false true false false) = record { rows_fit = refl; laid_fits = refl; rows_tokens = refl; laid_token = refl; calm = refl; firm = refl; stepped = refl; leveled = refl; ended = refl; plain_steps = refl; open_steps = refl }
checked (mods true false false false true true) = record { rows_fit = refl; laid_fits = refl; rows_tokens = refl; laid_token = refl; calm = refl; firm = refl; stepped = refl; leveled = refl; ended = refl; plain_steps = refl; open_steps = refl }
checked (mods true false false false true false) = record { rows_fit = refl; laid_fits = refl; rows_tokens = refl; laid_token = refl; calm = refl; firm = refl; stepped = refl; leveled = refl; ended = refl; plain_steps = refl; open_steps = refl }
checked (mods true false false false false true) = record { rows_fit = refl; laid_fits = refl; rows_tokens = refl; laid_token = refl; calm = refl; firm = refl; stepped = refl; leveled = refl; ended = refl; plain_steps = refl; open_steps = refl }
checked (mods true false false false false false) = record { rows_fit = refl; laid_fits = refl; rows_tokens = refl; laid_token = refl; calm = refl; firm = refl; stepped = refl; leveled = refl; ended = refl; plain_steps = refl; open_steps = refl }
checked (mods false true true true true true) = record { rows_fit = refl; laid_fits = refl; rows_tokens = refl; laid_token = refl; calm = refl; firm = refl; stepped = refl; leveled = refl; ended = refl; plain_steps = refl; open_steps = refl }
checked (mods false true true true true false) = record { rows_fit = refl; laid_fits = refl; rows_tokens = refl; laid_token = refl; calm = refl; firm = refl; stepped = refl; leveled = refl; ended = refl; plain_steps = refl; open_steps = refl }
checked (mods false true true true false true) = record { rows_fit = refl; laid_fits = refl; rows_tokens = refl; laid_token = refl; calm = refl; firm = refl; stepped = refl; leveled = refl; ended = refl; plain_steps = refl; open_steps = refl }
checked (mods false true true true false false) = record { rows_fit = refl; laid_fits = refl; rows_tokens = refl; laid_token = refl; calm = refl; firm = refl; stepped = refl; leveled = refl; ended = refl; plain_steps = refl; open_steps = refl }
checked (mods false true true false true true) = record { rows_fit = refl; laid_fits = refl; rows_tokens = refl; laid_token = refl; calm = refl; firm = refl; stepped = refl; leveled = refl; ended = refl; plain_steps = refl; open_steps = refl }
checked (mods false true true false true false) = record { rows_fit = refl; laid_fits = refl; rows_tokens = refl; laid_token = refl; calm = refl; firm = refl; stepped = refl; leveled = refl; ended = refl; plain_steps = refl; open_steps = refl }
checked (mods false true true false false true) = record { rows_fit = refl; laid_fits = refl; rows_tokens = refl; laid_token = refl; calm = refl; firm = refl; stepped = refl; leveled = refl; ended = refl; plain_steps = refl; open_steps = refl }
checked (mods false true true false false false) = record { rows_fit = refl; laid_fits = refl; rows_tokens = refl; laid_token = refl; calm = refl; firm = refl; stepped = refl; leveled = refl; ended = refl; plain_steps = refl; open_steps = refl }
checked (mods false true false true true true) = record { rows_fit = refl; laid_fits = refl; rows_tokens = refl; laid_token = refl; calm = refl; firm = refl; stepped = refl; leveled = refl; ended = refl; plain_steps = refl; open_steps = refl }
checked (mods false true false true true false) = record { rows_fit = refl; laid_fits = refl; rows_tokens = refl; laid_token = refl; calm = refl; firm = refl; stepped = refl; leveled = refl; ended = refl; plain_steps = refl; open_steps = refl }
checked (mods false true false true false true) = record { rows_fit = refl; laid_fits = refl; rows_tokens = refl; laid_token = refl; calm = refl; firm = refl; stepped = refl; leveled = refl; ended = refl; plain_steps = refl; open_steps = refl }
checked (mods false true false true false false) = record { rows_fit = refl; laid_fits = refl; rows_tokens = refl; laid_token = refl; calm = refl; firm = refl; stepped = refl; leveled = refl; ended = refl; plain_steps = refl; open_steps = refl }
checked (mods false true false false true true) = record { rows_fit = refl; laid_fits = refl; rows_tokens = refl; laid_token = refl; calm = refl; firm = refl; stepped = refl; leveled = refl; ended = refl; plain_steps = refl; open_steps = refl }
checked (mods false true false false true false) = record { rows_fit = refl; laid_fits = refl; rows_tokens = refl; laid_token = refl; calm = refl; firm = refl; stepped = refl; leveled = refl; ended = refl; plain_steps = refl; open_steps = refl }
checked (mods false true false false false true) = record { rows_fit = refl; laid_fits = refl; rows_tokens = refl; laid_token = refl; calm = refl; firm = refl; stepped = refl; leveled = refl; ended = refl; plain_steps = refl; open_steps = refl }
checked (mods false true false false false false) = record { rows_fit = refl; laid_fits = refl; rows_tokens = refl; laid_token = refl; calm = refl; firm = refl; stepped = refl; leveled = refl; ended = refl; plain_steps = refl; open_steps = refl }
checked (mods false false true true true true) = record { rows_fit = refl; laid_fits = refl; rows_tokens = refl; laid_token = refl; calm = refl; firm = refl; stepped = refl; leveled = refl; ended = refl; plain_steps = refl; open_steps = refl }
checked (mods false false true true true false) = record { rows_fit = refl; laid_fits = refl; rows_tokens = refl; laid_token = refl; calm = refl; firm = refl; stepped = refl; leveled = refl; ended = refl; plain_steps = refl; open_steps = refl }
checked (mods false false true true false true) = record { rows_fit = refl; laid_fits = refl; rows_tokens = refl; laid_token = refl; calm = refl; firm = refl; stepped = refl; leveled = refl; ended = refl; plain_steps = refl; open_steps = refl }
checked (mods false false true true false false) = record { rows_fit = refl; laid_fits = refl; rows_tokens = refl; laid_token = refl; calm = refl; firm = refl; stepped = refl; leveled = refl; ended = refl; plain_steps = refl; open_steps = refl }
checked (mods false false true false true true) = record { rows_fit = refl; laid_fits = refl; rows_tokens = refl; laid_token = refl; calm = refl; firm = refl; stepped = refl; leveled = refl; ended = refl; plain_steps = refl; open_steps = refl }
checked (mods false false true false true false) = record { rows_fit = refl; laid_fits = refl; rows_tokens = refl; laid_token = refl; calm = refl; firm = refl; stepped = refl; leveled = refl; ended = refl; plain_steps = refl; open_steps = refl }
checked (mods false false true false false true) = record { rows_fit = refl; laid_fits = refl; rows_tokens = refl; laid_token = refl; calm = refl; firm = refl; stepped = refl; leveled = refl; ended = refl; plain_steps = refl; open_steps = refl }
checked (mods false false true false false false) = record { rows_fit = refl; laid_fits = refl; rows_tokens = refl; laid_token = refl; calm = refl; firm = refl; stepped = refl; leveled = refl; ended = refl; plain_steps = refl; open_steps = refl }
checked (mods false false false true true true) = record { rows_fit = refl; laid_fits = refl; rows_tokens = refl; laid_token = refl; calm = refl; firm = refl; stepped = refl; leveled = refl; ended = refl; plain_steps = refl; open_steps = refl }
checked (mods false false false true true false) = record { rows_fit = refl; laid_fits = refl; rows_tokens = refl; laid_token = refl; calm = refl; firm = refl; stepped = refl; leveled = refl; ended = refl; plain_steps = refl; open_steps = refl }
checked (mods false false false true false true) = record { rows_fit = refl; laid_fits = refl; rows_tokens = refl; laid_token = refl; calm = refl; firm = refl; stepped = refl; leveled = refl; ended = refl; plain_steps = refl; open_steps = refl }
checked (mods false false false true false false) = record { rows_fit = refl; laid_fits = refl; rows_tokens = refl; laid_token = refl; calm = refl; firm = refl; stepped = refl; leveled = refl; ended = refl; plain_steps = refl; open_steps = refl }
checked (mods false false false false true true) = record { rows_fit = refl; laid_fits = refl; rows_tokens = refl; laid_token = refl; calm = refl; firm = refl; stepped = refl; leveled = refl; ended = refl; plain_steps = refl; open_steps = refl }
checked (mods false false false false true false) = record { rows_fit = refl; laid_fits = refl; rows_tokens = refl; laid_token = refl; calm = refl; firm = refl; stepped = refl; leveled = refl; ended = refl; plain_steps = refl; open_steps = refl }
checked (mods false false false false false true) = record { rows_fit = refl; laid_fits = refl; rows_tokens = refl; laid_token = refl; calm = refl; firm = refl; stepped = refl; leveled = refl; ended = refl; plain_steps = refl; open_steps = refl }
checked (mods false false false false false false) = record { rows_fit = refl; laid_fits = refl; rows_tokens = refl; laid_token = refl; calm = refl; firm = refl; stepped = refl; leveled = refl; ended = refl; plain_steps = refl; open_steps = refl }
checked (member true) = record { rows_fit = refl; laid_fits = refl; rows_tokens = refl; laid_token = refl; calm = refl; firm = refl; stepped = refl; leveled = refl; ended = refl; plain_steps = refl; open_steps = refl }
checked (member false) = record { rows_fit = refl; laid_fits = refl; rows_tokens = refl; laid_token = refl; calm = refl; firm = refl; stepped = refl; leveled = refl; ended = refl; plain_steps = refl; open_steps = refl }
checked (method_body true) = record { rows_fit = refl; laid_fits = refl; rows_tokens = refl; laid_token = refl; calm = refl; firm = refl; stepped = refl; leveled = refl; ended = refl; plain_steps = refl; open_steps = refl }
checked (method_body false) = record { rows_fit = refl; laid_fits = refl; rows_tokens = refl; laid_token = refl; calm = refl; firm = refl; stepped = refl; leveled = refl; ended = refl; plain_steps = refl; open_steps = refl }
checked any_word = record { rows_fit = refl; laid_fits = refl; rows_tokens = refl; laid_token = refl; calm = refl; firm = refl; stepped = refl; leveled = refl; ended = refl; plain_steps = refl; open_steps = refl }
checked print_part = record { rows_fit = refl; laid_fits = refl; rows_tokens = refl; laid_token = refl; calm = refl; firm = refl; stepped = refl; leveled = refl; ended = refl; plain_steps = refl; open_steps = refl }
checked not_part = record { rows_fit = refl; laid_fits = refl; rows_tokens = refl; laid_token = refl; calm = refl; firm = refl; stepped = refl; leveled = refl; ended = refl; plain_steps = refl; open_steps = refl }
checked unary_part = record { rows_fit = refl; laid_fits = refl; rows_tokens = refl; laid_token = refl; calm = refl; firm = refl; stepped = refl; leveled = refl; ended = refl; plain_steps = refl; open_steps = refl }
checked quote_rest = record { rows_fit = refl; laid_fits = refl; rows_tokens = refl; laid_token = refl; calm = refl; firm = refl; stepped = refl; leveled = refl; ended = refl; plain_steps = refl; open_steps = refl }
checked (array_part true) = record { rows_fit = refl; laid_fits = refl; rows_tokens = refl; laid_token = refl; calm = refl; firm = refl; stepped = refl; leveled = refl; ended = refl; plain_steps = refl; open_steps = refl }
checked (array_part false) = record { rows_fit = refl; laid_fits = refl; rows_tokens = refl; laid_token = refl; calm = refl; firm = refl; stepped = refl; leveled = refl; ended = refl; plain_steps = refl; open_steps = refl }
checked (prim true) = record { rows_fit = refl; laid_fits = refl; rows_tokens = refl; laid_token = refl; calm = refl; firm = refl; stepped = refl; leveled = refl; ended = refl; plain_steps = refl; open_steps = refl }
checked (prim false) = record { rows_fit = refl; laid_fits = refl; rows_tokens = refl; laid_token = refl; calm = refl; firm = refl; stepped = refl; leveled = refl; ended = refl; plain_steps = refl; open_steps = refl }
checked (after_colons true) = record { rows_fit = refl; laid_fits = refl; rows_tokens = refl; laid_token = refl; calm = refl; firm = refl; stepped = refl; leveled = refl; ended = refl; plain_steps = refl; open_steps = refl }
checked (after_colons false) = record { rows_fit = refl; laid_fits = refl; rows_tokens = refl; laid_token = refl; calm = refl; firm = refl; stepped = refl; leveled = refl; ended = refl; plain_steps = refl; open_steps = refl }
checked (tail word_seen true) = record { rows_fit = refl; laid_fits = refl; rows_tokens = refl; laid_token = refl; calm = refl; firm = refl; stepped = refl; leveled = refl; ended = refl; plain_steps = refl; open_steps = refl }
checked (tail word_seen false) = record { rows_fit = refl; laid_fits = refl; rows_tokens = refl; laid_token = refl; calm = refl; firm = refl; stepped = refl; leveled = refl; ended = refl; plain_steps = refl; open_steps = refl }
checked (tail var_seen true) = record { rows_fit = refl; laid_fits = refl; rows_tokens = refl; laid_token = refl; calm = refl; firm = refl; stepped = refl; leveled = refl; ended = refl; plain_steps = refl; open_steps = refl }
checked (tail var_seen false) = record { rows_fit = refl; laid_fits = refl; rows_tokens = refl; laid_token = refl; calm = refl; firm = refl; stepped = refl; leveled = refl; ended = refl; plain_steps = refl; open_steps = refl }
checked (tail this_seen true) = record { rows_fit = refl; laid_fits = refl; rows_tokens = refl; laid_token = refl; calm = refl; firm = refl; stepped = refl; leveled = refl; ended = refl; plain_steps = refl; open_steps = refl }
checked (tail this_seen false) = record { rows_fit = refl; laid_fits = refl; rows_tokens = refl; laid_token = refl; calm = refl; firm = refl; stepped = refl; leveled = refl; ended = refl; plain_steps = refl; open_steps = refl }
checked (tail place_seen true) = record { rows_fit = refl; laid_fits = refl; rows_tokens = refl; laid_token = refl; calm = refl; firm = refl; stepped = refl; leveled = refl; ended = refl; plain_steps = refl; open_steps = refl }
checked (tail place_seen false) = record { rows_fit = refl; laid_fits = refl; rows_tokens = refl; laid_token = refl; calm = refl; firm = refl; stepped = refl; leveled = refl; ended = refl; plain_steps = refl; open_steps = refl }
checked (tail other_seen true) = record { rows_fit = refl; laid_fits = refl; rows_tokens = refl; laid_token = refl; calm = refl; firm = refl; stepped = refl; leveled = refl; ended = refl; plain_steps = refl; open_steps = refl }
checked (tail other_seen false) = record { rows_fit = refl; laid_fits = refl; rows_tokens = refl; laid_token = refl; calm = refl; firm = refl; stepped = refl; leveled = refl; ended = refl; plain_steps = refl; open_steps = refl }
checked (tail place_member_seen true) = record { rows_fit = refl; laid_fits = refl; rows_tokens = refl; laid_token = refl; calm = refl; firm = refl; stepped = refl; leveled = refl; ended = refl; plain_steps = refl; open_steps = refl }
checked (tail place_member_seen false) = record { rows_fit = refl; laid_fits = refl; rows_tokens = refl; laid_token = refl; calm = refl; firm = refl; stepped = refl; leveled = refl; ended = refl; plain_steps = refl; open_steps = refl }
checked (tail other_member_seen true) = record { rows_fit = refl; laid_fits = refl; rows_tokens = refl; laid_token = refl; calm = refl; firm = refl; stepped = refl; leveled = refl; ended = refl; plain_steps = refl; open_steps = refl }
checked (tail other_member_seen false) = record { rows_fit = refl; laid_fits = refl; rows_tokens = refl; laid_token = refl; calm = refl; firm = refl; stepped = refl; leveled = refl; ended = refl; plain_steps = refl; open_steps = refl }
checked (tail static_member_seen true) = record { rows_fit = refl; laid_fits = refl; rows_tokens = refl; laid_token = refl; calm = refl; firm = refl; stepped = refl; leveled = refl; ended = refl; plain_steps = refl; open_steps = refl }
checked (tail static_member_seen false) = record { rows_fit = refl; laid_fits = refl; rows_tokens = refl; laid_token = refl; calm = refl; firm = refl; stepped = refl; leveled = refl; ended = refl; plain_steps = refl; open_steps = refl }
checked (tail exit_seen true) = record { rows_fit = refl; laid_fits = refl; rows_tokens = refl; laid_token = refl; calm = refl; firm = refl; stepped = refl; leveled = refl; ended = refl; plain_steps = refl; open_steps = refl }
checked (tail exit_seen false) = record { rows_fit = refl; laid_fits = refl; rows_tokens = refl; laid_token = refl; calm = refl; firm = refl; stepped = refl; leveled = refl; ended = refl; plain_steps = refl; open_steps = refl }
checked (tail new_seen true) = record { rows_fit = refl; laid_fits = refl; rows_tokens = refl; laid_token = refl; calm = refl; firm = refl; stepped = refl; leveled = refl; ended = refl; plain_steps = refl; open_steps = refl }
checked (tail new_seen false) = record { rows_fit = refl; laid_fits = refl; rows_tokens = refl; laid_token = refl; calm = refl; firm = refl; stepped = refl; leveled = refl; ended = refl; plain_steps = refl; open_steps = refl }
checked (index_part true true) = record { rows_fit = refl; laid_fits = refl; rows_tokens = refl; laid_token = refl; calm = refl; firm = refl; stepped = refl; leveled = refl; ended = refl; plain_steps = refl; open_steps = refl }
checked (index_part true false) = record { rows_fit = refl; laid_fits = refl; rows_tokens = refl; laid_token = refl; calm = refl; firm = refl; stepped = refl; leveled = refl; ended = refl; plain_steps = refl; open_steps = refl }
checked (index_part false true) = record { rows_fit = refl; laid_fits = refl; rows_tokens = refl; laid_token = refl; calm = refl; firm = refl; stepped = refl; leveled = refl; ended = refl; plain_steps = refl; open_steps = refl }
checked (index_part false false) = record { rows_fit = refl; laid_fits = refl; rows_tokens = refl; laid_token = refl; calm = refl; firm = refl; stepped = refl; leveled = refl; ended = refl; plain_steps = refl; open_steps = refl }
checked assign_only = record { rows_fit = refl; laid_fits = refl; rows_tokens = refl; laid_token = refl; calm = refl; firm = refl; stepped = refl; leveled = refl; ended = refl; plain_steps = refl; open_steps = refl }
checked value_or_reference = record { rows_fit = refl; laid_fits = refl; rows_tokens = refl; laid_token = refl; calm = refl; firm = refl; stepped = refl; leveled = refl; ended = refl; plain_steps = refl; open_steps = refl }
checked (member_part true true) = record { rows_fit = refl; laid_fits = refl; rows_tokens = refl; laid_token = refl; calm = refl; firm = refl; stepped = refl; leveled = refl; ended = refl; plain_steps = refl; open_steps = refl }
checked (member_part true false) = record { rows_fit = refl; laid_fits = refl; rows_tokens = refl; laid_token = refl; calm = refl; firm = refl; stepped = refl; leveled = refl; ended = refl; plain_steps = refl; open_steps = refl }
checked (member_part false true) = record { rows_fit = refl; laid_fits = refl; rows_tokens = refl; laid_token = refl; calm = refl; firm = refl; stepped = refl; leveled = refl; ended = refl; plain_steps = refl; open_steps = refl }
checked (member_part false false) = record { rows_fit = refl; laid_fits = refl; rows_tokens = refl; laid_token = refl; calm = refl; firm = refl; stepped = refl; leveled = refl; ended = refl; plain_steps = refl; open_steps = refl }
checked args = record { rows_fit = refl; laid_fits = refl; rows_tokens = refl; laid_token = refl; calm = refl; firm = refl; stepped = refl; leveled = refl; ended = refl; plain_steps = refl; open_steps = refl }
checked more_args = record { rows_fit = refl; laid_fits = refl; rows_tokens = refl; laid_token = refl; calm = refl; firm = refl; stepped = refl; leveled = refl; ended = refl; plain_steps = refl; open_steps = refl }
checked (items in_full) = record { rows_fit = refl; laid_fits = refl; rows_tokens = refl; laid_token = refl; calm = refl; firm = refl; stepped = refl; leveled = refl; ended = refl; plain_steps = refl; open_steps = refl }
checked (items in_const) = record { rows_fit = refl; laid_fits = refl; rows_tokens = refl; laid_token = refl; calm = refl; firm = refl; stepped = refl; leveled = refl; ended = refl; plain_steps = refl; open_steps = refl }
checked (item_expr in_full) = record { rows_fit = refl; laid_fits = refl; rows_tokens = refl; laid_token = refl; calm = refl; firm = refl; stepped = refl; leveled = refl; ended = refl; plain_steps = refl; open_steps = refl }
checked (item_expr in_const) = record { rows_fit = refl; laid_fits = refl; rows_tokens = refl; laid_token = refl; calm = refl; firm = refl; stepped = refl; leveled = refl; ended = refl; plain_steps = refl; open_steps = refl }
checked (arrow_value in_full) = record { rows_fit = refl; laid_fits = refl; rows_tokens = refl; laid_token = refl; calm = refl; firm = refl; stepped = refl; leveled = refl; ended = refl; plain_steps = refl; open_steps = refl }
checked (arrow_value in_const) = record { rows_fit = refl; laid_fits = refl; rows_tokens = refl; laid_token = refl; calm = refl; firm = refl; stepped = refl; leveled = refl; ended = refl; plain_steps = refl; open_steps = refl }
checked (more_items in_full) = record { rows_fit = refl; laid_fits = refl; rows_tokens = refl; laid_token = refl; calm = refl; firm = refl; stepped = refl; leveled = refl; ended = refl; plain_steps = refl; open_steps = refl }
checked (more_items in_const) = record { rows_fit = refl; laid_fits = refl; rows_tokens = refl; laid_token = refl; calm = refl; firm = refl; stepped = refl; leveled = refl; ended = refl; plain_steps = refl; open_steps = refl }
checked more_places = record { rows_fit = refl; laid_fits = refl; rows_tokens = refl; laid_token = refl; calm = refl; firm = refl; stepped = refl; leveled = refl; ended = refl; plain_steps = refl; open_steps = refl }
checked place = record { rows_fit = refl; laid_fits = refl; rows_tokens = refl; laid_token = refl; calm = refl; firm = refl; stepped = refl; leveled = refl; ended = refl; plain_steps = refl; open_steps = refl }
checked step_place = record { rows_fit = refl; laid_fits = refl; rows_tokens = refl; laid_token = refl; calm = refl; firm = refl; stepped = refl; leveled = refl; ended = refl; plain_steps = refl; open_steps = refl }
checked static_place = record { rows_fit = refl; laid_fits = refl; rows_tokens = refl; laid_token = refl; calm = refl; firm = refl; stepped = refl; leveled = refl; ended = refl; plain_steps = refl; open_steps = refl }
checked place_tail = record { rows_fit = refl; laid_fits = refl; rows_tokens = refl; laid_token = refl; calm = refl; firm = refl; stepped = refl; leveled = refl; ended = refl; plain_steps = refl; open_steps = refl }
checked this_place_tail = record { rows_fit = refl; laid_fits = refl; rows_tokens = refl; laid_token = refl; calm = refl; firm = refl; stepped = refl; leveled = refl; ended = refl; plain_steps = refl; open_steps = refl }
checked place_member_part = record { rows_fit = refl; laid_fits = refl; rows_tokens = refl; laid_token = refl; calm = refl; firm = refl; stepped = refl; leveled = refl; ended = refl; plain_steps = refl; open_steps = refl }
checked c_not_part = record { rows_fit = refl; laid_fits = refl; rows_tokens = refl; laid_token = refl; calm = refl; firm = refl; stepped = refl; leveled = refl; ended = refl; plain_steps = refl; open_steps = refl }
checked c_unary_part = record { rows_fit = refl; laid_fits = refl; rows_tokens = refl; laid_token = refl; calm = refl; firm = refl; stepped = refl; leveled = refl; ended = refl; plain_steps = refl; open_steps = refl }
checked c_prim = record { rows_fit = refl; laid_fits = refl; rows_tokens = refl; laid_token = refl; calm = refl; firm = refl; stepped = refl; leveled = refl; ended = refl; plain_steps = refl; open_steps = refl }
checked c_word_tail = record { rows_fit = refl; laid_fits = refl; rows_tokens = refl; laid_token = refl; calm = refl; firm = refl; stepped = refl; leveled = refl; ended = refl; plain_steps = refl; open_steps = refl }
checked c_member = record { rows_fit = refl; laid_fits = refl; rows_tokens = refl; laid_token = refl; calm = refl; firm = refl; stepped = refl; leveled = refl; ended = refl; plain_steps = refl; open_steps = refl }
checked c_array_part = record { rows_fit = refl; laid_fits = refl; rows_tokens = refl; laid_token = refl; calm = refl; firm = refl; stepped = refl; leveled = refl; ended = refl; plain_steps = refl; open_steps = refl }
checked begun_prim = record { rows_fit = refl; laid_fits = refl; rows_tokens = refl; laid_token = refl; calm = refl; firm = refl; stepped = refl; leveled = refl; ended = refl; plain_steps = refl; open_steps = refl }
checked question_part = record { rows_fit = refl; laid_fits = refl; rows_tokens = refl; laid_token = refl; calm = refl; firm = refl; stepped = refl; leveled = refl; ended = refl; plain_steps = refl; open_steps = refl }
checked c_question_part = record { rows_fit = refl; laid_fits = refl; rows_tokens = refl; laid_token = refl; calm = refl; firm = refl; stepped = refl; leveled = refl; ended = refl; plain_steps = refl; open_steps = refl }
checked (operators in_full low_or) = record { rows_fit = refl; laid_fits = refl; rows_tokens = refl; laid_token = refl; calm = refl; firm = refl; stepped = refl; leveled = refl; ended = refl; plain_steps = refl; open_steps = refl }
checked (operators in_full low_xor) = record { rows_fit = refl; laid_fits = refl; rows_tokens = refl; laid_token = refl; calm = refl; firm = refl; stepped = refl; leveled = refl; ended = refl; plain_steps = refl; open_steps = refl }
checked (operators in_full low_and) = record { rows_fit = refl; laid_fits = refl; rows_tokens = refl; laid_token = refl; calm = refl; firm = refl; stepped = refl; leveled = refl; ended = refl; plain_steps = refl; open_steps = refl }
checked (operators in_full choice) = record { rows_fit = refl; laid_fits = refl; rows_tokens = refl; laid_token = refl; calm = refl; firm = refl; stepped = refl; leveled = refl; ended = refl; plain_steps = refl; open_steps = refl }
checked (operators in_full coalescing) = record { rows_fit = refl; laid_fits = refl; rows_tokens = refl; laid_token = refl; calm = refl; firm = refl; stepped = refl; leveled = refl; ended = refl; plain_steps = refl; open_steps = refl }
checked (operators in_full either) = record { rows_fit = refl; laid_fits = refl; rows_tokens = refl; laid_token = refl; calm = refl; firm = refl; stepped = refl; leveled = refl; ended = refl; plain_steps = refl; open_steps = refl }
checked (operators in_full both) = record { rows_fit = refl; laid_fits = refl; rows_tokens = refl; laid_token = refl; calm = refl; firm = refl; stepped = refl; leveled = refl; ended = refl; plain_steps = refl; open_steps = refl }
checked (operators in_full equality) = record { rows_fit = refl; laid_fits = refl; rows_tokens = refl; laid_token = refl; calm = refl; firm = refl; stepped = refl; leveled = refl; ended = refl; plain_steps = refl; open_steps = refl }
checked (operators in_full order) = record { rows_fit = refl; laid_fits = refl; rows_tokens = refl; laid_token = refl; calm = refl; firm = refl; stepped = refl; leveled = refl; ended = refl; plain_steps = refl; open_steps = refl }
checked (operators in_full sum) = record { rows_fit = refl; laid_fits = refl; rows_tokens = refl; laid_token = refl; calm = refl; firm = refl; stepped = refl; leveled = refl; ended = refl; plain_steps = refl; open_steps = refl }
checked (operators in_full product) = record { rows_fit = refl; laid_fits = refl; rows_tokens = refl; laid_token = refl; calm = refl; firm = refl; stepped = refl; leveled = refl; ended = refl; plain_steps = refl; open_steps = refl }
checked (operators in_full instance) = record { rows_fit = refl; laid_fits = refl; rows_tokens = refl; laid_token = refl; calm = refl; firm = refl; stepped = refl; leveled = refl; ended = refl; plain_steps = refl; open_steps = refl }
checked (operators in_const low_or) = record { rows_fit = refl; laid_fits = refl; rows_tokens = refl; laid_token = refl; calm = refl; firm = refl; stepped = refl; leveled = refl; ended = refl; plain_steps = refl; open_steps = refl }
checked (operators in_const low_xor) = record { rows_fit = refl; laid_fits = refl; rows_tokens = refl; laid_token = refl; calm = refl; firm = refl; stepped = refl; leveled = refl; ended = refl; plain_steps = refl; open_steps = refl }
checked (operators in_const low_and) = record { rows_fit = refl; laid_fits = refl; rows_tokens = refl; laid_token = refl; calm = refl; firm = refl; stepped = refl; leveled = refl; ended = refl; plain_steps = refl; open_steps = refl }
checked (operators in_const choice) = record { rows_fit = refl; laid_fits = refl; rows_tokens = refl; laid_token = refl; calm = refl; firm = refl; stepped = refl; leveled = refl; ended = refl; plain_steps = refl; open_steps = refl }
checked (operators in_const coalescing) = record { rows_fit = refl; laid_fits = refl; rows_tokens = refl; laid_token = refl; calm = refl; firm = refl; stepped = refl; leveled = refl; ended = refl; plain_steps = refl; open_steps = refl }
checked (operators in_const either) = record { rows_fit = refl; laid_fits = refl; rows_tokens = refl; laid_token = refl; calm = refl; firm = refl; stepped = refl; leveled = refl; ended = refl; plain_steps = refl; open_steps = refl }
checked (operators in_const both) = record { rows_fit = refl; laid_fits = refl; rows_tokens = refl; laid_token = refl; calm = refl; firm = refl; stepped = refl; leveled = refl; ended = refl; plain_steps = refl; open_steps = refl }
checked (operators in_const equality) = record { rows_fit = refl; laid_fits = refl; rows_tokens = refl; laid_token = refl; calm = refl; firm = refl; stepped = refl; leveled = refl; ended = refl; plain_steps = refl; open_steps = refl }
checked (operators in_const order) = record { rows_fit = refl; laid_fits = refl; rows_tokens = refl; laid_token = refl; calm = refl; firm = refl; stepped = refl; leveled = refl; ended = refl; plain_steps = refl; open_steps = refl }
checked (operators in_const sum) = record { rows_fit = refl; laid_fits = refl; rows_tokens = refl; laid_token = refl; calm = refl; firm = refl; stepped = refl; leveled = refl; ended = refl; plain_steps = refl; open_steps = refl }
checked (operators in_const product) = record { rows_fit = refl; laid_fits = refl; rows_tokens = refl; laid_token = refl; calm = refl; firm = refl; stepped = refl; leveled = refl; ended = refl; plain_steps = refl; open_steps = refl }
checked (operators in_const instance) = record { rows_fit = refl; laid_fits = refl; rows_tokens = refl; laid_token = refl; calm = refl; firm = refl; stepped = refl; leveled = refl; ended = refl; plain_steps = refl; open_steps = refl }
checked (level in_full low_or) = record { rows_fit = refl; laid_fits = refl; rows_tokens = refl; laid_token = refl; calm = refl; firm = refl; stepped = refl; leveled = refl; ended = refl; plain_steps = refl; open_steps = refl }
checked (level in_full low_xor) = record { rows_fit = refl; laid_fits = refl; rows_tokens = refl; laid_token = refl; calm = refl; firm = refl; stepped = refl; leveled = refl; ended = refl; plain_steps = refl; open_steps = refl }
checked (level in_full low_and) = record { rows_fit = refl; laid_fits = refl; rows_tokens = refl; laid_token = refl; calm = refl; firm = refl; stepped = refl; leveled = refl; ended = refl; plain_steps = refl; open_steps = refl }
checked (level in_full choice) = record { rows_fit = refl; laid_fits = refl; rows_tokens = refl; laid_token = refl; calm = refl; firm = refl; stepped = refl; leveled = refl; ended = refl; plain_steps = refl; open_steps = refl }
checked (level in_full coalescing) = record { rows_fit = refl; laid_fits = refl; rows_tokens = refl; laid_token = refl; calm = refl; firm = refl; stepped = refl; leveled = refl; ended = refl; plain_steps = refl; open_steps = refl }
checked (level in_full either) = record { rows_fit = refl; laid_fits = refl; rows_tokens = refl; laid_token = refl; calm = refl; firm = refl; stepped = refl; leveled = refl; ended = refl; plain_steps = refl; open_steps = refl }
checked (level in_full both) = record { rows_fit = refl; laid_fits = refl; rows_tokens = refl; laid_token = refl; calm = refl; firm = refl; stepped = refl; leveled = refl; ended = refl; plain_steps = refl; open_steps = refl }
checked (level in_full equality) = record { rows_fit = refl; laid_fits = refl; rows_tokens = refl; laid_token = refl; calm = refl; firm = refl; stepped = refl; leveled = refl; ended = refl; plain_steps = refl; open_steps = refl }
checked (level in_full order) = record { rows_fit = refl; laid_fits = refl; rows_tokens = refl; laid_token = refl; calm = refl; firm = refl; stepped = refl; leveled = refl; ended = refl; plain_steps = refl; open_steps = refl }
checked (level in_full sum) = record { rows_fit = refl; laid_fits = refl; rows_tokens = refl; laid_token = refl; calm = refl; firm = refl; stepped = refl; leveled = refl; ended = refl; plain_steps = refl; open_steps = refl }
checked (level in_full product) = record { rows_fit = refl; laid_fits = refl; rows_tokens = refl; laid_token = refl; calm = refl; firm = refl; stepped = refl; leveled = refl; ended = refl; plain_steps = refl; open_steps = refl }
checked (level in_full instance) = record { rows_fit = refl; laid_fits = refl; rows_tokens = refl; laid_token = refl; calm = refl; firm = refl; stepped = refl; leveled = refl; ended = refl; plain_steps = refl; open_steps = refl }
checked (level in_const low_or) = record { rows_fit = refl; laid_fits = refl; rows_tokens = refl; laid_token = refl; calm = refl; firm = refl; stepped = refl; leveled = refl; ended = refl; plain_steps = refl; open_steps = refl }
checked (level in_const low_xor) = record { rows_fit = refl; laid_fits = refl; rows_tokens = refl; laid_token = refl; calm = refl; firm = refl; stepped = refl; leveled = refl; ended = refl; plain_steps = refl; open_steps = refl }
checked (level in_const low_and) = record { rows_fit = refl; laid_fits = refl; rows_tokens = refl; laid_token = refl; calm = refl; firm = refl; stepped = refl; leveled = refl; ended = refl; plain_steps = refl; open_steps = refl }
checked (level in_const choice) = record { rows_fit = refl; laid_fits = refl; rows_tokens = refl; laid_token = refl; calm = refl; firm = refl; stepped = refl; leveled = refl; ended = refl; plain_steps = refl; open_steps = refl }
checked (level in_const coalescing) = record { rows_fit = refl; laid_fits = refl; rows_tokens = refl; laid_token = refl; calm = refl; firm = refl; stepped = refl; leveled = refl; ended = refl; plain_steps = refl; open_steps = refl }
checked (level in_const either) = record { rows_fit = refl; laid_fits = refl; rows_tokens = refl; laid_token = refl; calm = refl; firm = refl; stepped = refl; leveled = refl; ended = refl; plain_steps = refl; open_steps = refl }
checked (level in_const both) = record { rows_fit = refl; laid_fits = refl; rows_tokens = refl; laid_token = refl; calm = refl; firm = refl; stepped = refl; leveled = refl; ended = refl; plain_steps = refl; open_steps = refl }
checked (level in_const equality) = record { rows_fit = refl; laid_fits = refl; rows_tokens = refl; laid_token = refl; calm = refl; firm = refl; stepped = refl; leveled = refl; ended = refl; plain_steps = refl; open_steps = refl }
checked (level in_const order) = record { rows_fit = refl; laid_fits = refl; rows_tokens = refl; laid_token = refl; calm = refl; firm = refl; stepped = refl; leveled = refl; ended = refl; plain_steps = refl; open_steps = refl }
checked (level in_const sum) = record { rows_fit = refl; laid_fits = refl; rows_tokens = refl; laid_token = refl; calm = refl; firm = refl; stepped = refl; leveled = refl; ended = refl; plain_steps = refl; open_steps = refl }
checked (level in_const product) = record { rows_fit = refl; laid_fits = refl; rows_tokens = refl; laid_token = refl; calm = refl; firm = refl; stepped = refl; leveled = refl; ended = refl; plain_steps = refl; open_steps = refl }
checked (level in_const instance) = record { rows_fit = refl; laid_fits = refl; rows_tokens = refl; laid_token = refl; calm = refl; firm = refl; stepped = refl; leveled = refl; ended = refl; plain_steps = refl; open_steps = refl }
checked (begun low_or) = record { rows_fit = refl; laid_fits = refl; rows_tokens = refl; laid_token = refl; calm = refl; firm = refl; stepped = refl; leveled = refl; ended = refl; plain_steps = refl; open_steps = refl }
checked (begun low_xor) = record { rows_fit = refl; laid_fits = refl; rows_tokens = refl; laid_token = refl; calm = refl; firm = refl; stepped = refl; leveled = refl; ended = refl; plain_steps = refl; open_steps = refl }
checked (begun low_and) = record { rows_fit = refl; laid_fits = refl; rows_tokens = refl; laid_token = refl; calm = refl; firm = refl; stepped = refl; leveled = refl; ended = refl; plain_steps = refl; open_steps = refl }
checked (begun choice) = record { rows_fit = refl; laid_fits = refl; rows_tokens = refl; laid_token = refl; calm = refl; firm = refl; stepped = refl; leveled = refl; ended = refl; plain_steps = refl; open_steps = refl }
checked (begun coalescing) = record { rows_fit = refl; laid_fits = refl; rows_tokens = refl; laid_token = refl; calm = refl; firm = refl; stepped = refl; leveled = refl; ended = refl; plain_steps = refl; open_steps = refl }
checked (begun either) = record { rows_fit = refl; laid_fits = refl; rows_tokens = refl; laid_token = refl; calm = refl; firm = refl; stepped = refl; leveled = refl; ended = refl; plain_steps = refl; open_steps = refl }
checked (begun both) = record { rows_fit = refl; laid_fits = refl; rows_tokens = refl; laid_token = refl; calm = refl; firm = refl; stepped = refl; leveled = refl; ended = refl; plain_steps = refl; open_steps = refl }
checked (begun equality) = record { rows_fit = refl; laid_fits = refl; rows_tokens = refl; laid_token = refl; calm = refl; firm = refl; stepped = refl; leveled = refl; ended = refl; plain_steps = refl; open_steps = refl }
checked (begun order) = record { rows_fit = refl; laid_fits = refl; rows_tokens = refl; laid_token = refl; calm = refl; firm = refl; stepped = refl; leveled = refl; ended = refl; plain_steps = refl; open_steps = refl }
checked (begun sum) = record { rows_fit = refl; laid_fits = refl; rows_tokens = refl; laid_token = refl; calm = refl; firm = refl; stepped = refl; leveled = refl; ended = refl; plain_steps = refl; open_steps = refl }
checked (begun product) = record { rows_fit = refl; laid_fits = refl; rows_tokens = refl; laid_token = refl; calm = refl; firm = refl; stepped = refl; leveled = refl; ended = refl; plain_steps = refl; open_steps = refl }
checked (begun instance) = record { rows_fit = refl; laid_fits = refl; rows_tokens = refl; laid_token = refl; calm = refl; firm = refl; stepped = refl; leveled = refl; ended = refl; plain_steps = refl; open_steps = refl }
