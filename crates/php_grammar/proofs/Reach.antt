-- Each part's rules are led by parts of a lower reach.
use Rattle.std.proofs.Common.{◌≡◌, ℕ, ◌<◌, ◌≤◌, Bool, true, false, nat_le, nat_lt, List, Option, Some, None, ◌⊎◌, inl, inr, refl, subst, arith}
use Rattle.std.proofs.lemmas.Bool.{leb-true}
use Rattle.php_grammar.specs.declared.token.Kind.{Kind}
use Rattle.php_grammar.specs.Parts.{Part, Rule, none_of, after_colons, after_static, any_var, any_word, args, arm_sign, arms, array_part, arrow_value, assign_only, begun, begun_prim, both, c_array_part, c_member, c_not_part, c_prim, c_question_part, c_unary_part, c_word_tail, choice, class_name, class_or_var, coalescing, either, equality, exit_seen, file, first_catch, hint, hint_name, if_body, if_listed_rest, if_rest, in_const, in_full, index_part, instance, item_expr, items, level, loop_body, low_and, low_or, low_xor, maybe_amp, maybe_default, maybe_expr, maybe_hint, maybe_int, maybe_interfaces, maybe_parent, maybe_parents, maybe_result, maybe_semi, maybe_text, member, member_part, members, method_body, mods, more_args, more_catches, more_caught, more_class_consts, more_consts, more_items, more_names, more_params, more_places, more_properties, more_static, more_vars, new_seen, not_part, of_for, of_foreach, of_while, operators, order, other_member_seen, other_seen, param, params, place, place_member_part, place_member_seen, place_seen, place_tail, plain_word, prim, print_part, product, question_part, quote_rest, second_var, static_member_seen, static_place, step_place, stmt, stmts, sum, switch_body, tail, this_place_tail, this_seen, unary_part, value_or_reference, var_seen, word_seen}
use Rattle.php_grammar.specs.Kinds.{code, holds}
use Rattle.php_grammar.specs.Grammar.{operand, production, choose, rows, stops, finishes, laid, pick, last_of}
use Rattle.php_grammar.specs.Reach.{takes, reach, lead}
use Rattle.php_grammar.proofs.Table.{is_solid, rows_pass, laid_pass}
use Rattle.php_grammar.proofs.Facts.{either as or_false, picked, last_is, passed, empty_production}

abbrev leads : Part → Rule → Bool
leads a r = nat_le (lead (production r)) (reach a)

record Led (a : Part) : Type 0 where
  rows_led : rows_pass (λ k. leads a) (rows a) ≡ true
  laid_led : laid_pass (leads a) (laid a) ≡ true

led : (a : Part) → Led a
unfolding production reach
led file = record { rows_led = refl; laid_led = refl }
led stmts = record { rows_led = refl; laid_led = refl }
led stmt = record { rows_led = refl; laid_led = refl }
led if_body = record { rows_led = refl; laid_led = refl }
led if_rest = record { rows_led = refl; laid_led = refl }
led if_listed_rest = record { rows_led = refl; laid_led = refl }
led (loop_body of_while) = record { rows_led = refl; laid_led = refl }
led (loop_body of_for) = record { rows_led = refl; laid_led = refl }
led (loop_body of_foreach) = record { rows_led = refl; laid_led = refl }
led switch_body = record { rows_led = refl; laid_led = refl }
led maybe_semi = record { rows_led = refl; laid_led = refl }
led arms = record { rows_led = refl; laid_led = refl }
led arm_sign = record { rows_led = refl; laid_led = refl }
led maybe_int = record { rows_led = refl; laid_led = refl }
led maybe_expr = record { rows_led = refl; laid_led = refl }
led second_var = record { rows_led = refl; laid_led = refl }
led more_vars = record { rows_led = refl; laid_led = refl }
led after_static = record { rows_led = refl; laid_led = refl }
led more_static = record { rows_led = refl; laid_led = refl }
led maybe_default = record { rows_led = refl; laid_led = refl }
led more_consts = record { rows_led = refl; laid_led = refl }
led maybe_text = record { rows_led = refl; laid_led = refl }
led first_catch = record { rows_led = refl; laid_led = refl }
led more_catches = record { rows_led = refl; laid_led = refl }
led more_caught = record { rows_led = refl; laid_led = refl }
led params = record { rows_led = refl; laid_led = refl }
led more_params = record { rows_led = refl; laid_led = refl }
led param = record { rows_led = refl; laid_led = refl }
led maybe_amp = record { rows_led = refl; laid_led = refl }
led hint_name = record { rows_led = refl; laid_led = refl }
led maybe_hint = record { rows_led = refl; laid_led = refl }
led hint = record { rows_led = refl; laid_led = refl }
led maybe_result = record { rows_led = refl; laid_led = refl }
led plain_word = record { rows_led = refl; laid_led = refl }
led class_name = record { rows_led = refl; laid_led = refl }
led class_or_var = record { rows_led = refl; laid_led = refl }
led maybe_parent = record { rows_led = refl; laid_led = refl }
led maybe_interfaces = record { rows_led = refl; laid_led = refl }
led maybe_parents = record { rows_led = refl; laid_led = refl }
led more_names = record { rows_led = refl; laid_led = refl }
led (members true) = record { rows_led = refl; laid_led = refl }
led (members false) = record { rows_led = refl; laid_led = refl }
led more_class_consts = record { rows_led = refl; laid_led = refl }
led more_properties = record { rows_led = refl; laid_led = refl }
led any_var = record { rows_led = refl; laid_led = refl }
led (mods true true true true true true) = record { rows_led = refl; laid_led = refl }
led (mods true true true true true false) = record { rows_led = refl; laid_led = refl }
led (mods true true true true false true) = record { rows_led = refl; laid_led = refl }
led (mods true true true true false false) = record { rows_led = refl; laid_led = refl }
led (mods true true true false true true) = record { rows_led = refl; laid_led = refl }
led (mods true true true false true false) = record { rows_led = refl; laid_led = refl }
led (mods true true true false false true) = record { rows_led = refl; laid_led = refl }
led (mods true true true false false false) = record { rows_led = refl; laid_led = refl }
led (mods true true false true true true) = record { rows_led = refl; laid_led = refl }
led (mods true true false true true false) = record { rows_led = refl; laid_led = refl }
led (mods true true false true false true) = record { rows_led = refl; laid_led = refl }
led (mods true true false true false false) = record { rows_led = refl; laid_led = refl }
led (mods true true false false true true) = record { rows_led = refl; laid_led = refl }
led (mods true true false false true false) = record { rows_led = refl; laid_led = refl }
led (mods true true false false false true) = record { rows_led = refl; laid_led = refl }
led (mods true true false false false false) = record { rows_led = refl; laid_led = refl }
led (mods true false true true true true) = record { rows_led = refl; laid_led = refl }
led (mods true false true true true false) = record { rows_led = refl; laid_led = refl }
led (mods true false true true false true) = record { rows_led = refl; laid_led = refl }
led (mods true false true true false false) = record { rows_led = refl; laid_led = refl }
led (mods true false true false true true) = record { rows_led = refl; laid_led = refl }
led (mods true false true false true false) = record { rows_led = refl; laid_led = refl }
led (mods true false true false false true) = record { rows_led = refl; laid_led = refl }
led (mods true false true false false false) = record { rows_led = refl; laid_led = refl }
led (mods true false false true true true) = record { rows_led = refl; laid_led = refl }
led (mods true false false true true false) = record { rows_led = refl; laid_led = refl }
led (mods true false false true false true) = record { rows_led = refl; laid_led = refl }
led (mods true false false true false false) = record { rows_led = refl; laid_led = refl }
led (mods true false false false true true) = record { rows_led = refl; laid_led = refl }
led (mods true false false false true false) = record { rows_led = refl; laid_led = refl }
led (mods true false false false false true) = record { rows_led = refl; laid_led = refl }
led (mods true false false false false false) = record { rows_led = refl; laid_led = refl }
led (mods false true true true true true) = record { rows_led = refl; laid_led = refl }
led (mods false true true true true false) = record { rows_led = refl; laid_led = refl }
led (mods false true true true false true) = record { rows_led = refl; laid_led = refl }
led (mods false true true true false false) = record { rows_led = refl; laid_led = refl }
led (mods false true true false true true) = record { rows_led = refl; laid_led = refl }
led (mods false true true false true false) = record { rows_led = refl; laid_led = refl }
led (mods false true true false false true) = record { rows_led = refl; laid_led = refl }
led (mods false true true false false false) = record { rows_led = refl; laid_led = refl }
led (mods false true false true true true) = record { rows_led = refl; laid_led = refl }
led (mods false true false true true false) = record { rows_led = refl; laid_led = refl }
led (mods false true false true false true) = record { rows_led = refl; laid_led = refl }
led (mods false true false true false false) = record { rows_led = refl; laid_led = refl }
led (mods false true false false true true) = record { rows_led = refl; laid_led = refl }
led (mods false true false false true false) = record { rows_led = refl; laid_led = refl }
led (mods false true false false false true) = record { rows_led = refl; laid_led = refl }
led (mods false true false false false false) = record { rows_led = refl; laid_led = refl }
led (mods false false true true true true) = record { rows_led = refl; laid_led = refl }
led (mods false false true true true false) = record { rows_led = refl; laid_led = refl }
led (mods false false true true false true) = record { rows_led = refl; laid_led = refl }
led (mods false false true true false false) = record { rows_led = refl; laid_led = refl }
led (mods false false true false true true) = record { rows_led = refl; laid_led = refl }
led (mods false false true false true false) = record { rows_led = refl; laid_led = refl }
led (mods false false true false false true) = record { rows_led = refl; laid_led = refl }
led (mods false false true false false false) = record { rows_led = refl; laid_led = refl }
led (mods false false false true true true) = record { rows_led = refl; laid_led = refl }
led (mods false false false true true false) = record { rows_led = refl; laid_led = refl }
led (mods false false false true false true) = record { rows_led = refl; laid_led = refl }
led (mods false false false true false false) = record { rows_led = refl; laid_led = refl }
led (mods false false false false true true) = record { rows_led = refl; laid_led = refl }
led (mods false false false false true false) = record { rows_led = refl; laid_led = refl }
led (mods false false false false false true) = record { rows_led = refl; laid_led = refl }
led (mods false false false false false false) = record { rows_led = refl; laid_led = refl }
led (member true) = record { rows_led = refl; laid_led = refl }
led (member false) = record { rows_led = refl; laid_led = refl }
led (method_body true) = record { rows_led = refl; laid_led = refl }
led (method_body false) = record { rows_led = refl; laid_led = refl }
led any_word = record { rows_led = refl; laid_led = refl }
led print_part = record { rows_led = refl; laid_led = refl }
led not_part = record { rows_led = refl; laid_led = refl }
led unary_part = record { rows_led = refl; laid_led = refl }
led quote_rest = record { rows_led = refl; laid_led = refl }
led (array_part true) = record { rows_led = refl; laid_led = refl }
led (array_part false) = record { rows_led = refl; laid_led = refl }
led (prim true) = record { rows_led = refl; laid_led = refl }
led (prim false) = record { rows_led = refl; laid_led = refl }
led (after_colons true) = record { rows_led = refl; laid_led = refl }
led (after_colons false) = record { rows_led = refl; laid_led = refl }
led (tail word_seen true) = record { rows_led = refl; laid_led = refl }
led (tail word_seen false) = record { rows_led = refl; laid_led = refl }
led (tail var_seen true) = record { rows_led = refl; laid_led = refl }
led (tail var_seen false) = record { rows_led = refl; laid_led = refl }
led (tail this_seen true) = record { rows_led = refl; laid_led = refl }
led (tail this_seen false) = record { rows_led = refl; laid_led = refl }
led (tail place_seen true) = record { rows_led = refl; laid_led = refl }
led (tail place_seen false) = record { rows_led = refl; laid_led = refl }
led (tail other_seen true) = record { rows_led = refl; laid_led = refl }
led (tail other_seen false) = record { rows_led = refl; laid_led = refl }
led (tail place_member_seen true) = record { rows_led = refl; laid_led = refl }
led (tail place_member_seen false) = record { rows_led = refl; laid_led = refl }
led (tail other_member_seen true) = record { rows_led = refl; laid_led = refl }
led (tail other_member_seen false) = record { rows_led = refl; laid_led = refl }
led (tail static_member_seen true) = record { rows_led = refl; laid_led = refl }
led (tail static_member_seen false) = record { rows_led = refl; laid_led = refl }
led (tail exit_seen true) = record { rows_led = refl; laid_led = refl }
led (tail exit_seen false) = record { rows_led = refl; laid_led = refl }
led (tail new_seen true) = record { rows_led = refl; laid_led = refl }
led (tail new_seen false) = record { rows_led = refl; laid_led = refl }
led (index_part true true) = record { rows_led = refl; laid_led = refl }
led (index_part true false) = record { rows_led = refl; laid_led = refl }
led (index_part false true) = record { rows_led = refl; laid_led = refl }
led (index_part false false) = record { rows_led = refl; laid_led = refl }
led assign_only = record { rows_led = refl; laid_led = refl }
led value_or_reference = record { rows_led = refl; laid_led = refl }
led (member_part true true) = record { rows_led = refl; laid_led = refl }
led (member_part true false) = record { rows_led = refl; laid_led = refl }
led (member_part false true) = record { rows_led = refl; laid_led = refl }
led (member_part false false) = record { rows_led = refl; laid_led = refl }
led args = record { rows_led = refl; laid_led = refl }
led more_args = record { rows_led = refl; laid_led = refl }
led (items in_full) = record { rows_led = refl; laid_led = refl }
led (items in_const) = record { rows_led = refl; laid_led = refl }
led (item_expr in_full) = record { rows_led = refl; laid_led = refl }
led (item_expr in_const) = record { rows_led = refl; laid_led = refl }
led (arrow_value in_full) = record { rows_led = refl; laid_led = refl }
led (arrow_value in_const) = record { rows_led = refl; laid_led = refl }
led (more_items in_full) = record { rows_led = refl; laid_led = refl }
led (more_items in_const) = record { rows_led = refl; laid_led = refl }
led more_places = record { rows_led = refl; laid_led = refl }
led place = record { rows_led = refl; laid_led = refl }
led step_place = record { rows_led = refl; laid_led = refl }
led static_place = record { rows_led = refl; laid_led = refl }
led place_tail = record { rows_led = refl; laid_led = refl }
led this_place_tail = record { rows_led = refl; laid_led = refl }
led place_member_part = record { rows_led = refl; laid_led = refl }
led c_not_part = record { rows_led = refl; laid_led = refl }
led c_unary_part = record { rows_led = refl; laid_led = refl }
led c_prim = record { rows_led = refl; laid_led = refl }
led c_word_tail = record { rows_led = refl; laid_led = refl }
led c_member = record { rows_led = refl; laid_led = refl }
led c_array_part = record { rows_led = refl; laid_led = refl }
led begun_prim = record { rows_led = refl; laid_led = refl }
led question_part = record { rows_led = refl; laid_led = refl }
led c_question_part = record { rows_led = refl; laid_led = refl }
led (operators in_full low_or) = record { rows_led = refl; laid_led = refl }
led (operators in_full low_xor) = record { rows_led = refl; laid_led = refl }
led (operators in_full low_and) = record { rows_led = refl; laid_led = refl }
led (operators in_full choice) = record { rows_led = refl; laid_led = refl }
led (operators in_full coalescing) = record { rows_led = refl; laid_led = refl }
led (operators in_full either) = record { rows_led = refl; laid_led = refl }
led (operators in_full both) = record { rows_led = refl; laid_led = refl }
led (operators in_full equality) = record { rows_led = refl; laid_led = refl }
led (operators in_full order) = record { rows_led = refl; laid_led = refl }
led (operators in_full sum) = record { rows_led = refl; laid_led = refl }
led (operators in_full product) = record { rows_led = refl; laid_led = refl }
led (operators in_full instance) = record { rows_led = refl; laid_led = refl }
led (operators in_const low_or) = record { rows_led = refl; laid_led = refl }
led (operators in_const low_xor) = record { rows_led = refl; laid_led = refl }
led (operators in_const low_and) = record { rows_led = refl; laid_led = refl }
led (operators in_const choice) = record { rows_led = refl; laid_led = refl }
led (operators in_const coalescing) = record { rows_led = refl; laid_led = refl }
led (operators in_const either) = record { rows_led = refl; laid_led = refl }
led (operators in_const both) = record { rows_led = refl; laid_led = refl }
led (operators in_const equality) = record { rows_led = refl; laid_led = refl }
led (operators in_const order) = record { rows_led = refl; laid_led = refl }
led (operators in_const sum) = record { rows_led = refl; laid_led = refl }
led (operators in_const product) = record { rows_led = refl; laid_led = refl }
led (operators in_const instance) = record { rows_led = refl; laid_led = refl }
led (level in_full low_or) = record { rows_led = refl; laid_led = refl }
led (level in_full low_xor) = record { rows_led = refl; laid_led = refl }
led (level in_full low_and) = record { rows_led = refl; laid_led = refl }
led (level in_full choice) = record { rows_led = refl; laid_led = refl }
led (level in_full coalescing) = record { rows_led = refl; laid_led = refl }
led (level in_full either) = record { rows_led = refl; laid_led = refl }
led (level in_full both) = record { rows_led = refl; laid_led = refl }
led (level in_full equality) = record { rows_led = refl; laid_led = refl }
led (level in_full order) = record { rows_led = refl; laid_led = refl }
led (level in_full sum) = record { rows_led = refl; laid_led = refl }
led (level in_full product) = record { rows_led = refl; laid_led = refl }
led (level in_full instance) = record { rows_led = refl; laid_led = refl }
led (level in_const low_or) = record { rows_led = refl; laid_led = refl }
led (level in_const low_xor) = record { rows_led = refl; laid_led = refl }
led (level in_const low_and) = record { rows_led = refl; laid_led = refl }
led (level in_const choice) = record { rows_led = refl; laid_led = refl }
led (level in_const coalescing) = record { rows_led = refl; laid_led = refl }
led (level in_const either) = record { rows_led = refl; laid_led = refl }
led (level in_const both) = record { rows_led = refl; laid_led = refl }
led (level in_const equality) = record { rows_led = refl; laid_led = refl }
led (level in_const order) = record { rows_led = refl; laid_led = refl }
led (level in_const sum) = record { rows_led = refl; laid_led = refl }
led (level in_const product) = record { rows_led = refl; laid_led = refl }
led (level in_const instance) = record { rows_led = refl; laid_led = refl }
led (begun low_or) = record { rows_led = refl; laid_led = refl }
led (begun low_xor) = record { rows_led = refl; laid_led = refl }
led (begun low_and) = record { rows_led = refl; laid_led = refl }
led (begun choice) = record { rows_led = refl; laid_led = refl }
led (begun coalescing) = record { rows_led = refl; laid_led = refl }
led (begun either) = record { rows_led = refl; laid_led = refl }
led (begun both) = record { rows_led = refl; laid_led = refl }
led (begun equality) = record { rows_led = refl; laid_led = refl }
led (begun order) = record { rows_led = refl; laid_led = refl }
led (begun sum) = record { rows_led = refl; laid_led = refl }
led (begun product) = record { rows_led = refl; laid_led = refl }
led (begun instance) = record { rows_led = refl; laid_led = refl }

pub takes_solid : (a : Part) → takes a ≡ true → is_solid a ≡ true
takes_solid file h = refl
takes_solid stmts h = absurd cc
takes_solid stmt h = refl
takes_solid if_body h = refl
takes_solid if_rest h = absurd cc
takes_solid if_listed_rest h = refl
takes_solid (loop_body of_while) h = refl
takes_solid (loop_body of_for) h = refl
takes_solid (loop_body of_foreach) h = refl
takes_solid switch_body h = refl
takes_solid maybe_semi h = absurd cc
takes_solid arms h = absurd cc
takes_solid arm_sign h = refl
takes_solid maybe_int h = absurd cc
takes_solid maybe_expr h = absurd cc
takes_solid second_var h = absurd cc
takes_solid more_vars h = absurd cc
takes_solid after_static h = refl
takes_solid more_static h = absurd cc
takes_solid maybe_default h = absurd cc
takes_solid more_consts h = absurd cc
takes_solid maybe_text h = absurd cc
takes_solid first_catch h = refl
takes_solid more_catches h = absurd cc
takes_solid more_caught h = absurd cc
takes_solid params h = absurd cc
takes_solid more_params h = absurd cc
takes_solid param h = refl
takes_solid maybe_amp h = absurd cc
takes_solid hint_name h = refl
takes_solid maybe_hint h = absurd cc
takes_solid hint h = refl
takes_solid maybe_result h = absurd cc
takes_solid plain_word h = refl
takes_solid class_name h = refl
takes_solid class_or_var h = refl
takes_solid maybe_parent h = absurd cc
takes_solid maybe_interfaces h = absurd cc
takes_solid maybe_parents h = absurd cc
takes_solid more_names h = absurd cc
takes_solid (members true) h = absurd cc
takes_solid (members false) h = absurd cc
takes_solid more_class_consts h = absurd cc
takes_solid more_properties h = absurd cc
takes_solid any_var h = refl
takes_solid (mods true true true true true true) h = refl
takes_solid (mods true true true true true false) h = refl
takes_solid (mods true true true true false true) h = refl
takes_solid (mods true true true true false false) h = refl
takes_solid (mods true true true false true true) h = refl
takes_solid (mods true true true false true false) h = refl
takes_solid (mods true true true false false true) h = refl
takes_solid (mods true true true false false false) h = refl
takes_solid (mods true true false true true true) h = refl
takes_solid (mods true true false true true false) h = refl
takes_solid (mods true true false true false true) h = refl
takes_solid (mods true true false true false false) h = refl
takes_solid (mods true true false false true true) h = refl
takes_solid (mods true true false false true false) h = refl
takes_solid (mods true true false false false true) h = refl
takes_solid (mods true true false false false false) h = refl
takes_solid (mods true false true true true true) h = refl
takes_solid (mods true false true true true false) h = refl
takes_solid (mods true false true true false true) h = refl
takes_solid (mods true false true true false false) h = refl
takes_solid (mods true false true false true true) h = refl
takes_solid (mods true false true false true false) h = refl
takes_solid (mods true false true false false true) h = refl
takes_solid (mods true false true false false false) h = refl
takes_solid (mods true false false true true true) h = refl
takes_solid (mods true false false true true false) h = refl
takes_solid (mods true false false true false true) h = refl
takes_solid (mods true false false true false false) h = refl
takes_solid (mods true false false false true true) h = refl
takes_solid (mods true false false false true false) h = refl
takes_solid (mods true false false false false true) h = refl
takes_solid (mods true false false false false false) h = refl
takes_solid (mods false true true true true true) h = refl
takes_solid (mods false true true true true false) h = refl
takes_solid (mods false true true true false true) h = refl
takes_solid (mods false true true true false false) h = refl
takes_solid (mods false true true false true true) h = refl
takes_solid (mods false true true false true false) h = refl
takes_solid (mods false true true false false true) h = refl
takes_solid (mods false true true false false false) h = refl
takes_solid (mods false true false true true true) h = refl
takes_solid (mods false true false true true false) h = refl
takes_solid (mods false true false true false true) h = refl
takes_solid (mods false true false true false false) h = refl
takes_solid (mods false true false false true true) h = refl
takes_solid (mods false true false false true false) h = refl
takes_solid (mods false true false false false true) h = refl
takes_solid (mods false true false false false false) h = refl
takes_solid (mods false false true true true true) h = refl
takes_solid (mods false false true true true false) h = refl
takes_solid (mods false false true true false true) h = refl
takes_solid (mods false false true true false false) h = refl
takes_solid (mods false false true false true true) h = refl
takes_solid (mods false false true false true false) h = refl
takes_solid (mods false false true false false true) h = refl
takes_solid (mods false false true false false false) h = refl
takes_solid (mods false false false true true true) h = refl
takes_solid (mods false false false true true false) h = refl
takes_solid (mods false false false true false true) h = refl
takes_solid (mods false false false true false false) h = refl
takes_solid (mods false false false false true true) h = refl
takes_solid (mods false false false false true false) h = refl
takes_solid (mods false false false false false true) h = refl
takes_solid (mods false false false false false false) h = refl
takes_solid (member true) h = refl
takes_solid (member false) h = refl
takes_solid (method_body true) h = refl
takes_solid (method_body false) h = refl
takes_solid any_word h = refl
takes_solid print_part h = refl
takes_solid not_part h = refl
takes_solid unary_part h = refl
takes_solid quote_rest h = refl
takes_solid (array_part true) h = refl
takes_solid (array_part false) h = refl
takes_solid (prim true) h = refl
takes_solid (prim false) h = refl
takes_solid (after_colons true) h = refl
takes_solid (after_colons false) h = refl
takes_solid (tail word_seen true) h = absurd cc
takes_solid (tail word_seen false) h = absurd cc
takes_solid (tail var_seen true) h = absurd cc
takes_solid (tail var_seen false) h = absurd cc
takes_solid (tail this_seen true) h = absurd cc
takes_solid (tail this_seen false) h = absurd cc
takes_solid (tail place_seen true) h = absurd cc
takes_solid (tail place_seen false) h = absurd cc
takes_solid (tail other_seen true) h = absurd cc
takes_solid (tail other_seen false) h = absurd cc
takes_solid (tail place_member_seen true) h = absurd cc
takes_solid (tail place_member_seen false) h = absurd cc
takes_solid (tail other_member_seen true) h = absurd cc
takes_solid (tail other_member_seen false) h = absurd cc
takes_solid (tail static_member_seen true) h = absurd cc
takes_solid (tail static_member_seen false) h = absurd cc
takes_solid (tail exit_seen true) h = absurd cc
takes_solid (tail exit_seen false) h = absurd cc
takes_solid (tail new_seen true) h = absurd cc
takes_solid (tail new_seen false) h = absurd cc
takes_solid (index_part true true) h = refl
takes_solid (index_part true false) h = refl
takes_solid (index_part false true) h = refl
takes_solid (index_part false false) h = refl
takes_solid assign_only h = refl
takes_solid value_or_reference h = refl
takes_solid (member_part true true) h = refl
takes_solid (member_part true false) h = refl
takes_solid (member_part false true) h = refl
takes_solid (member_part false false) h = refl
takes_solid args h = absurd cc
takes_solid more_args h = absurd cc
takes_solid (items in_full) h = absurd cc
takes_solid (items in_const) h = absurd cc
takes_solid (item_expr in_full) h = refl
takes_solid (item_expr in_const) h = refl
takes_solid (arrow_value in_full) h = absurd cc
takes_solid (arrow_value in_const) h = absurd cc
takes_solid (more_items in_full) h = absurd cc
takes_solid (more_items in_const) h = absurd cc
takes_solid more_places h = absurd cc
takes_solid place h = refl
takes_solid step_place h = refl
takes_solid static_place h = refl
takes_solid place_tail h = absurd cc
takes_solid this_place_tail h = refl
takes_solid place_member_part h = refl
takes_solid c_not_part h = refl
takes_solid c_unary_part h = refl
takes_solid c_prim h = refl
takes_solid c_word_tail h = absurd cc
takes_solid c_member h = refl
takes_solid c_array_part h = refl
takes_solid begun_prim h = refl
takes_solid question_part h = refl
takes_solid c_question_part h = refl
takes_solid (operators in_full low_or) h = absurd cc
takes_solid (operators in_full low_xor) h = absurd cc
takes_solid (operators in_full low_and) h = absurd cc
takes_solid (operators in_full choice) h = absurd cc
takes_solid (operators in_full coalescing) h = absurd cc
takes_solid (operators in_full either) h = absurd cc
takes_solid (operators in_full both) h = absurd cc
takes_solid (operators in_full equality) h = absurd cc
takes_solid (operators in_full order) h = absurd cc
takes_solid (operators in_full sum) h = absurd cc
takes_solid (operators in_full product) h = absurd cc
takes_solid (operators in_full instance) h = absurd cc
takes_solid (operators in_const low_or) h = absurd cc
takes_solid (operators in_const low_xor) h = absurd cc
takes_solid (operators in_const low_and) h = absurd cc
takes_solid (operators in_const choice) h = absurd cc
takes_solid (operators in_const coalescing) h = absurd cc
takes_solid (operators in_const either) h = absurd cc
takes_solid (operators in_const both) h = absurd cc
takes_solid (operators in_const equality) h = absurd cc
takes_solid (operators in_const order) h = absurd cc
takes_solid (operators in_const sum) h = absurd cc
takes_solid (operators in_const product) h = absurd cc
takes_solid (operators in_const instance) h = absurd cc
takes_solid (level in_full low_or) h = refl
takes_solid (level in_full low_xor) h = refl
takes_solid (level in_full low_and) h = refl
takes_solid (level in_full choice) h = refl
takes_solid (level in_full coalescing) h = refl
takes_solid (level in_full either) h = refl
takes_solid (level in_full both) h = refl
takes_solid (level in_full equality) h = refl
takes_solid (level in_full order) h = refl
takes_solid (level in_full sum) h = refl
takes_solid (level in_full product) h = refl
takes_solid (level in_full instance) h = refl
takes_solid (level in_const low_or) h = absurd cc
takes_solid (level in_const low_xor) h = absurd cc
takes_solid (level in_const low_and) h = absurd cc
takes_solid (level in_const choice) h = refl
takes_solid (level in_const coalescing) h = absurd cc
takes_solid (level in_const either) h = absurd cc
takes_solid (level in_const both) h = absurd cc
takes_solid (level in_const equality) h = absurd cc
takes_solid (level in_const order) h = absurd cc
takes_solid (level in_const sum) h = refl
takes_solid (level in_const product) h = refl
takes_solid (level in_const instance) h = absurd cc
takes_solid (begun low_or) h = refl
takes_solid (begun low_xor) h = refl
takes_solid (begun low_and) h = refl
takes_solid (begun choice) h = refl
takes_solid (begun coalescing) h = refl
takes_solid (begun either) h = refl
takes_solid (begun both) h = refl
takes_solid (begun equality) h = refl
takes_solid (begun order) h = refl
takes_solid (begun sum) h = refl
takes_solid (begun product) h = refl
takes_solid (begun instance) h = refl

pub rule_led : (a : Part) (kind : Kind) (r : Rule) → choose a kind ≡ Some r → lead (production r) ≤ reach a
unfolding choose
rule_led a kind r c = elim (or_false (holds (code kind) (stops a))) [
  | inl y ↦ let e : Some (none_of a) ≡ Some r = rw y at c in let f : none_of a ≡ r = cc in subst (λ x. lead (production x) ≤ reach a) f (rw (empty_production a) (omega arith))
  | inr y ↦
      let d : pick (code kind) (last_of a) (rows a) ≡ Some r = rw y at c in
      elim (picked (λ k. leads a) (code kind) (last_of a) (rows a) r d (led a).rows_led) [
        | inl l ↦ elim (last_is a r l) [
          | inl f ↦ rw (f.1, empty_production a) (omega arith)
          | inr f ↦ leb-true _ _ (passed (leads a) (laid a) r f (led a).laid_led)
        ]
        | inr q ↦ leb-true _ _ q.1
      ]
]
