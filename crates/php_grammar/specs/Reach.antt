-- How far a part reaches down before any token is read: further than each part that is read there.
use Rattle.std.specs.Prelude.{ℕ, suc, max, Bool, true, false, not, ◌&&◌, List, [], ◌∷◌, if◌then◌else◌}
use Rattle.php_grammar.specs.Parts.{Context, Level, Part, Symbol, tok, sub, after_static, args, begun, both, c_not_part, c_question_part, c_unary_part, choice, coalescing, either, equality, file, if_body, in_const, in_full, index_part, instance, item_expr, items, level, loop_body, low_and, low_or, low_xor, maybe_expr, members, not_part, order, param, params, print_part, product, question_part, stmt, stmts, sum, unary_part, value_or_reference}
use Rattle.php_grammar.specs.Grammar.{stops, finishes}

abbrev pub is_cons : {A : Type 0} → List A → Bool
is_cons [] = false
is_cons (a ∷ more) = true

-- a value that stays the same has three levels only
abbrev pub is_level : Context → Level → Bool
is_level in_full l = true
is_level in_const choice = true
is_level in_const sum = true
is_level in_const product = true
is_level in_const _ = false

abbrev pub is_met : Part → Bool
is_met (level c l) = is_level c l
is_met _ = true

-- at least one token is read
abbrev pub takes : Part → Bool
takes a = not (is_cons (stops a)) && (not (finishes a) && is_met a)

unfoldable pub reach : Part → ℕ
reach file = 18
reach stmts = 17
reach stmt = 16
reach if_body = 17
reach (loop_body _) = 17
reach maybe_expr = 16
reach after_static = 13
reach params = 2
reach param = 1
reach (members _) = 1
reach print_part = 12
reach not_part = 3
reach unary_part = 1
reach (index_part _ _) = 16
reach value_or_reference = 12
reach args = 16
reach (items in_full) = 17
reach (items in_const) = 7
reach (item_expr in_full) = 16
reach (item_expr in_const) = 6
reach c_not_part = 2
reach c_unary_part = 1
reach question_part = 16
reach c_question_part = 6
reach (level in_full low_or) = 15
reach (level in_full low_xor) = 14
reach (level in_full low_and) = 13
reach (level in_full choice) = 11
reach (level in_full coalescing) = 10
reach (level in_full either) = 9
reach (level in_full both) = 8
reach (level in_full equality) = 7
reach (level in_full order) = 6
reach (level in_full sum) = 5
reach (level in_full product) = 4
reach (level in_full instance) = 2
reach (level in_const low_or) = 0
reach (level in_const low_xor) = 0
reach (level in_const low_and) = 0
reach (level in_const choice) = 5
reach (level in_const coalescing) = 0
reach (level in_const either) = 0
reach (level in_const both) = 0
reach (level in_const equality) = 0
reach (level in_const order) = 0
reach (level in_const sum) = 4
reach (level in_const product) = 3
reach (level in_const instance) = 0
reach (begun low_or) = 12
reach (begun low_xor) = 11
reach (begun low_and) = 10
reach (begun choice) = 9
reach (begun coalescing) = 8
reach (begun either) = 7
reach (begun both) = 6
reach (begun equality) = 5
reach (begun order) = 4
reach (begun sum) = 3
reach (begun product) = 2
reach (begun instance) = 1
reach _ = 0

-- more than the reach of each part that may be read before any token
abbrev pub lead : List Symbol → ℕ
lead [] = 0
lead (tok k ∷ p) = 0
lead (sub a ∷ p) = if takes a then suc (reach a) else max (suc (reach a)) (lead p)
