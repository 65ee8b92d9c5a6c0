-- What operators do with values, and what is put out.
use Rattle.std.specs.Prelude.{ℕ, ◌+◌, ◌^◌, ◌*◌, ℤ, pos, negsuc, List, [], ◌∷◌, ◌++◌, length, Bool, true, false, not, ◌||◌, ◌&&◌, nat_le, if◌then◌else◌}
use Rattle.std.specs.declared.option.Option.{Option}
use Rattle.std.specs.declared.option.Option.TheVariants.{Some, None}
use Rattle.std.specs.declared.cmp.Ordering.{Ordering}
use Rattle.std.specs.declared.cmp.Ordering.TheVariants as order
use Rattle.order_map.specs.declared.key.Key.TheVariants.{Int}
use Rattle.php_tree.specs.declared.expr.ChainOp.{ChainOp}
use Rattle.php_tree.specs.declared.expr.ChainOp.TheVariants as chain
use Rattle.php_tree.specs.declared.expr.CompareOp.{CompareOp}
use Rattle.php_tree.specs.declared.expr.CompareOp.TheVariants as compare
use Rattle.php_tree.specs.declared.expr.UnaryOp.{UnaryOp}
use Rattle.php_tree.specs.declared.expr.UnaryOp.TheVariants as unary
use Rattle.php_values.specs.declared.fault.ValueFault.{ValueFault}
use Rattle.php_values.specs.declared.op.ArithOp.{ArithOp}
use Rattle.php_values.specs.declared.op.ArithOp.TheVariants as arith
use Rattle.php_values.specs.Data.{Data, null, truth, int, bytes, array, object, of_pairs, no_pairs, pair}
use Rattle.php_values.specs.Convert.{truth_of, text_of, int_of}
use Rattle.php_values.specs.Compare.{loose_equal, strict_same}
use Rattle.php_values.specs.Compare as values
use Rattle.php_values.specs.Arithmetic.{arithmetic, max_text}
use Rattle.php_meaning.specs.declared.fatal.FatalName.TheVariants as name
use Rattle.php_meaning.specs.Course.{Prints, Does, Then, give, on_value}
use Rattle.php_meaning.specs.Refusals.{fatal, answered, value_refused, operand_refused, text_refused}

-- ---- texts and output

-- goes on with the text of a value
abbrev pub as_text : (List ℕ → Does) → Data → Does
as_text go d = answered text_refused go (text_of d)

-- goes on with a text that has more behind it, where it is not too long
abbrev pub extended : List ℕ → List ℕ → (List ℕ → Does) → Does
extended t more go = if nat_le (length t + length more) max_text then go (t ++ more) else fatal name.Size

-- the greatest length of the output: 4 MiB
abbrev pub max_output : ℕ
max_output = 2 ^ 22

-- bytes are put out, where the output is not too long with them
abbrev pub put_out : List ℕ → Does → Does
put_out t go w k =
    if nat_le (w.printed + length t) max_output then Prints t (go (record w { printed = w.printed + length t }) k) else fatal name.Size w k

-- ---- arithmetic and chains

abbrev pub refused_by : ArithOp → ValueFault → Does
refused_by arith.Add = operand_refused
refused_by arith.Subtract = operand_refused
refused_by arith.Multiply = operand_refused
refused_by arith.Divide = operand_refused
refused_by arith.Remainder = operand_refused
refused_by arith.Join = text_refused

abbrev pub computed : ArithOp → Data → Data → Does
computed op a b = answered (refused_by op) give (arithmetic op a b)

-- the value of a chain where its left operand decides it
abbrev pub decided : ChainOp → Data → Option Data
decided chain.LowOr a = if truth_of a then Some (truth true) else None
decided chain.LowXor a = None
decided chain.LowAnd a = if truth_of a then None else Some (truth false)
decided chain.Or a = if truth_of a then Some (truth true) else None
decided chain.And a = if truth_of a then None else Some (truth false)
decided chain.Add a = None
decided chain.Sub a = None
decided chain.Join a = None
decided chain.Mul a = None
decided chain.Div a = None
decided chain.Rem a = None

abbrev pub one_of : Bool → Bool → Bool
one_of true b = not b
one_of false b = b

-- both operands of a chain
abbrev pub chained : ChainOp → Data → Data → Does
chained chain.LowOr a b = give (truth (truth_of b))
chained chain.LowXor a b = give (truth (one_of (truth_of a) (truth_of b)))
chained chain.LowAnd a b = give (truth (truth_of b))
chained chain.Or a b = give (truth (truth_of b))
chained chain.And a b = give (truth (truth_of b))
chained chain.Add a b = computed arith.Add a b
chained chain.Sub a b = computed arith.Subtract a b
chained chain.Join a b = computed arith.Join a b
chained chain.Mul a b = computed arith.Multiply a b
chained chain.Div a b = computed arith.Divide a b
chained chain.Rem a b = computed arith.Remainder a b

-- after the right operand of a chain comes the rest of the chain
abbrev pub right_of : ChainOp → Data → (Data → Does) → Then → Then
right_of op a more = on_value (λ b w k. chained op a b w (on_value more k))

-- a chain goes on with what its left operand decides, or with its right operand
abbrev pub unless_decided : Option Data → (Data → Does) → Does → Does
unless_decided (Some d) more right = more d
unless_decided None more right = right

-- ---- comparisons

abbrev pub number_of : Ordering → ℤ
number_of order.Less = negsuc 0
number_of order.Equal = pos 0
number_of order.Greater = pos 1

abbrev pub is_less : Ordering → Bool
is_less order.Less = true
is_less order.Equal = false
is_less order.Greater = false

abbrev pub is_greater : Ordering → Bool
is_greater order.Less = false
is_greater order.Equal = false
is_greater order.Greater = true

abbrev pub equality : (Bool → Bool) → Data → Data → Does
equality f a b = answered value_refused (λ same. give (truth (f same))) (loose_equal a b)

abbrev pub ordering : (Ordering → Data) → Data → Data → Does
ordering f a b = answered value_refused (λ o. give (f o)) (values.order a b)

abbrev pub compared : CompareOp → Data → Data → Does
compared compare.Equal a b = equality (λ same. same) a b
compared compare.NotEqual a b = equality not a b
compared compare.Identical a b = give (truth (strict_same a b))
compared compare.NotIdentical a b = give (truth (not (strict_same a b)))
compared compare.Order a b = ordering (λ o. int (number_of o)) a b
compared compare.Less a b = ordering (λ o. truth (is_less o)) a b
compared compare.LessEqual a b = ordering (λ o. truth (not (is_greater o))) a b
compared compare.Greater a b = ordering (λ o. truth (is_greater o)) a b
compared compare.GreaterEqual a b = ordering (λ o. truth (not (is_less o))) a b

-- after the right side of a comparison
abbrev pub compare_right : CompareOp → Data → Then → Then
compare_right op a = on_value (compared op a)

-- ---- operators before a value

abbrev pub one_element : Data → Data
one_element d = array (of_pairs (pair (Int (pos 0)) d no_pairs) 1)

abbrev pub to_array : Data → Does
to_array null = give (array (of_pairs no_pairs 0))
to_array (truth b) = give (one_element (truth b))
to_array (int n) = give (one_element (int n))
to_array (bytes t) = give (one_element (bytes t))
to_array (array a) = give (array a)
to_array (object n) = fatal name.Mistyped

abbrev pub before_value : UnaryOp → Data → Does
before_value unary.Not d = give (truth (not (truth_of d)))
before_value unary.Plus d = computed arith.Add (int (pos 0)) d
before_value unary.Minus d = computed arith.Subtract (int (pos 0)) d
before_value unary.Silence d = give d
before_value unary.ToInt d = answered value_refused (λ n. give (int n)) (int_of d)
before_value unary.ToText d = as_text (λ t. give (bytes t)) d
before_value unary.ToBool d = give (truth (truth_of d))
before_value unary.ToArray d = to_array d

-- ---- choices

abbrev pub if_true : {A : Type 0} → Data → A → A → A
if_true d a b = if truth_of d then a else b

abbrev pub is_null : Data → Bool
is_null null = true
is_null (truth b) = false
is_null (int n) = false
is_null (bytes t) = false
is_null (array a) = false
is_null (object n) = false
