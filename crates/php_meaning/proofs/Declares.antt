-- Expressions and calls enter only functions that were declared, and declare none.
use Rattle.std.proofs.Common.{◌≡◌, ℕ, ◌+◌, Bool, true, false, List, [], ◌∷◌, ◌++◌, refl}
use Rattle.std.specs.Prelude.{codes, not, pos, nat_le, nat_lt, length, if◌then◌else◌}
use Rattle.std.specs.declared.option.Option.{Option}
use Rattle.std.specs.declared.option.Option.TheVariants.{Some, None}
use Rattle.std.specs.declared.result.Result.{Result}
use Rattle.std.specs.declared.result.Result.TheVariants.{Ok, Err}
use Rattle.std.specs.Str.{bytes_eq, str_to_ascii_lowercase}
use Rattle.app_load.specs.Entries.{Entry, file, function}
use Rattle.php_tree.specs.Expressions as e
use Rattle.php_tree.specs.Expressions.{Expression, ArrayItems, Links, Branches}
use Rattle.php_tree.specs.Statements.{Parameter}
use Rattle.php_tree.specs.declared.expr.ChainOp.{ChainOp}
use Rattle.php_tree.specs.declared.expr.CompareOp.{CompareOp}
use Rattle.php_tree.specs.declared.expr.CompareOp.TheVariants as compare
use Rattle.php_tree.specs.declared.expr.UnaryOp.{UnaryOp}
use Rattle.php_tree.specs.declared.expr.UnaryOp.TheVariants as unary
use Rattle.php_tree.specs.declared.expr.ChainOp.TheVariants as chain
use Rattle.php_values.specs.Convert.{text_of, int_of}
use Rattle.php_values.specs.Compare.{loose_equal, strict_same}
use Rattle.php_values.specs.Compare as values
use Rattle.php_values.specs.Arithmetic.{arithmetic, max_text}
use Rattle.php_meaning.specs.declared.fatal.FatalName.TheVariants as name
use Rattle.php_values.specs.Data.{Data, null, truth, int, bytes, array, object}
use Rattle.php_values.specs.declared.fault.ValueFault.{ValueFault}
use Rattle.php_values.specs.declared.fault.ValueFault.TheVariants as value
use Rattle.php_world.specs.declared.fault.PlaceFault.{PlaceFault}
use Rattle.php_world.specs.declared.fault.PlaceFault.TheVariants as place
use Rattle.php_arguments.specs.declared.fault.CallFault.{CallFault}
use Rattle.php_arguments.specs.declared.fault.CallFault.TheVariants as call
use Rattle.php_meaning.specs.declared.fatal.FatalName.{FatalName}
use Rattle.php_meaning.specs.World.{World, Name, Context, Position, Declared, path_of, function_in}
use Rattle.php_meaning.specs.Course.{Course, Prints, Signal, Gives, Normal, Returned, Thrown, Breaks, Continues, Then, Does, give, hand, on_value, then_do}
use Rattle.php_meaning.specs.Refusals.{fatal, answered, value_refused, operand_refused, text_refused, place_refused, call_refused}
use Rattle.php_meaning.specs.Operators as op
use Rattle.std.specs.declared.cmp.Ordering.{Ordering}
use Rattle.php_values.specs.declared.op.ArithOp.{ArithOp}
use Rattle.php_values.specs.declared.op.ArithOp.TheVariants as arith
use Rattle.php_meaning.proofs.Good.{AllFine, FineIn, Good, GoodThen, GoodDoes}

module _ (Fine : Entry → Type 0) (p : List ℕ) where
  pub on-value : (go : Data → Does) (k : Then) → ((d : Data) → GoodDoes Fine p (go d)) → GoodThen Fine p k → GoodThen Fine p (on_value go k)
  on-value go k h g (Gives d) w f = h d w k f g
  on-value go k h g Normal w f = g Normal w f
  on-value go k h g (Returned d) w f = g (Returned d) w f
  on-value go k h g (Thrown n) w f = g (Thrown n) w f
  on-value go k h g (Breaks n) w f = g (Breaks n) w f
  on-value go k h g (Continues n) w f = g (Continues n) w f

  pub then-do : (go : Does) (k : Then) → GoodDoes Fine p go → GoodThen Fine p k → GoodThen Fine p (then_do go k)
  then-do go k h g (Gives d) w f = g (Gives d) w f
  then-do go k h g Normal w f = h w k f g
  then-do go k h g (Returned d) w f = g (Returned d) w f
  then-do go k h g (Thrown n) w f = g (Thrown n) w f
  then-do go k h g (Breaks n) w f = g (Breaks n) w f
  then-do go k h g (Continues n) w f = g (Continues n) w f

  pub stops : (why : FatalName) → GoodDoes Fine p (fatal why)
  stops why w k f g = (tt {0})

  pub gives : (d : Data) → GoodDoes Fine p (give d)
  gives d w k f g = g (Gives d) w f

  pub answer : {A F : Type 0} (refused : F → Does) (go : A → Does) → ((x : F) → GoodDoes Fine p (refused x)) → ((a : A) → GoodDoes Fine p (go a)) → (r : Result A F) → GoodDoes Fine p (answered refused go r)
  answer refused go h i (Ok a) = i a
  answer refused go h i (Err x) = h x

  pub either : (b : Bool) (x y : Does) → GoodDoes Fine p x → GoodDoes Fine p y → GoodDoes Fine p (if b then x else y)
  either true x y h i = h
  either false x y h i = i

  pub either_course : (b : Bool) (x y : Course) → Good Fine x → Good Fine y → Good Fine (if b then x else y)
  either_course true x y h i = h
  either_course false x y h i = i

  -- ---- refusals

  pub value-refused : (x : ValueFault) → GoodDoes Fine p (value_refused x)
  value-refused value.Float = (λ w k f g. tt {0})
  value-refused value.Kind = (λ w k f g. tt {0})
  value-refused value.Size = (λ w k f g. tt {0})
  value-refused value.Zero = (λ w k f g. tt {0})
  value-refused value.Memory = (λ w k f g. tt {0})

  pub operand-refused : (x : ValueFault) → GoodDoes Fine p (operand_refused x)
  operand-refused value.Float = (λ w k f g. tt {0})
  operand-refused value.Kind = (λ w k f g. tt {0})
  operand-refused value.Size = (λ w k f g. tt {0})
  operand-refused value.Zero = (λ w k f g. tt {0})
  operand-refused value.Memory = (λ w k f g. tt {0})

  pub text-refused : (x : ValueFault) → GoodDoes Fine p (text_refused x)
  text-refused value.Float = (λ w k f g. tt {0})
  text-refused value.Kind = (λ w k f g. tt {0})
  text-refused value.Size = (λ w k f g. tt {0})
  text-refused value.Zero = (λ w k f g. tt {0})
  text-refused value.Memory = (λ w k f g. tt {0})

  pub place-refused : (x : PlaceFault) → GoodDoes Fine p (place_refused x)
  place-refused place.Kind = (λ w k f g. tt {0})
  place-refused place.Keys = (λ w k f g. tt {0})
  place-refused place.Size = (λ w k f g. tt {0})
  place-refused place.ObjectAsArray = (λ w k f g. tt {0})
  place-refused place.NotAnObject = (λ w k f g. tt {0})
  place-refused place.Memory = (λ w k f g. tt {0})

  pub call-refused : (x : CallFault) → GoodDoes Fine p (call_refused x)
  call-refused call.Arity = (λ w k f g. tt {0})
  call-refused call.Mistyped = (λ w k f g. tt {0})
  call-refused call.Float = (λ w k f g. tt {0})
  call-refused call.Sort = (λ w k f g. tt {0})
  call-refused call.Size = (λ w k f g. tt {0})
  call-refused call.Keys = (λ w k f g. tt {0})
  call-refused call.Zero = (λ w k f g. tt {0})
  call-refused call.Range = (λ w k f g. tt {0})
  call-refused call.Memory = (λ w k f g. tt {0})

  -- ---- operators

  pub as-text : (go : List ℕ → Does) → ((t : List ℕ) → GoodDoes Fine p (go t)) → (d : Data) → GoodDoes Fine p (op.as_text go d)
  as-text go h d = answer text_refused go text-refused h (text_of d)

  pub extends : (t more : List ℕ) (go : List ℕ → Does) → ((t : List ℕ) → GoodDoes Fine p (go t)) → GoodDoes Fine p (op.extended t more go)
  extends t more go h = either (nat_le (length t + length more) max_text) (go (t ++ more)) (fatal name.Size) (h (t ++ more)) ((λ w k f g. tt {0}))

  pub puts-out : (t : List ℕ) (go : Does) → GoodDoes Fine p go → GoodDoes Fine p (op.put_out t go)
  puts-out t go h w k f g = either_course (nat_le (w.printed + length t) op.max_output) (Prints t (go (record w { printed = w.printed + length t }) k)) (fatal name.Size w k) (h (record w { printed = w.printed + length t }) k f g) (tt {0})

  pub refused-by : (o : ArithOp) (x : ValueFault) → GoodDoes Fine p (op.refused_by o x)
  refused-by arith.Add = operand-refused
  refused-by arith.Subtract = operand-refused
  refused-by arith.Multiply = operand-refused
  refused-by arith.Divide = operand-refused
  refused-by arith.Remainder = operand-refused
  refused-by arith.Join = text-refused

  pub computes : (o : ArithOp) (a b : Data) → GoodDoes Fine p (op.computed o a b)
  computes o a b = answer (op.refused_by o) give (refused-by o) gives (arithmetic o a b)

  pub chains : (o : ChainOp) (a b : Data) → GoodDoes Fine p (op.chained o a b)
  chains chain.LowOr a b = (λ w k f g. g _ w f)
  chains chain.LowXor a b = (λ w k f g. g _ w f)
  chains chain.LowAnd a b = (λ w k f g. g _ w f)
  chains chain.Or a b = (λ w k f g. g _ w f)
  chains chain.And a b = (λ w k f g. g _ w f)
  chains chain.Add a b = computes arith.Add a b
  chains chain.Sub a b = computes arith.Subtract a b
  chains chain.Join a b = computes arith.Join a b
  chains chain.Mul a b = computes arith.Multiply a b
  chains chain.Div a b = computes arith.Divide a b
  chains chain.Rem a b = computes arith.Remainder a b

  pub right-of : (o : ChainOp) (a : Data) (more : Data → Does) (k : Then) → ((d : Data) → GoodDoes Fine p (more d)) → GoodThen Fine p k → GoodThen Fine p (op.right_of o a more k)
  right-of o a more k h g = on-value (λ b w j. op.chained o a b w (on_value more j)) k (λ b w j f i. chains o a b w (on_value more j) f (on-value more j h i)) g

  pub undecided : (d : Option Data) (more : Data → Does) (right : Does) → ((d : Data) → GoodDoes Fine p (more d)) → GoodDoes Fine p right → GoodDoes Fine p (op.unless_decided d more right)
  undecided (Some d) more right h i = h d
  undecided None more right h i = i

  pub equal : (f : Bool → Bool) (a b : Data) → GoodDoes Fine p (op.equality f a b)
  equal f a b = answer value_refused (λ same. give (truth (f same))) value-refused (λ x. gives (truth (f x))) (loose_equal a b)

  pub orders : (f : Ordering → Data) (a b : Data) → GoodDoes Fine p (op.ordering f a b)
  orders f a b = answer value_refused (λ o. give (f o)) value-refused (λ x. gives (f x)) (values.order a b)

  pub compares : (o : CompareOp) (a b : Data) → GoodDoes Fine p (op.compared o a b)
  compares compare.Equal a b = equal (λ same. same) a b
  compares compare.NotEqual a b = equal not a b
  compares compare.Identical a b = gives (truth (strict_same a b))
  compares compare.NotIdentical a b = gives (truth (not (strict_same a b)))
  compares compare.Order a b = orders (λ o. int (op.number_of o)) a b
  compares compare.Less a b = orders (λ o. truth (op.is_less o)) a b
  compares compare.LessEqual a b = orders (λ o. truth (not (op.is_greater o))) a b
  compares compare.Greater a b = orders (λ o. truth (op.is_greater o)) a b
  compares compare.GreaterEqual a b = orders (λ o. truth (not (op.is_less o))) a b

  pub makes_array : (d : Data) → GoodDoes Fine p (op.to_array d)
  makes_array null = (λ w k f g. g _ w f)
  makes_array (truth b) = (λ w k f g. g _ w f)
  makes_array (int n) = (λ w k f g. g _ w f)
  makes_array (bytes t) = (λ w k f g. g _ w f)
  makes_array (array a) = (λ w k f g. g _ w f)
  makes_array (object n) = (λ w k f g. tt {0})

  pub before-value : (o : UnaryOp) (d : Data) → GoodDoes Fine p (op.before_value o d)
  before-value unary.Not d = (λ w k f g. g _ w f)
  before-value unary.Plus d = computes arith.Add (int (pos 0)) d
  before-value unary.Minus d = computes arith.Subtract (int (pos 0)) d
  before-value unary.Silence d = gives d
  before-value unary.ToInt d = answer value_refused (λ n. give (int n)) value-refused (λ n. gives (int n)) (int_of d)
  before-value unary.ToText d = as-text (λ t. give (bytes t)) (λ t. gives (bytes t)) d
  before-value unary.ToBool d = (λ w k f g. g _ w f)
  before-value unary.ToArray d = makes_array d
