-- Arguments one after another, over plain values.
use Rattle.std.proofs.Common.{◌≡◌, ℕ, zero, suc, ◌+◌, List, [], ◌∷◌, ◌++◌, length, drop, refl, sym, ap, ◌∙◌, arith}
use Rattle.std.specs.declared.option.Option.{Option}
use Rattle.std.specs.declared.option.Option.TheVariants.{Some, None}
use Rattle.php_tree.specs.declared.expr.Expr.{Expr}
use Rattle.php_tree.specs.Expressions as e
use Rattle.php_tree.specs.Expressions.{Expression, Expressions}
use Rattle.php_tree.specs.ExpressionOf.{expression_of}
use Rattle.php_tree.specs.Renamed.{renamed}
use Rattle.php_values.specs.Data.{data_of}
use Rattle.php_values.specs.declared.value.Value.{Value}
use Rattle.php_world.specs.Naming.{Naming}
use Rattle.php_world.specs.declared.reading.Reading.TheVariants.{Plain}
use Rattle.php_meaning.specs.World.{World, Name}
use Rattle.php_meaning.specs.Course.{Then, Does, Gives, on_value}
use Rattle.php_meaning.specs.Calls as calls
use Rattle.php_meaning.specs.Apply.{apply}
use Rattle.php_meaning.specs.Expressions.{read, arguments, handed, first_passing, other_passings}
use Rattle.php_rest.specs.Named.{named, all_named}
use Rattle.php_rest.specs.Views.{callee_named, argument_named, arguments_named}
use Rattle.php_rest.specs.Tails.{left_in}
use Rattle.php_rest.specs.Rest.{rest, after_call}
use Rattle.php_rest.specs.declared.tail.Tail.{Tail}
use Rattle.php_rest.specs.declared.call_frame.Argument.{Argument}
use Rattle.php_rest.specs.declared.call_frame.Argument.TheVariants.{Passed}
use Rattle.php_rest.specs.declared.call_frame.Callee.{Callee}
use Rattle.php_rest.specs.declared.call_frame.CallFrame.TheVariants as c
use Rattle.php_rest.specs.declared.frame.Frame.{Frame}
use Rattle.php_rest.specs.declared.frame.Frame.TheVariants.{OfCall}
use Rattle.php_argument_steps.specs.Reached.{arguments_left}
use Rattle.php_argument_steps.specs.Variables.{var_of}

-- ---- an argument is a variable, or is evaluated

abbrev some_or : ℕ → Option ℕ → ℕ
some_or d None = d
some_or d (Some x) = x

var_first : (n : ℕ → Name) (z : Expression ℕ) (x : ℕ) → var_of z ≡ Some x
    → (xs : Expressions Name) (ps : List calls.Passing) (so_far : List calls.Argument) (go : List calls.Argument → Does) (w : World) (k : Then)
    → arguments (e.expression (renamed n z) xs) ps so_far go w k ≡ handed (first_passing ps) (n x) (λ a. arguments xs (other_passings ps) (so_far ++ a ∷ []) go) w k
var_first n (e.var y l) x is xs ps so_far go w k =
    ap (λ o. handed (first_passing ps) (n (some_or x o)) (λ a. arguments xs (other_passings ps) (so_far ++ a ∷ []) go) w k) is
var_first n z x is xs ps so_far go w k = absurd (cc)

other_first : (n : ℕ → Name) (z : Expression ℕ) → var_of z ≡ None
    → (xs : Expressions Name) (ps : List calls.Passing) (so_far : List calls.Argument) (go : List calls.Argument → Does) (w : World) (k : Then)
    → arguments (e.expression (renamed n z) xs) ps so_far go w k ≡ read Plain (renamed n z) w (on_value (λ d. arguments xs (other_passings ps) (so_far ++ calls.passed d ∷ []) go) k)
other_first n (e.var y l) is xs ps so_far go w k = absurd (cc)
other_first n z is xs ps so_far go w k = refl

-- ---- the passings behind the first ones

other_drop : (n : ℕ) (ps : List calls.Passing) → other_passings (drop n ps) ≡ drop (suc n) ps
other_drop zero [] = refl
other_drop zero (p ∷ ps) = refl
other_drop (suc n) [] = refl
other_drop (suc n) (p ∷ ps) = other_drop n ps

length_named : (t : Naming) (args : List Argument) → length (arguments_named t args) ≡ length args
length_named t [] = refl
length_named t (a ∷ args) = ap suc (length_named t args)

named_more : (t : Naming) (args : List Argument) (a : Argument) → arguments_named t (args ++ a ∷ []) ≡ arguments_named t args ++ argument_named t a ∷ []
named_more t [] a = refl
named_more t (b ∷ args) a = ap (λ l. argument_named t b ∷ l) (named_more t args a)

length_more : {A : Type 0} → (xs : List A) (x : A) → length (xs ++ x ∷ []) ≡ suc (length xs)
length_more [] x = refl
length_more (y ∷ xs) x = ap suc (length_more xs x)

plus_one : (n : ℕ) → n + 1 ≡ suc n
plus_one n = omega arith

-- what is left behind one argument more
left_more : (t : Naming) (c : calls.Callee) (so_far : List calls.Argument) (a : calls.Argument) (es : List Expr)
    → arguments_left t c (so_far ++ a ∷ []) es ≡ arguments (all_named t es) (other_passings (drop (length so_far) (calls.passings c))) (so_far ++ a ∷ []) (apply c)
left_more t c so_far a es =
    ap (λ n. arguments (all_named t es) (drop n (calls.passings c)) (so_far ++ a ∷ []) (apply c)) (length_more so_far a)
    ∙ ap (λ ps. arguments (all_named t es) ps (so_far ++ a ∷ []) (apply c)) (sym (other_drop (length so_far) (calls.passings c)))

-- ---- steps

-- a variable was handed over
pub var_handed : (t : Naming) (c : calls.Callee) (so_far so_far' : List Argument) (all behind : List Expr) (first : Expr) (x n : ℕ) (a : Argument) (v w : World) (k : Then)
    → all ≡ first ∷ behind → Some x ≡ var_of (expression_of first) → so_far' ≡ so_far ++ a ∷ [] → n ≡ length so_far
    → ((go : calls.Argument → Does) (j : Then) → go (argument_named t a) v j ≡ handed (first_passing (drop n (calls.passings c))) (t.name x) go w j)
    → arguments_left t c (arguments_named t so_far') behind v k ≡ arguments_left t c (arguments_named t so_far) all w k
var_handed t c so_far so_far' all behind first x n a v w k is var more long given =
    let to_number = length_named t so_far ∙ sym long in
    (λ i. arguments_left t c ((ap (arguments_named t) more ∙ named_more t so_far a) i) behind v k)
    ∙ (λ i. left_more t c (arguments_named t so_far) (argument_named t a) behind i v k)
    ∙ (λ i. arguments (all_named t behind) (other_passings (drop (to_number i) (calls.passings c))) (arguments_named t so_far ++ argument_named t a ∷ []) (apply c) v k)
    ∙ given (λ b. arguments (all_named t behind) (other_passings (drop n (calls.passings c))) (arguments_named t so_far ++ b ∷ []) (apply c)) k
    ∙ sym (var_first t.name (expression_of first) x (sym var) (all_named t behind) (drop n (calls.passings c)) (arguments_named t so_far) (apply c) w k)
    ∙ (λ i. arguments (all_named t (sym is i)) (drop (sym to_number i) (calls.passings c)) (arguments_named t so_far) (apply c) w k)

-- an argument is evaluated
pub other_read : (t : Naming) (f : Callee) (so_far : List Argument) (all : List Expr) (behind : Tail Expr) (first : Expr) (s s' : List Frame) (w : World) (k : Then)
    → all ≡ first ∷ left_in behind → None ≡ var_of (expression_of first) → s' ≡ OfCall (c.ArgumentOf f so_far behind) ∷ s
    → read Plain (named t first) w (rest t s' k) ≡ arguments_left t (callee_named t f) (arguments_named t so_far) all w (rest t s k)
other_read t f so_far all behind first s s' w k is var push =
    (λ i. read Plain (named t first) w (rest t (push i) k))
    ∙ (λ i. read Plain (named t first) w (on_value (λ d. arguments (all_named t (left_in behind)) (drop (plus_one (length (arguments_named t so_far)) i) (calls.passings (callee_named t f))) (arguments_named t so_far ++ calls.passed d ∷ []) (apply (callee_named t f))) (rest t s k)))
    ∙ (λ i. read Plain (named t first) w (on_value (λ d. arguments (all_named t (left_in behind)) (sym (other_drop (length (arguments_named t so_far)) (calls.passings (callee_named t f))) i) (arguments_named t so_far ++ calls.passed d ∷ []) (apply (callee_named t f))) (rest t s k)))
    ∙ sym (other_first t.name (expression_of first) (sym var) (all_named t (left_in behind)) (drop (length (arguments_named t so_far)) (calls.passings (callee_named t f))) (arguments_named t so_far) (apply (callee_named t f)) w (rest t s k))
    ∙ (λ i. arguments_left t (callee_named t f) (arguments_named t so_far) (sym is i) w (rest t s k))

-- the value of an argument is there
pub value_given : (t : Naming) (f : Callee) (so_far so_far' : List Argument) (v : Value) (more : Tail Expr) (w : World) (k : Then)
    → so_far' ≡ so_far ++ Passed v ∷ []
    → arguments_left t (callee_named t f) (arguments_named t so_far') (left_in more) w k ≡ after_call t (c.ArgumentOf f so_far more) k (Gives (data_of v)) w
value_given t f so_far so_far' v more w k is =
    (λ i. arguments_left t (callee_named t f) ((ap (arguments_named t) is ∙ named_more t so_far (Passed v)) i) (left_in more) w k)
    ∙ (λ i. arguments (all_named t (left_in more)) (drop ((length_more (arguments_named t so_far) (calls.passed (data_of v)) ∙ sym (plus_one (length (arguments_named t so_far)))) i) (calls.passings (callee_named t f)))
    (arguments_named t so_far ++ calls.passed (data_of v) ∷ []) (apply (callee_named t f)) w k)
