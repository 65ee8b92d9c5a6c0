-- Calls that ask something of a name.
use Rattle.std.proofs.Common.{◌≡◌, ℕ, Bool, List, [], ◌∷◌, length, get_or, sym, ap, ◌∙◌, arith}
use Rattle.std.specs.Option.{is_some}
use Rattle.std.specs.Str.{str_to_ascii_lowercase}
use Rattle.std.specs.declared.result.Result.TheVariants.{Ok}
use Rattle.php_values.specs.Data.{Data, truth}
use Rattle.php_world.specs.Naming.{Naming}
use Rattle.php_world.specs.Variables.{Variables}
use Rattle.php_arguments.specs.Arguments.{text_argument}
use Rattle.php_meaning.specs.World.{World}
use Rattle.php_meaning.specs.Course.{Then, Gives, give}
use Rattle.php_meaning.specs.Refusals.{answered, call_refused}
use Rattle.php_meaning.specs.Constants.{constant_value}
use Rattle.php_meaning.specs.Calls.{argument_value, callee_of}
use Rattle.php_meaning.specs.Apply.{defined_done, exists_done}
use Rattle.php_rest.specs.Views.{argument_named, arguments_named}
use Rattle.php_rest.specs.declared.call_frame.Argument.{Argument}

-- the text of the only argument
only_text : (t : Naming) (x a : Argument) (n : Data) (name : List ℕ) (vs : Variables) → a ≡ x → n ≡ argument_value vs (argument_named t a) → text_argument n ≡ Ok name
    → text_argument (argument_value vs (argument_named t x)) ≡ Ok name
only_text t x a n name vs is value e = ap text_argument (sym (value ∙ ap (λ a. argument_value vs (argument_named t a)) is)) ∙ e

pub defined_text : (t : Naming) (args : List Argument) (a : Argument) (n : Data) (name : List ℕ) (b : Bool) (w : World) (k : Then)
    → length args ≡ 1 → a ≡ get_or args 0 a → n ≡ argument_value w.vars (argument_named t a) → text_argument n ≡ Ok name → b ≡ is_some (constant_value name 0 w)
    → k (Gives (truth b)) w ≡ defined_done (arguments_named t args) w k
defined_text t [] a n name b w k one is value e known = absurd (omega (arith, one))
defined_text t (x ∷ []) a n name b w k one is value e known =
    ap (λ b. k (Gives (truth b)) w) known
    ∙ ap (λ o. answered call_refused (λ name w k. give (truth (is_some (constant_value name 0 w))) w k) o w k) (sym (only_text t x a n name w.vars is value e))
defined_text t (x ∷ y ∷ args) a n name b w k one is value e known = absurd (omega (arith, one))

pub exists_text : (t : Naming) (args : List Argument) (a : Argument) (n : Data) (name : List ℕ) (b : Bool) (w : World) (k : Then)
    → length args ≡ 1 → a ≡ get_or args 0 a → n ≡ argument_value w.vars (argument_named t a) → text_argument n ≡ Ok name → b ≡ is_some (callee_of (str_to_ascii_lowercase name) w)
    → k (Gives (truth b)) w ≡ exists_done (arguments_named t args) w k
exists_text t [] a n name b w k one is value e known = absurd (omega (arith, one))
exists_text t (x ∷ []) a n name b w k one is value e known =
    ap (λ b. k (Gives (truth b)) w) known
    ∙ ap (λ o. answered call_refused (λ name w k. give (truth (is_some (callee_of (str_to_ascii_lowercase name) w))) w k) o w k) (sym (only_text t x a n name w.vars is value e))
exists_text t (x ∷ y ∷ args) a n name b w k one is value e known = absurd (omega (arith, one))
