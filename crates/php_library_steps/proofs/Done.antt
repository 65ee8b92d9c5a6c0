-- What calls of the library do once their definitions answered.
use Rattle.std.proofs.Common.{◌≡◌, ℕ, Bool, List, [], ◌∷◌, refl, sym, ap, ◌∙◌}
use Rattle.std.proofs.lemmas.Option.{none-some}
use Rattle.std.specs.declared.option.Option.{Option}
use Rattle.std.specs.declared.option.Option.TheVariants.{Some, None}
use Rattle.std.specs.declared.result.Result.TheVariants.{Ok, Err}
use Rattle.php_values.specs.Data.{Data}
use Rattle.php_world.specs.Naming.{Naming}
use Rattle.php_world.specs.Variables.{Variables, value_of}
use Rattle.php_arguments.specs.Answers.{CallAnswer}
use Rattle.php_arguments.specs.declared.fault.CallFault.{CallFault}
use Rattle.php_list_calls.specs.ListCalls.{ListAnswer}
use Rattle.php_meaning.specs.declared.fatal.FatalName.{FatalName}
use Rattle.php_meaning.specs.World.{World, Name, with_vars}
use Rattle.php_meaning.specs.Course.{Then, Gives, give}
use Rattle.php_meaning.specs.Refusals.{fatal, answered, call_refused}
use Rattle.php_meaning.specs.Library.{reads}
use Rattle.php_meaning.specs.Calls as calls
use Rattle.php_meaning.specs.Calls.{argument_values, assigned}
use Rattle.php_meaning.specs.Apply.{first_or_null, changed, not_counted, change_first, library_done}
use Rattle.php_rest.specs.Views.{arguments_named}
use Rattle.php_rest.specs.declared.call_frame.Argument.{Argument}
use Rattle.php_rest.specs.declared.call_frame.Argument.TheVariants.{Passed, Shares, Named}
use Rattle.php_library_steps.specs.Taking.{Takes, first_name}
use Rattle.php_library_steps.proofs.Taken.{assigned_next}

-- ---- calls that read

pub read_given : (g : List Data → CallAnswer Data) (args : List calls.Argument) (w : World) (k : Then) (ds : List Data) (d : Data)
    → ds ≡ argument_values w.vars args → g ds ≡ Ok d → k (Gives d) w ≡ library_done (reads g) args w k
read_given g args w k ds d is e = ap (λ o. answered call_refused give o w k) (sym e) ∙ ap (λ ds. answered call_refused give (g ds) w k) is

pub read_refused : (g : List Data → CallAnswer Data) (args : List calls.Argument) (w : World) (k : Then) (ds : List Data) (f : CallFault) (why : FatalName)
    → ds ≡ argument_values w.vars args → g ds ≡ Err f → call_refused f ≡ fatal why → fatal why w k ≡ library_done (reads g) args w k
read_refused g args w k ds f why is e law =
    ap (λ does. does w k) (sym law) ∙ ap (λ o. answered call_refused give o w k) (sym e) ∙ ap (λ ds. answered call_refused give (g ds) w k) is

-- ---- calls that change a variable

pub changed_to : (x : Name) (o : CallAnswer ListAnswer) (a : ListAnswer) (held new : Variables) (b : Bool) (w : World) (k : Then)
    → o ≡ Ok a → Takes x w.vars held b → new ≡ assigned x (first_or_null a.after) held → k (Gives a.value) (with_vars new w) ≡ answered call_refused (changed x) o w k
changed_to x o a held new b w k is takes e =
    ap (λ vs. k (Gives a.value) (with_vars vs w)) (assigned_next x (first_or_null a.after) w.vars held new b takes e) ∙ ap (λ o. answered call_refused (changed x) o w k) (sym is)

pub refused_to : (x : Name) (o : CallAnswer ListAnswer) (f : CallFault) (why : FatalName) (new : Variables) (w : World) (k : Then)
    → o ≡ Err f → call_refused f ≡ fatal why → new ≡ w.vars → fatal why (with_vars new w) k ≡ answered call_refused (changed x) o w k
refused_to x o f why new w k is law e =
    ap (λ vs. fatal why (with_vars vs w) k) e ∙ ap (λ does. does w k) (sym law) ∙ ap (λ o. answered call_refused (changed x) o w k) (sym is)

-- ---- the first argument

abbrev number_of : Option ℕ → ℕ
number_of None = 0
number_of (Some n) = n

pub first_value : (t : Naming) (args : List Argument) (n : ℕ) (vs : Variables) → first_name args ≡ Some n → first_or_null (argument_values vs (arguments_named t args)) ≡ value_of (t.name n) vs
first_value t [] n vs e = absurd (none-some n e)
first_value t (Passed value ∷ args) n vs e = absurd (none-some n e)
first_value t (Shares cell ∷ args) n vs e = absurd (none-some n e)
first_value t (Named number ∷ args) n vs e = ap (λ n. value_of (t.name n) vs) (ap number_of e)

pub named_first : (t : Naming) (f : List Data → CallAnswer ListAnswer) (args : List Argument) (n : ℕ) (w : World) (k : Then) → first_name args ≡ Some n
    → answered call_refused (changed (t.name n)) (f (argument_values w.vars (arguments_named t args))) w k ≡ change_first f (arguments_named t args) w k
named_first t f [] n w k e = absurd (none-some n e)
named_first t f (Passed value ∷ args) n w k e = absurd (none-some n e)
named_first t f (Shares cell ∷ args) n w k e = absurd (none-some n e)
named_first t f (Named number ∷ args) n w k e =
    ap (λ n. answered call_refused (changed (t.name n)) (f (argument_values w.vars (arguments_named t (Named number ∷ args)))) w k) (sym (ap number_of e))

pub none_named : (t : Naming) (f : List Data → CallAnswer ListAnswer) (args : List Argument) (w : World) (k : Then) → first_name args ≡ None
    → call_refused (not_counted (f (argument_values w.vars (arguments_named t args)))) w k ≡ change_first f (arguments_named t args) w k
none_named t f [] w k e = refl
none_named t f (Passed value ∷ args) w k e = refl
none_named t f (Shares cell ∷ args) w k e = refl
none_named t f (Named number ∷ args) w k e = absurd (none-some number (sym e))
