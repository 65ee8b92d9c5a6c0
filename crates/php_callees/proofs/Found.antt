-- What names call among the functions that were declared.
use Rattle.std.proofs.Common.{◌≡◌, ℕ, List, [], ◌∷◌, Bool, true, false, if◌then◌else◌, Option, Some, None, option_map, map, refl, sym, ap, ◌∙◌}
use Rattle.std.specs.Str.{bytes_eq}
use Rattle.php_world.specs.Naming.{Naming}
use Rattle.php_tables.specs.Functions.{functions_of, first_named}
use Rattle.php_tables.specs.Named.{lower_name}
use Rattle.php_tables.specs.declared.function.Function.{Function}
use Rattle.php_tables.specs.declared.functions.Functions.{Functions}
use Rattle.php_meaning.specs.World.{function_in}
use Rattle.php_meaning.specs.Calls.{program, program_or, library_callee}
use Rattle.php_rest.specs.Views.{function_named}
use Rattle.php_callees.specs.Names.{declared_in, called_in}

picked : {A B : Type 0} (g : A → B) (b : Bool) (a : A) (x : Option A) (y : Option B) → y ≡ option_map g x → (if b then Some (g a) else y) ≡ option_map g (if b then Some a else x)
picked g true a x y e = refl
picked g false a x y e = e

-- a function of a name is found before or after its variables are named
pub found_named : (t : Naming) (name : List ℕ) (fs : List Function) → function_in name (map (function_named t) fs) ≡ option_map (function_named t) (first_named name fs)
found_named t name [] = refl
found_named t name (f ∷ fs) = picked (function_named t) (bytes_eq (lower_name f) name) f (first_named name fs) (function_in name (map (function_named t) fs)) (found_named t name fs)

-- a function of the program goes before a call of the library
pub found_callee : (t : Naming) (name : List ℕ) (fs : Functions) (o : Option Function) (f : Function) → o ≡ first_named name (functions_of fs) → o ≡ Some f
    → called_in name (declared_in t fs) ≡ Some (program (function_named t f))
found_callee t name fs o f is some = ap (λ x. program_or x (library_callee name)) (found_named t name (functions_of fs) ∙ ap (option_map (function_named t)) (sym is ∙ some))

pub no_function : (t : Naming) (name : List ℕ) (fs : Functions) (o : Option Function) → o ≡ first_named name (functions_of fs) → o ≡ None
    → called_in name (declared_in t fs) ≡ library_callee name
no_function t name fs o is none = ap (λ x. program_or x (library_callee name)) (found_named t name (functions_of fs) ∙ ap (option_map (function_named t)) (sym is ∙ none))
