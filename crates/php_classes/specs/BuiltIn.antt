-- The classes that are there from the start: the throwables.
use Rattle.std.specs.Prelude.{ℕ, Bool, true, false, List, [], ◌∷◌, map, codes, Some, None}
use Rattle.php_tree.specs.declared.decl.ClassKind.TheVariants.{Plain, Interface}
use Rattle.php_tree.specs.declared.decl.Visibility.TheVariants.{Public}
use Rattle.php_classes.specs.declared.class.ClassEntry.{ClassEntry}
use Rattle.php_classes.specs.declared.class.MemberEntry.{MemberEntry}
use Rattle.php_classes.specs.declared.class.MemberKind.TheVariants.{Method}

abbrev pub public_method : Bool → List ℕ → MemberEntry
public_method has_body name = record { kind = Method; name = name; visibility = Public; has_body = has_body }

-- what a throwable tells
abbrev pub told : List (List ℕ)
told = codes "getMessage" ∷ codes "getCode" ∷ codes "getFile" ∷ codes "getLine" ∷ []

abbrev pub throwable : ClassEntry
throwable = record {
  kind = Interface;
  name = codes "Throwable";
  parent = None;
  interfaces = [];
  members = map (public_method false) told;
}

-- `Exception` and `Error`
abbrev pub base : List ℕ → ClassEntry
base name = record {
  kind = Plain;
  name = name;
  parent = None;
  interfaces = 0 ∷ [];
  members = map (public_method true) (codes "__construct" ∷ told);
}

abbrev pub descendant : List ℕ → ℕ → ClassEntry
descendant name parent = record { kind = Plain; name = name; parent = Some parent; interfaces = []; members = [] }

abbrev pub built_in : List ClassEntry
built_in =
    throwable
    ∷ base (codes "Exception")
    ∷ base (codes "Error")
    ∷ descendant (codes "LogicException") 1
    ∷ descendant (codes "RuntimeException") 1
    ∷ descendant (codes "InvalidArgumentException") 3
    ∷ descendant (codes "TypeError") 2
    ∷ descendant (codes "ArithmeticError") 2
    ∷ descendant (codes "ArgumentCountError") 6
    ∷ descendant (codes "DivisionByZeroError") 7
    ∷ []
