-- What a declaration adds to a table, and when it is refused.
use Rattle.std.specs.Prelude.{ℕ, ◌+◌, Bool, true, false, ◌==◌, ◌&&◌, ◌||◌, not, nat_lt, if◌then◌else◌, List, [], ◌∷◌, ◌++◌, length, codes, slice_get, Option, Some, None, is_some}
use Rattle.std.specs.Option.{option_to_list}
use Rattle.std.specs.List.{list_any, list_all, position}
use Rattle.php_tree.specs.declared.name.ClassName.{ClassName}
use Rattle.php_tree.specs.declared.decl.ClassKind.{ClassKind}
use Rattle.php_tree.specs.declared.decl.ClassKind.TheVariants.{Plain, Abstract as AbstractClass, Final, Interface}
use Rattle.php_tree.specs.declared.decl.Visibility.{Visibility}
use Rattle.php_tree.specs.declared.decl.Visibility.TheVariants.{Public, Protected, Private}
use Rattle.php_tree.specs.Statements.{Class, with_members}
use Rattle.php_classes.specs.declared.class.ClassEntry.{ClassEntry}
use Rattle.php_classes.specs.declared.class.Lineage.{Lineage}
use Rattle.php_classes.specs.declared.class.MemberEntry.{MemberEntry}
use Rattle.php_classes.specs.declared.class.MemberKind.TheVariants.{Method}
use Rattle.php_classes.specs.declared.class.MemberRef.{MemberRef}
use Rattle.php_classes.specs.declared.fault.ClassFault.{ClassFault}
use Rattle.php_classes.specs.declared.fault.ClassFault.TheVariants.{Redeclared, Unknown, Abstract}
use Rattle.php_classes.specs.Members.{same_kind, same_word, is_named}
use Rattle.php_classes.specs.Ancestors.{all_of, parent_lineage, lineages_of, ancestors}
use Rattle.php_classes.specs.LookUp.{members_at, first_among}
use Rattle.php_classes.specs.Entries.{entries_of}

-- ---- classes by name

-- the number of the class or interface of this name, in any ASCII case
abbrev pub class_named : List ℕ → List ClassEntry → Option ℕ
class_named name classes = position (λ c. same_word name c.name) classes

abbrev pub parent_number : List ClassEntry → Option ClassName → Option ℕ
parent_number classes None = None
parent_number classes (Some name) = class_named name.text classes

-- the numbers of those names that are declared
abbrev pub numbers_of : List ClassEntry → List ClassName → List ℕ
numbers_of classes [] = []
numbers_of classes (name ∷ names) = option_to_list (class_named name.text classes) ++ numbers_of classes names

abbrev pub is_declared : List ClassEntry → ClassName → Bool
is_declared classes name = is_some (class_named name.text classes)

abbrev pub parent_in : Option ClassEntry → Option ℕ
parent_in None = None
parent_in (Some c) = c.parent

-- the classes that a class names have numbers below this one
abbrev pub names_below : ℕ → ClassEntry → Bool
names_below number c = list_all (λ n. nat_lt n number) (option_to_list c.parent ++ c.interfaces)

-- from this number on each class names only classes with smaller numbers than its own
abbrev pub names_earlier : ℕ → List ClassEntry → Bool
names_earlier number [] = true
names_earlier number (c ∷ cs) = names_below number c && names_earlier (number + 1) cs

-- ---- what is added

abbrev pub entry_of : {V : Type 0} → List ClassEntry → Class V → ClassEntry
entry_of classes (with_members kind name parent interfaces ms line) = record {
  kind = kind;
  name = name.text;
  parent = parent_number classes parent;
  interfaces = numbers_of classes interfaces;
  members = entries_of ms;
}

-- ---- members that may not be declared again

abbrev pub is_private : Visibility → Bool
is_private Public = false
is_private Protected = false
is_private Private = true

-- `Exception` and `Error`
abbrev pub is_base : ℕ → Bool
is_base class = class == 1 || class == 2

-- what is private, and the methods of `Exception` and `Error` but for the constructor
abbrev pub is_closed : ℕ → MemberEntry → Bool
is_closed class m =
    is_private m.visibility || (is_base class && (same_kind Method m.kind && not (same_word (codes "__construct") m.name)))

-- whether such a member of this class is among those that are declared
abbrev pub closes : List MemberEntry → ℕ → MemberEntry → Bool
closes entries class m = is_closed class m && list_any (is_named m.kind m.name) entries

abbrev pub class_closes : List ClassEntry → List MemberEntry → ℕ → Bool
class_closes classes entries class = list_any (closes entries class) (members_at classes class)

-- whether a class declares again what an ancestor of it does not leave to it
abbrev pub declares_again : List ClassEntry → List Lineage → ClassEntry → Bool
declares_again classes lineages c = list_any (class_closes classes c.members) (all_of (parent_lineage lineages c.parent))

-- ---- methods without a body

abbrev pub body_in : Option MemberEntry → Bool
body_in None = true
body_in (Some m) = m.has_body

abbrev pub has_body_at : List ClassEntry → Option MemberRef → Bool
has_body_at classes None = true
has_body_at classes (Some place) = body_in (slice_get (members_at classes place.class) place.member)

-- a method of which the first declaration in the classes of a list has no body
abbrev pub is_bodiless : List ClassEntry → List ℕ → MemberEntry → Bool
is_bodiless classes numbers m =
    same_kind Method m.kind && not (has_body_at classes (first_among classes Method m.name numbers))

abbrev pub class_lacks : List ClassEntry → List ℕ → ℕ → Bool
class_lacks classes numbers class = list_any (is_bodiless classes numbers) (members_at classes class)

abbrev pub lacks_among : List ClassEntry → List ℕ → Bool
lacks_among classes numbers = list_any (class_lacks classes numbers) numbers

abbrev pub is_concrete : ClassKind → Bool
is_concrete Plain = true
is_concrete AbstractClass = false
is_concrete Final = true
is_concrete Interface = false

-- a class that is not abstract, behind those of a table, and one of its methods has no body
abbrev pub lacks_body : List ClassEntry → ClassEntry → Bool
lacks_body classes c =
    is_concrete c.kind && lacks_among (classes ++ c ∷ []) (ancestors (classes ++ c ∷ []) (length classes))

-- ---- the first refusal of a declaration

-- the name, then a member, then the parent or an interface, then a body
abbrev pub refusal : {V : Type 0} → List ClassEntry → Class V → Option ClassFault
refusal classes (with_members kind name parent interfaces ms line) =
    let c = entry_of classes (with_members kind name parent interfaces ms line) in
    if is_some (class_named name.text classes) then Some Redeclared else
    (if declares_again classes (lineages_of classes) c then Some Redeclared else
    (if not (list_all (is_declared classes) (option_to_list parent ++ interfaces)) then Some Unknown else
    (if lacks_body classes c then Some Abstract else None)))
