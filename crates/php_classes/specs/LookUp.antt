-- Where a member is declared, and who may see it.
use Rattle.std.specs.Prelude.{ℕ, ◌<◌, length, Bool, true, false, ◌==◌, ◌||◌, if◌then◌else◌, List, [], ◌∷◌, slice_get, Option, Some, None, Result, Ok, Err}
use Rattle.std.specs.List.{position}
use Rattle.php_tree.specs.declared.decl.Visibility.{Visibility}
use Rattle.php_tree.specs.declared.decl.Visibility.TheVariants.{Public, Protected, Private}
use Rattle.php_classes.specs.declared.class.ClassEntry.{ClassEntry}
use Rattle.php_classes.specs.declared.class.Lineage.{Lineage}
use Rattle.php_classes.specs.declared.class.MemberEntry.{MemberEntry}
use Rattle.php_classes.specs.declared.class.MemberKind.{MemberKind}
use Rattle.php_classes.specs.declared.class.MemberRef.{MemberRef}
use Rattle.php_classes.specs.declared.fault.ClassFault.{ClassFault}
use Rattle.php_classes.specs.declared.fault.ClassFault.TheVariants.{Unknown, Hidden}
use Rattle.php_classes.specs.Members.{is_named}
use Rattle.php_classes.specs.Ancestors.{ancestors, descends, lineages_of}

-- the names that a class declares, none where there is no class
abbrev pub members_in : Option ClassEntry → List MemberEntry
members_in None = []
members_in (Some c) = c.members

abbrev pub members_at : List ClassEntry → ℕ → List MemberEntry
members_at classes class = members_in (slice_get classes class)

-- what is declared at a place of this class, else what is found further on
abbrev pub or_further : ℕ → Option ℕ → Option MemberRef → Option MemberRef
or_further class (Some place) further = Some (record { class = class; member = place })
or_further class None further = further

-- the first declaration in the classes of a list
abbrev pub first_among : List ClassEntry → MemberKind → List ℕ → List ℕ → Option MemberRef
first_among classes kind name [] = None
first_among classes kind name (n ∷ ns) = or_further n (position (is_named kind name) (members_at classes n)) (first_among classes kind name ns)

-- the first declaration in the list of ancestors
abbrev pub first_declaration : List ClassEntry → MemberKind → ℕ → List ℕ → Option MemberRef
first_declaration classes kind class name = first_among classes kind name (ancestors classes class)

-- ---- who may see it

abbrev pub visibility_in : Option MemberEntry → Visibility
visibility_in None = Public
visibility_in (Some m) = m.visibility

abbrev pub visibility_at : List ClassEntry → MemberRef → Visibility
visibility_at classes place = visibility_in (slice_get (members_at classes place.class) place.member)

-- what is private is seen in its class alone, what is protected in its descendants and ancestors too; the scope is the class
-- whose code names it
abbrev pub is_visible : List Lineage → Option ℕ → Visibility → ℕ → Bool
is_visible lineages scope Public declaring = true
is_visible lineages None Protected declaring = false
is_visible lineages None Private declaring = false
is_visible lineages (Some scope) Protected declaring = descends lineages scope declaring || descends lineages declaring scope
is_visible lineages (Some scope) Private declaring = scope == declaring

abbrev pub seen : List ClassEntry → List Lineage → Option ℕ → Option MemberRef → Result MemberRef ClassFault
seen classes lineages scope None = Err Unknown
seen classes lineages scope (Some place) =
    if is_visible lineages scope (visibility_at classes place) place.class then Ok place else Err Hidden

-- a member of a class by its name, as it is seen from a scope
abbrev pub looked_up : List ClassEntry → MemberKind → ℕ → List ℕ → Option ℕ → Result MemberRef ClassFault
looked_up classes kind class name scope = seen classes (lineages_of classes) scope (first_declaration classes kind class name)

-- a constant, which everyone sees
abbrev pub constant_at : Option MemberRef → Result MemberRef ClassFault
constant_at None = Err Unknown
constant_at (Some place) = Ok place

-- the number of a class of the table, and a place among the names that it declares
pub record IsPlace (classes : List ClassEntry) (place : MemberRef) : Type 0 where
  pub class : place.class < length classes
  pub member : place.member < length (members_at classes place.class)
