-- The ancestors of the classes of a table. A class's number is its place in the table, from 0. A class is built on those
-- before it alone, so each list is finite.
use Rattle.std.specs.Prelude.{ℕ, Bool, ◌==◌, if◌then◌else◌, List, [], ◌∷◌, ◌++◌, length, slice_get, Option, Some, None}
use Rattle.std.specs.Option.{unwrap_or}
use Rattle.std.specs.List.{list_any}
use Rattle.php_classes.specs.declared.class.ClassEntry.{ClassEntry}
use Rattle.php_classes.specs.declared.class.Lineage.{Lineage}

abbrev pub contains : ℕ → List ℕ → Bool
contains m ns = list_any (λ n. n == m) ns

-- some numbers, and then others, but for those that are there
abbrev pub merged : List ℕ → List ℕ → List ℕ
merged ns [] = ns
merged ns (m ∷ ms) = merged (if contains m ns then ns else ns ++ m ∷ []) ms

-- a class, its parent and so on, and then their interfaces
abbrev pub all_of : Lineage → List ℕ
all_of lineage = lineage.classes ++ lineage.interfaces

abbrev pub no_lineage : Lineage
no_lineage = record { classes = []; interfaces = [] }

abbrev pub lineage_at : List Lineage → ℕ → Lineage
lineage_at lineages number = unwrap_or (slice_get lineages number) no_lineage

abbrev pub parent_lineage : List Lineage → Option ℕ → Lineage
parent_lineage lineages None = no_lineage
parent_lineage lineages (Some parent) = lineage_at lineages parent

-- some numbers, and then those of interfaces, each followed by the ones that it extends
abbrev pub with_interfaces : List Lineage → List ℕ → List ℕ → List ℕ
with_interfaces lineages ns [] = ns
with_interfaces lineages ns (i ∷ is) = with_interfaces lineages (merged ns (all_of (lineage_at lineages i))) is

-- of a class behind those of these lineages: the class, its parent and so on; and then its interfaces, its own before its
-- parent's
abbrev pub lineage_of : List Lineage → ClassEntry → Lineage
lineage_of before c = record {
  classes = length before ∷ (parent_lineage before c.parent).classes;
  interfaces = merged (with_interfaces before [] c.interfaces) (parent_lineage before c.parent).interfaces;
}

-- the lineages of more classes behind some
abbrev pub lineages_behind : List Lineage → List ClassEntry → List Lineage
lineages_behind before [] = before
lineages_behind before (c ∷ cs) = lineages_behind (before ++ lineage_of before c ∷ []) cs

-- of all classes of a table
abbrev pub lineages_of : List ClassEntry → List Lineage
lineages_of classes = lineages_behind [] classes

-- the list of ancestors of a class
abbrev pub ancestors : List ClassEntry → ℕ → List ℕ
ancestors classes class = all_of (lineage_at (lineages_of classes) class)

-- whether a class is another or descends from it
abbrev pub descends : List Lineage → ℕ → ℕ → Bool
descends lineages class other = contains other (all_of (lineage_at lineages class))

abbrev pub is_instance : List ClassEntry → ℕ → ℕ → Bool
is_instance classes class other = descends (lineages_of classes) class other
