-- Lists of numbers that are merged, and tables that grow.
use Rattle.std.proofs.Common.{◌≡◌, ℕ, List, [], ◌∷◌, ◌++◌, if◌then◌else◌, refl}
use Rattle.php_classes.specs.declared.class.ClassEntry.{ClassEntry}
use Rattle.php_classes.specs.declared.class.Lineage.{Lineage}
use Rattle.php_classes.specs.Ancestors.{contains, merged, lineage_of, lineages_behind}

pub merged_twice : (ns xs ys : List ℕ) → merged ns (xs ++ ys) ≡ merged (merged ns xs) ys
merged_twice ns [] ys = refl
merged_twice ns (x ∷ xs) ys = merged_twice (if contains x ns then ns else ns ++ x ∷ []) xs ys

-- one more class
pub lineages_more : (before : List Lineage) (classes : List ClassEntry) (c : ClassEntry) →
    lineages_behind before (classes ++ c ∷ []) ≡ lineages_behind before classes ++ lineage_of (lineages_behind before classes) c ∷ []
lineages_more before [] c = refl
lineages_more before (d ∷ classes) c = lineages_more (before ++ lineage_of before d ∷ []) classes c
