-- Which files an accepted copy was taken from, and what was kept of them.
use Rattle.std.specs.Prelude.{◌≡◌, ⊤, ℕ, ◌≤◌, Bool, true, false, List, [], ◌∷◌, map, Option, Some, None}
use Rattle.php_tree.specs.Functions.{spans_in}
use Rattle.php_tree.specs.Height.{statements_height}
use Rattle.php_tree.specs.declared.file.Span.{Span}
use Rattle.app_load.specs.Applications.{functions_of_all}
use Rattle.app_load.specs.Copies.{IsCopyOf}
use Rattle.app_load.specs.Files.{Tree, File}
use Rattle.app_load.specs.Findings.{Finding, findings_in}
use Rattle.app_load.specs.Kept.{Keeps}
use Rattle.app_load.specs.Twice.{first_twice, first_leaving}
use Rattle.app_load.specs.Parts.{Part, body, stub, part_at, parts}
use Rattle.copy_laws.specs.Exact.{FilesFree}

-- ---- what was kept

abbrev pub is_body : Part → Bool
is_body (body ss) = true
is_body stub = false

-- what is not there was not removed
abbrev pub no_stub : Option Part → Bool
no_stub None = true
no_stub (Some p) = is_body p

-- the entries at which a copy has no placeholder
abbrev pub kept_in : List File → Keeps
kept_in gs e = no_stub (part_at (parts gs) e)

-- ---- what the rules of an application look at

-- declared names and jumps, in text order
abbrev pub tree_findings : Tree → List Finding
tree_findings ss = findings_in (λ name. name) 0 ss

abbrev pub findings_or_none : Option Tree → List Finding
findings_or_none None = []
findings_or_none (Some ss) = tree_findings ss

-- of each file
abbrev pub all_findings : List File → List (List Finding)
all_findings fs = map (λ f. findings_or_none f.tree) fs

-- the functions with a body, by name and place
abbrev pub spans_or_none : Option Tree → List (List ℕ × Span)
spans_or_none None = []
spans_or_none (Some ss) = spans_in ss

abbrev pub all_spans : List File → List (List (List ℕ × Span))
all_spans fs = map (λ f. spans_or_none f.tree) fs

-- how many nodes stand over one another; see php_tree
abbrev pub height_or_none : Option Tree → ℕ
height_or_none None = 0
height_or_none (Some ss) = statements_height ss

-- each file's tree is at most as deep as that of the file in its place
abbrev pub AreNoDeeper : List File → List File → Type 0
AreNoDeeper [] [] = ⊤
AreNoDeeper (f ∷ fs) (g ∷ gs) = (height_or_none f.tree ≤ height_or_none g.tree) × AreNoDeeper fs gs
AreNoDeeper _ _ = ⊥

-- no name is declared twice in a file, and no jump leaves more than there is around it
abbrev pub PassRules : List File → Type 0
PassRules [] = ⊤
PassRules (f ∷ fs) = ((first_twice (findings_or_none f.tree) ≡ None) × (first_leaving (findings_or_none f.tree) ≡ None)) × PassRules fs

-- Files as an application may have them, by their trees.
pub record MayBeApplication (fs : List File) : Type 0 where
  pub free : FilesFree fs
  pub rules : PassRules fs
  pub few : functions_of_all fs ≤ 20000

-- ---- the original of a copy

-- Files without placeholders of which others are the copy. They declare the same names and have the same jumps, so that a rule
-- which the copy passes is passed by them; they have the same functions, and are no deeper.
pub record AreOriginal (keeps : Keeps) (fs gs : List File) : Type 0 where
  pub copied : IsCopyOf keeps fs gs
  pub free : FilesFree fs
  pub findings : all_findings fs ≡ all_findings gs
  pub spans : all_spans fs ≡ all_spans gs
  pub functions : functions_of_all fs ≡ functions_of_all gs
  pub flat : AreNoDeeper fs gs
