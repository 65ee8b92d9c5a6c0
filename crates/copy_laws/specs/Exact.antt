-- Placeholders in trees: that none stands in a tree, and that each stands in its exact form, alone in the body of the function
-- that it names, or alone in the file.
use Rattle.std.specs.Prelude.{◌≡◌, ◌⊎◌, ⊤, ℕ, List, [], ◌∷◌, codes, Option, Some, None}
use Rattle.php_tree.specs.Functions.{entry_name, class_prefix}
use Rattle.php_tree.specs.Statements as s
use Rattle.php_tree.specs.Statements.{Statement, Statements, Arms, Cases, Clauses, Function, Class, Members}
use Rattle.app_load.specs.Files.{Tree, File}

-- ---- none

abbrev mutual
  pub IsFree : Statement (List ℕ) → Type 0
  IsFree (s.block ss l) = AreFree ss
  IsFree (s.conditional arms ss l) = ArmsFree arms × AreFree ss
  IsFree (s.while_loop e ss l) = AreFree ss
  IsFree (s.do_loop ss e l) = AreFree ss
  IsFree (s.for_loop a b c ss l) = AreFree ss
  IsFree (s.foreach e k v ss l) = AreFree ss
  IsFree (s.switch e arms l) = CasesFree arms
  IsFree (s.try ss cs l) = AreFree ss × ClausesFree cs
  IsFree (s.function f l) = FunctionFree f
  IsFree (s.class c l) = ClassFree c
  IsFree (s.removed what path name l) = ⊥
  IsFree x = ⊤

  pub AreFree : Statements (List ℕ) → Type 0
  AreFree s.no_more = ⊤
  AreFree (s.statement x xs) = IsFree x × AreFree xs

  pub ArmsFree : Arms (List ℕ) → Type 0
  ArmsFree s.no_arms = ⊤
  ArmsFree (s.arm e ss arms) = AreFree ss × ArmsFree arms

  pub CasesFree : Cases (List ℕ) → Type 0
  CasesFree s.no_cases = ⊤
  CasesFree (s.case e ss arms) = AreFree ss × CasesFree arms
  CasesFree (s.default_case ss arms) = AreFree ss × CasesFree arms

  pub ClausesFree : Clauses (List ℕ) → Type 0
  ClausesFree s.no_clauses = ⊤
  ClausesFree (s.clause ns v ss cs) = AreFree ss × ClausesFree cs

  pub FunctionFree : Function (List ℕ) → Type 0
  FunctionFree (s.with_body h ss at) = AreFree ss

  pub ClassFree : Class (List ℕ) → Type 0
  ClassFree (s.with_members k n e is ms l) = MembersFree ms

  pub MembersFree : Members (List ℕ) → Type 0
  MembersFree s.no_members = ⊤
  MembersFree (s.class_constants cs l ms) = MembersFree ms
  MembersFree (s.properties mods ps l ms) = MembersFree ms
  MembersFree (s.method mods f l ms) = FunctionFree f × MembersFree ms
  MembersFree (s.bodiless mods h l ms) = MembersFree ms

-- ---- the exact form

-- one placeholder alone, of this kind, path and name, on any line
pub record IsPlaceholder (what path : List ℕ) (name : Option (List ℕ)) (ss : Tree) : Type 0 where
  pub line : ℕ
  pub alone : ss ≡ s.statement (s.removed what path name line) s.no_more

-- Each placeholder of a tree is the whole body of a function, and names it and the file's path.
abbrev mutual
  pub IsExact : List ℕ → Statement (List ℕ) → Type 0
  IsExact p (s.block ss l) = AreExact p ss
  IsExact p (s.conditional arms ss l) = ArmsExact p arms × AreExact p ss
  IsExact p (s.while_loop e ss l) = AreExact p ss
  IsExact p (s.do_loop ss e l) = AreExact p ss
  IsExact p (s.for_loop a b c ss l) = AreExact p ss
  IsExact p (s.foreach e k v ss l) = AreExact p ss
  IsExact p (s.switch e arms l) = CasesExact p arms
  IsExact p (s.try ss cs l) = AreExact p ss × ClausesExact p cs
  IsExact p (s.function f l) = FunctionExact p [] f
  IsExact p (s.class c l) = ClassExact p c
  IsExact p (s.removed what path name l) = ⊥
  IsExact p x = ⊤

  pub AreExact : List ℕ → Statements (List ℕ) → Type 0
  AreExact p s.no_more = ⊤
  AreExact p (s.statement x xs) = IsExact p x × AreExact p xs

  pub ArmsExact : List ℕ → Arms (List ℕ) → Type 0
  ArmsExact p s.no_arms = ⊤
  ArmsExact p (s.arm e ss arms) = AreExact p ss × ArmsExact p arms

  pub CasesExact : List ℕ → Cases (List ℕ) → Type 0
  CasesExact p s.no_cases = ⊤
  CasesExact p (s.case e ss arms) = AreExact p ss × CasesExact p arms
  CasesExact p (s.default_case ss arms) = AreExact p ss × CasesExact p arms

  pub ClausesExact : List ℕ → Clauses (List ℕ) → Type 0
  ClausesExact p s.no_clauses = ⊤
  ClausesExact p (s.clause ns v ss cs) = AreExact p ss × ClausesExact p cs

  -- the name stands after what is before it: nothing, or a class and `::`
  pub FunctionExact : List ℕ → List ℕ → Function (List ℕ) → Type 0
  FunctionExact p before (s.with_body h ss at) = IsPlaceholder (codes "function") p (Some (entry_name before h)) ss ⊎ AreExact p ss

  pub ClassExact : List ℕ → Class (List ℕ) → Type 0
  ClassExact p (s.with_members k n e is ms l) = MembersExact p (class_prefix n.text) ms

  pub MembersExact : List ℕ → List ℕ → Members (List ℕ) → Type 0
  MembersExact p before s.no_members = ⊤
  MembersExact p before (s.class_constants cs l ms) = MembersExact p before ms
  MembersExact p before (s.properties mods ps l ms) = MembersExact p before ms
  MembersExact p before (s.method mods f l ms) = FunctionExact p before f × MembersExact p before ms
  MembersExact p before (s.bodiless mods h l ms) = MembersExact p before ms

-- the tree of a file: a placeholder of the whole file, or a tree of which each placeholder is exact
abbrev pub IsExactTree : List ℕ → Tree → Type 0
IsExactTree p ss = IsPlaceholder (codes "file") p None ss ⊎ AreExact p ss

-- ---- files

abbrev pub IsExactOrNone : List ℕ → Option Tree → Type 0
IsExactOrNone p None = ⊤
IsExactOrNone p (Some ss) = IsExactTree p ss

abbrev pub FilesExact : List File → Type 0
FilesExact [] = ⊤
FilesExact (g ∷ gs) = IsExactOrNone g.path g.tree × FilesExact gs

abbrev pub IsFreeOrNone : Option Tree → Type 0
IsFreeOrNone None = ⊤
IsFreeOrNone (Some ss) = AreFree ss

abbrev pub FilesFree : List File → Type 0
FilesFree [] = ⊤
FilesFree (f ∷ fs) = IsFreeOrNone f.tree × FilesFree fs
