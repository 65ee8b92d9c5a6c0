-- A line of the removal log: which removed file or function was entered, when, in which role and by which session's slot.
use Rattle.std.specs.Prelude.{◌≡◌, ℕ, ◌^◌, ◌<◌, ◌==◌, Bool, true, List, [], ◌∷◌, ◌++◌, codes, string_bytes}
use Rattle.std.specs.List.{join_with_byte, slice_split}
use Rattle.std.specs.Fmt.{decimal}
use Rattle.less_terms.specs.Forms.{is_role}
use Rattle.less_terms.specs.Paths.{is_path, is_function_name}
use Rattle.app_load.specs.Entries.{Entry, file, function, entry_of}
use Rattle.removal_reports.specs.declared.line.LogLine.{LogLine}

pub record Removal : Type 0 where
  -- in seconds
  pub moment : ℕ
  pub role : List ℕ
  pub slot : ℕ
  pub entry : Entry

abbrev pub removal_of : LogLine → Removal
removal_of line = record { moment = line.moment; role = string_bytes line.role; slot = line.slot; entry = entry_of line.entry }

abbrev pub kind_text : Entry → List ℕ
kind_text (file path) = codes "file"
kind_text (function path name) = codes "function"

abbrev pub path_text : Entry → List ℕ
path_text (file path) = path
path_text (function path name) = path

-- a file has no name
abbrev pub name_text : Entry → List ℕ
name_text (file path) = codes "-"
name_text (function path name) = name

abbrev pub fields_of : Removal → List (List ℕ)
fields_of r = codes "removed" ∷ decimal r.moment ∷ r.role ∷ decimal r.slot ∷ kind_text r.entry ∷ path_text r.entry ∷ name_text r.entry ∷ []

-- the fields, parted by tabs, and a line end
abbrev pub line_of : Removal → List ℕ
line_of r = join_with_byte 9 (fields_of r) ++ 10 ∷ []

abbrev pub has_name_form : Entry → Bool
has_name_form (file path) = true
has_name_form (function path name) = is_function_name name

-- its texts have the forms of roles, paths and names of functions, and its numbers fit their types
pub record IsWellFormed (r : Removal) : Type 0 where
  pub moment : r.moment < 2 ^ 64
  pub role : is_role r.role ≡ true
  pub slot : r.slot < 256
  pub path : is_path (path_text r.entry) ≡ true
  pub name : has_name_form r.entry ≡ true

-- the line is that of a removal of these forms
pub record IsLineOf (r : Removal) (line : List ℕ) : Type 0 where
  pub forms : IsWellFormed r
  pub text : line ≡ line_of r

-- no removal has this line
abbrev pub IsNoLine : List ℕ → Type 0
IsNoLine line = (r : Removal) → IsLineOf r line → ⊥

-- ---- reading

abbrev pub is_tab : ℕ → Bool
is_tab byte = byte == 9

abbrev pub fields_in : List ℕ → List (List ℕ)
fields_in text = slice_split is_tab text

-- the fields are those of a removal of these forms
pub record AreFieldsOf (r : Removal) (fields : List (List ℕ)) : Type 0 where
  pub forms : IsWellFormed r
  pub texts : fields ≡ fields_of r

abbrev pub AreNoFields : List (List ℕ) → Type 0
AreNoFields fields = (r : Removal) → AreFieldsOf r fields → ⊥

-- an entry's three fields
pub record TellsEntry (e : Entry) (kind path name : List ℕ) : Type 0 where
  pub kind_is : kind ≡ kind_text e
  pub path_is : path ≡ path_text e
  pub name_is : name ≡ name_text e
  pub path_form : is_path (path_text e) ≡ true
  pub name_form : has_name_form e ≡ true

abbrev pub TellsNoEntry : List ℕ → List ℕ → List ℕ → Type 0
TellsNoEntry kind path name = (e : Entry) → TellsEntry e kind path name → ⊥
