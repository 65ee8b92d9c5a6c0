-- A folder in memory as a value, and what its calls make of it.
use Rattle.std.specs.Prelude.{ℕ, Bool, ◌==◌, List, map, fold, if◌then◌else◌, String, string_bytes, Vec, refl}
use Rattle.std.specs.List.{list_any}
use Rattle.std.specs.FinMap as fin
use Rattle.std.specs.Coded.{Coded, code_by, coded×, coded_ℕ, coded_list}
use Rattle.std.specs.declared.alloc.Global.{Global}
use Rattle.less_outside.specs.Files.{Files}
use Rattle.less_outside.specs.Told.{next}

pub record FolderState : Type 0 where
  pub files : Files
  -- the numbers of the calls that fail
  pub failing : List ℕ
  -- how many calls there were
  pub calls : ℕ
  -- how many lists and reads failed
  pub read_faults : ℕ
  -- how many writes and removes failed
  pub write_faults : ℕ

-- a state is stored as the pair of its fields
abbrev pub folder_code : Coded FolderState
folder_code = code_by (Files × (List ℕ × (ℕ × (ℕ × ℕ))))
    (coded× (fin.code (coded_list coded_ℕ) (coded_list coded_ℕ)) (coded× (coded_list coded_ℕ) (coded× coded_ℕ (coded× coded_ℕ coded_ℕ))))
    (λ s. (s.files, (s.failing, (s.calls, (s.read_faults, s.write_faults)))))
    (λ p. record { files = p.0; failing = p.1.0; calls = p.1.1.0; read_faults = p.1.1.1.0; write_faults = p.1.1.1.1 })
    (λ _. refl)

-- the path and the bytes of an entry
abbrev pub file_of : String Global × Vec ℕ Global → List ℕ × List ℕ
file_of entry = (string_bytes entry.0, entry.1.items)

-- the files of a list without double paths
abbrev pub files_of : List (String Global × Vec ℕ Global) → Files
files_of entries = fin.from_entries (map file_of entries)

-- the files, with one more
abbrev pub with_file : Files → String Global × Vec ℕ Global → Files
with_file files entry = fin.insert files (string_bytes entry.0) entry.1.items

-- the files of any list: of a path that stands twice the last counts
abbrev pub last_files : List (String Global × Vec ℕ Global) → Files
last_files entries = fold with_file fin.empty entries

-- the folder before its first call
abbrev pub new_folder : Files → List ℕ → FolderState
new_folder files failing = record { files = files; failing = failing; calls = 0; read_faults = 0; write_faults = 0 }

-- the next call fails
abbrev pub is_failing : FolderState → Bool
is_failing folder = list_any (λ call. call == folder.calls) folder.failing

-- one call later
abbrev pub called : FolderState → FolderState
called folder = record folder { calls = next folder.calls }

-- the folder after a list or a read
abbrev pub after_read : FolderState → FolderState
after_read folder = if is_failing folder then record folder { calls = next folder.calls; read_faults = next folder.read_faults } else called folder

-- the folder after a write or a remove that makes these files, where it is done
abbrev pub after_write : FolderState → Files → Bool → FolderState
after_write folder files done =
    if is_failing folder
    then record folder { calls = next folder.calls; write_faults = next folder.write_faults }
    else record folder { calls = next folder.calls; files = if done then files else folder.files }
