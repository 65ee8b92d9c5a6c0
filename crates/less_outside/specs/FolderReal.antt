-- A folder over the system.
use Rattle.std.specs.Prelude.{◌≡◌, ℕ, String}
use Rattle.std.specs.declared.alloc.Global.{Global}
use Rattle.less_outside.specs.declared.folder_real.FolderReal.{FolderReal}

-- how often a list or a read has failed
abbrev pub read_faults_of : {R F D : Type 0} → FolderReal R F D → ℕ
read_faults_of folder = folder.read_faults

-- how often a write or a remove has failed
abbrev pub write_faults_of : {R F D : Type 0} → FolderReal R F D → ℕ
write_faults_of folder = folder.write_faults

-- it has this runtime and this root, and nothing has failed
pub record IsNewFolderReal {R F D : Type 0} (folder : FolderReal R F D) (runtime : R) (place : String Global) : Type 0 where
  pub over : folder.rt ≡ runtime
  pub from : folder.root ≡ place
  pub no_read_fault : folder.read_faults ≡ 0
  pub no_write_fault : folder.write_faults ≡ 0
