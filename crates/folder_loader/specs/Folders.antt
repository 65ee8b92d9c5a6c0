-- Which applications and copies stand in a folder, and what is told of the others.
use Rattle.std.specs.Prelude.{ℕ, List, ⊤, string_bytes, String, Vec}
use Rattle.std.specs.declared.alloc.Global.{Global}
use Rattle.less_outside.specs.Files.{Files}
use Rattle.app_load.specs.declared.fault.AppKind.{AppKind}
use Rattle.app_load.specs.declared.fault.CopyKind.TheVariants.{BadFile, Placeholder}
use Rattle.app_load.specs.declared.judge.Setting.TheVariants.{Application, Copy}
use Rattle.app_load.specs.Files.{File}
use Rattle.app_load.specs.Applications.{accepted, refused, strayed, IsApplication, IsProgram}
use Rattle.app_reading.specs.Texts.{IsOutcomeIn}
use Rattle.folder_loader.specs.declared.fault.AppRefusal.{AppRefusal}
use Rattle.folder_loader.specs.declared.fault.AppRefusal.TheVariants as app
use Rattle.folder_loader.specs.declared.fault.CopyRefusal.{CopyRefusal}
use Rattle.folder_loader.specs.declared.fault.CopyRefusal.TheVariants as copy

-- the files of the accepted application below a folder's path
abbrev pub IsApplicationIn : List ℕ → Files → List File → Type 0
IsApplicationIn below files fs = IsOutcomeIn Application below files (accepted fs)

-- the files of an accepted application, wherever they were read
abbrev pub IsSomeApplication : List File → Type 0
IsSomeApplication fs = (given : List (String Global × Vec ℕ Global)) × IsApplication given fs

-- the first fault of the application below a folder's path; a fault of a read and want of memory say nothing of it
abbrev pub IsAppRefusalIn : List ℕ → Files → AppRefusal → Type 0
IsAppRefusalIn below files (app.At path l k) = IsOutcomeIn Application below files (refused (string_bytes path) l k)
IsAppRefusalIn below files app.ReadFault = ⊤
IsAppRefusalIn below files app.Memory = ⊤

-- the files of the accepted copy below a folder's path
abbrev pub IsProgramIn : List ℕ → Files → List File → Type 0
IsProgramIn below files fs = IsOutcomeIn Copy below files (accepted fs)

-- the files of an accepted copy, wherever they were read
abbrev pub IsSomeProgram : List File → Type 0
IsSomeProgram fs = (given : List (String Global × Vec ℕ Global)) × IsProgram given fs

-- the first fault of the copy below a folder's path: that of a bad file, or a word out of its place
abbrev pub IsCopyRefusalIn : List ℕ → Files → CopyRefusal → Type 0
IsCopyRefusalIn below files (copy.At path l BadFile) = (k : AppKind) × IsOutcomeIn Copy below files (refused (string_bytes path) l k)
IsCopyRefusalIn below files (copy.At path l Placeholder) = IsOutcomeIn Copy below files (strayed (string_bytes path) l)
IsCopyRefusalIn below files copy.ReadFault = ⊤
IsCopyRefusalIn below files copy.Memory = ⊤
