-- What the commands answer, as the words ask and the folder has it.
use Rattle.std.specs.Prelude.{◌≡◌, ℕ, true, false, ⊤, ◌⊎◌, List, Option, Some, None, codes, String, string_bytes, Vec}
use Rattle.std.specs.FinMap as fin
use Rattle.std.specs.declared.alloc.Global.{Global}
use Rattle.app_load.specs.Files.{File}
use Rattle.app_load.specs.declared.fault.AppKind.{AppKind}
use Rattle.app_load.specs.declared.fault.CopyKind.{CopyKind}
use Rattle.folder_loader.specs.Folders.{IsApplicationIn, IsAppRefusalIn, IsProgramIn, IsCopyRefusalIn}
use Rattle.folder_loader.specs.declared.fault.AppRefusal.TheVariants as app
use Rattle.folder_loader.specs.declared.fault.CopyRefusal.TheVariants as copy
use Rattle.load_notes.specs.Notes.{accepted_text, app_note, copy_note}
use Rattle.less_outside.specs.Files.{Files}
use Rattle.php_frames.specs.Statements.{Statement}
use Rattle.plain_page.specs.Pages.{page_of_files}
use Rattle.less_cmd.specs.Reply.{is_request, page_result, reply_text}
use Rattle.less_cmd.specs.Words.{Asked, check, play, nothing}

abbrev pub app_folder : List ℕ
app_folder = codes "app"

abbrev pub copy_role : List ℕ
copy_role = codes "guest"

abbrev pub copy_folder : List ℕ
copy_folder = codes "copies/guest"

-- ---- the application

-- the application is accepted, and this text tells how large it is
pub record IsSummary (files : Files) (text : List ℕ) : Type 0 where
  pub app : List File
  pub accepted : IsApplicationIn app_folder files app
  pub told : text ≡ accepted_text app

-- the application is refused, and this note tells its first fault
pub record IsAppNote (files : Files) (note : List ℕ) : Type 0 where
  pub file : String Global
  pub line : ℕ
  pub kind : AppKind
  pub refused : IsAppRefusalIn app_folder files (app.At file line kind)
  pub told : note ≡ app_note (string_bytes file) line kind

-- ---- the copy

-- files are a plain page, and this text is the reply to its run
pub record IsPageReply (copy : List File) (text : List ℕ) : Type 0 where
  pub page : List Statement
  pub plain : page_of_files copy ≡ Some page
  pub told : text ≡ reply_text (page_result page)

-- there is such a reply, or they are no plain page
abbrev pub IsReplyOf : List File → Option (Vec ℕ Global) → Type 0
IsReplyOf copy None = page_of_files copy ≡ None
IsReplyOf copy (Some reply) = IsPageReply copy reply.items

-- the copy is accepted and has such a reply
pub record IsReply (files : Files) (text : List ℕ) : Type 0 where
  pub copy : List File
  pub accepted : IsProgramIn copy_folder files copy
  pub answer : IsPageReply copy text

-- the copy is accepted and is no plain page
pub record IsOther (files : Files) : Type 0 where
  pub copy : List File
  pub accepted : IsProgramIn copy_folder files copy
  pub other : page_of_files copy ≡ None

-- the copy is refused, and this note tells its first fault
pub record IsCopyNote (files : Files) (note : List ℕ) : Type 0 where
  pub file : String Global
  pub line : ℕ
  pub kind : CopyKind
  pub refused : IsCopyRefusalIn copy_folder files (copy.At file line kind)
  pub told : note ≡ copy_note copy_role (string_bytes file) line kind

-- ---- the words

-- the text that is written where all is done
abbrev pub IsAnswer : Asked → Files → List ℕ → Type 0
IsAnswer check files text = IsSummary files text
IsAnswer (play script) files text = (is_request (fin.get files script) ≡ true) × IsReply files text
IsAnswer nothing files text = ⊥

-- words, script or copy are of no form that is built
abbrev pub IsNotBuilt : Asked → Files → Type 0
IsNotBuilt check files = ⊥
IsNotBuilt (play script) files = (is_request (fin.get files script) ≡ false) ⊎ ((is_request (fin.get files script) ≡ true) × IsOther files)
IsNotBuilt nothing files = ⊤

-- the note that is written where the application is refused
abbrev pub RefusesApp : Asked → Files → List ℕ → Type 0
RefusesApp check files note = IsAppNote files note
RefusesApp (play script) files note = ⊥
RefusesApp nothing files note = ⊥

-- the note that is written where the copy is refused
abbrev pub RefusesCopy : Asked → Files → List ℕ → Type 0
RefusesCopy check files note = ⊥
RefusesCopy (play script) files note = (is_request (fin.get files script) ≡ true) × IsCopyNote files note
RefusesCopy nothing files note = ⊥
