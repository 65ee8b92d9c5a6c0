-- What holds where a command ended, from what was loaded and written.
use Rattle.std.proofs.Common.{◌≡◌, ℕ, true, false, inl, inr, List, refl, sym, ap, subst, ◌∙◌, Option, None, Some, IfSome, String, Global, Vec, string_bytes}
use Rattle.std.specs.FinMap as fin
use Rattle.std.specs.Option.{option_map}
use Rattle.std.specs.Io.KnownBytes.{Appends}
use Rattle.app_load.specs.Files.{File}
use Rattle.app_load.specs.declared.fault.AppKind.{AppKind}
use Rattle.app_load.specs.declared.fault.CopyKind.{CopyKind}
use Rattle.folder_loader.specs.Folders.{IsApplicationIn, IsAppRefusalIn, IsProgramIn, IsCopyRefusalIn}
use Rattle.folder_loader.specs.declared.fault.AppRefusal.TheVariants as app
use Rattle.folder_loader.specs.declared.fault.CopyRefusal.TheVariants as copy
use Rattle.load_notes.specs.Notes.{accepted_text, app_note, copy_note}
use Rattle.less_outside.specs.Files.{Files}
use Rattle.less_outside.specs.Sink.{AppendsFront}
use Rattle.less_outside.specs.Told.{Stays}
use Rattle.php_frames.specs.Statements.{Statement}
use Rattle.php_frames.specs.RunResult.{RunResult}
use Rattle.php_frames.specs.Progress.{closed}
use Rattle.php_frames.specs.declared.page_run.PageRun.{PageRun}
use Rattle.plain_page.specs.Pages.{page_of_files}
use Rattle.less_cmd.specs.Answers.{app_folder, copy_folder, copy_role, IsAnswer, IsPageReply}
use Rattle.less_cmd.specs.Reply.{is_request, page_result, index_path, reply_text}
use Rattle.less_cmd.specs.Status.{IsLoud, Ends}
use Rattle.less_cmd.specs.Words.{Asked, check, play}
use Rattle.less_cmd.specs.declared.status.Status.{Status}
use Rattle.less_cmd.specs.declared.status.Status.TheVariants.{Done, NotBuilt, AppRefused, WriteFault, CopyRefused}

-- an answer was written, or a front part of it
sent : (asked : Asked) (files : Files) (status : Status) (text : List ℕ) (old new : Option (List ℕ)) → IsLoud status → (status ≡ Done → Appends old new text) → (status ≡ WriteFault → AppendsFront old new text) → IsAnswer asked files text → Ends asked status old new files
sent asked files status text old new (inl done) all part is =
    subst (λ s. Ends asked s old new files) (sym done) (record { text = text; is = is; written = all done })
sent asked files status text old new (inr failed) all part is =
    subst (λ s. Ends asked s old new files) (sym failed) (record { text = text; is = is; front = part failed })

-- ---- the application

-- an application was loaded, and its size was written
pub summary : (told : Option Files) (fs : List File) (status : Status) (text : List ℕ) (old new : Option (List ℕ)) → IfSome told (λ files. IsApplicationIn app_folder files fs) → text ≡ accepted_text fs → IsLoud status → (status ≡ Done → Appends old new text) → (status ≡ WriteFault → AppendsFront old new text) → IfSome told (Ends check status old new)
summary None fs status text old new loaded says loud all part = tt
summary (Some files) fs status text old new loaded says loud all part =
    sent check files status text old new loud all part (record { app = fs; accepted = loaded; told = says })

-- an application was refused
pub app_refused : (told : Option Files) (file : String Global) (line : ℕ) (kind : AppKind) (name : List ℕ) (note : Vec ℕ Global) (old new : Option (List ℕ)) → IfSome told (λ files. IsAppRefusalIn app_folder files (app.At file line kind)) → name ≡ string_bytes file → note.items ≡ app_note name line kind → IfSome told (Ends check (AppRefused note) old new)
app_refused None file line kind name note old new refused named says = tt
app_refused (Some files) file line kind name note old new refused named says =
    record { file = file; line = line; kind = kind; refused = refused; told = says ∙ ap (λ n. app_note n line kind) named }

-- ---- the copy

-- the request is answered from the copy
abbrev pub Played : Option Files → List ℕ → Status → Option (List ℕ) → Option (List ℕ) → Type 0
Played told script status old new = IfSome told (λ files. is_request (fin.get files script) ≡ true → Ends (play script) status old new files)

-- a plain page was loaded, and the reply was written
pub reply : (told : Option Files) (script : List ℕ) (fs : List File) (status : Status) (text : List ℕ) (old new : Option (List ℕ)) → IfSome told (λ files. IsProgramIn copy_folder files fs) → IsPageReply fs text → IsLoud status → (status ≡ Done → Appends old new text) → (status ≡ WriteFault → AppendsFront old new text) → Played told script status old new
reply None script fs status text old new loaded is loud all part = tt
reply (Some files) script fs status text old new loaded is loud all part =
    λ asked. sent (play script) files status text old new loud all part (asked, record { copy = fs; accepted = loaded; answer = is })

-- another copy was loaded
pub other : (told : Option Files) (script : List ℕ) (fs : List File) (old new : Option (List ℕ)) → IfSome told (λ files. IsProgramIn copy_folder files fs) → page_of_files fs ≡ None → Played told script NotBuilt old new
other None script fs old new loaded none = tt
other (Some files) script fs old new loaded none =
    λ asked. inr (asked, record { copy = fs; accepted = loaded; other = none })

-- a copy was refused
pub copy_refused : (told : Option Files) (script : List ℕ) (file : String Global) (line : ℕ) (kind : CopyKind) (name : List ℕ) (note : Vec ℕ Global) (old new : Option (List ℕ)) → IfSome told (λ files. IsCopyRefusalIn copy_folder files (copy.At file line kind)) → name ≡ string_bytes file → note.items ≡ copy_note copy_role name line kind → Played told script (CopyRefused note) old new
copy_refused None script file line kind name note old new refused named says = tt
copy_refused (Some files) script file line kind name note old new refused named says =
    λ asked. (asked, record { file = file; line = line; kind = kind; refused = refused; told = says ∙ ap (λ n. copy_note copy_role n line kind) named })

-- ---- the script

-- the script is the request, and the copy is answered from after it was read
pub answered : (before told : Option Files) (script : List ℕ) (status : Status) (old new : Option (List ℕ)) → Stays before told → Played told script status old new → IfSome before (λ files. is_request (fin.get files script) ≡ true) → IfSome before (Ends (play script) status old new)
answered None told script status old new stays played is = tt
answered (Some files) None script status old new stays played is = absurd stays
answered (Some files) (Some now) script status old new stays played is =
    subst (λ f. is_request (fin.get f script) ≡ true → Ends (play script) status old new f) stays played is

-- the script is no such request
pub no_request : (told : Option Files) (script : List ℕ) (old new : Option (List ℕ)) → IfSome told (λ files. is_request (fin.get files script) ≡ false) → IfSome told (Ends (play script) NotBuilt old new)
no_request None script old new none = tt
no_request (Some files) script old new none = inl none

-- ---- the page

result_or : RunResult → Option RunResult → RunResult
result_or other None = other
result_or other (Some result) = result

of_page : (found : Option (List Statement)) (result : RunResult) (text : List ℕ) (fs : List File) → page_of_files fs ≡ found → option_map page_result found ≡ Some result → text ≡ reply_text result → IsPageReply fs text
unfolding result_or
of_page None result text fs is ran says = absurd (cc ran)
of_page (Some page) result text fs is ran says =
    record { page = page; plain = is; told = says ∙ ap reply_text (sym (ap (result_or result) ran)) }

-- the reply to what a run came to is that of the page that was run
pub page_reply : (fs : List File) (run : PageRun) (text : List ℕ) → option_map page_result (page_of_files fs) ≡ Some (closed index_path run) → text ≡ reply_text (closed index_path run) → IsPageReply fs text
page_reply fs run text ran says = of_page (page_of_files fs) (closed index_path run) text fs refl ran says

none_or : (found : Option (List Statement)) → option_map page_result found ≡ None → found ≡ None
none_or None none = refl
none_or (Some page) none = absurd (cc none)

-- files of which nothing was run are no plain page
pub no_page : (fs : List File) → option_map page_result (page_of_files fs) ≡ None → page_of_files fs ≡ None
no_page fs none = none_or (page_of_files fs) none
