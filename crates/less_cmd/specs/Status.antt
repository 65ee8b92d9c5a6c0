-- How the program ends.
use Rattle.std.specs.Prelude.{ℕ, ⊤, ◌≡◌, ◌⊎◌, Option, List, [], ◌∷◌, ◌++◌, codes}
use Rattle.std.specs.Io.KnownBytes.{Appends}
use Rattle.less_terms.specs.Causes.{Rose}
use Rattle.less_outside.specs.Sink.{AppendsFront}
use Rattle.less_outside.specs.Files.{Files}
use Rattle.less_cmd.specs.Answers.{IsAnswer, IsNotBuilt, RefusesApp, RefusesCopy}
use Rattle.less_cmd.specs.Words.{Asked}
use Rattle.less_cmd.specs.declared.status.Status.{Status}
use Rattle.less_cmd.specs.declared.status.Status.TheVariants.{Done, NotBuilt, AppRefused, ReadFault, WriteFault, CopyRefused, Memory}

-- the exit status
abbrev pub code_of : Status → ℕ
code_of Done = 0
code_of NotBuilt = 1
code_of (AppRefused note) = 3
code_of ReadFault = 6
code_of WriteFault = 7
code_of (CopyRefused note) = 10
code_of Memory = 12

-- what is written to standard error
abbrev pub note_of : Status → List ℕ
note_of Done = []
note_of NotBuilt = codes "less: not built" ++ 10 ∷ []
note_of (AppRefused note) = note.items
note_of ReadFault = codes "less: read fault" ++ 10 ∷ []
note_of WriteFault = codes "less: write fault" ++ 10 ∷ []
note_of (CopyRefused note) = note.items
note_of Memory = codes "less: memory" ++ 10 ∷ []

-- nothing was to be written to standard output
abbrev pub IsSilent : Status → Type 0
IsSilent Done = ⊥
IsSilent NotBuilt = ⊤
IsSilent (AppRefused note) = ⊤
IsSilent ReadFault = ⊤
IsSilent WriteFault = ⊥
IsSilent (CopyRefused note) = ⊤
IsSilent Memory = ⊤

-- something was to be written to standard output
abbrev pub IsLoud : Status → Type 0
IsLoud status = (status ≡ Done) ⊎ (status ≡ WriteFault)

-- a command with this exit status wrote nothing to standard output
abbrev pub WritesNothing : ℕ → Type 0
WritesNothing number = (number ≡ 0 → ⊥) × (number ≡ 7 → ⊥)

-- the note was written, or a front part of it and the count of faults rose
abbrev pub Noted : Option (List ℕ) → Option (List ℕ) → ℕ → ℕ → List ℕ → Type 0
Noted old new count_before count_after note = Appends old new note ⊎ (AppendsFront old new note × Rose count_before count_after)

-- ---- what the status tells

-- a text of which P holds was written
pub record Wrote (P : List ℕ → Type 0) (old new : Option (List ℕ)) : Type 0 where
  pub text : List ℕ
  pub is : P text
  pub written : Appends old new text

-- a front part of such a text was written
pub record WrotePart (P : List ℕ → Type 0) (old new : Option (List ℕ)) : Type 0 where
  pub text : List ℕ
  pub is : P text
  pub front : AppendsFront old new text

-- what holds of the folder's files and of standard output where a command ended so
abbrev pub Ends : Asked → Status → Option (List ℕ) → Option (List ℕ) → Files → Type 0
Ends asked Done old new files = Wrote (IsAnswer asked files) old new
Ends asked NotBuilt old new files = IsNotBuilt asked files
Ends asked (AppRefused note) old new files = RefusesApp asked files note.items
Ends asked ReadFault old new files = ⊤
Ends asked WriteFault old new files = WrotePart (IsAnswer asked files) old new
Ends asked (CopyRefused note) old new files = RefusesCopy asked files note.items
Ends asked Memory old new files = ⊤

-- The number is the status of an end whose note was written: what was noted before and after, with the count of faults, and what the
-- end tells of the folder and of standard output.
pub record IsEnd (number : ℕ) (before after : Option (List ℕ)) (count_before count_after : ℕ) (Tells : Status → Type 0) : Type 0 where
  pub end : Status
  pub code : number ≡ code_of end
  pub noted : Noted before after count_before count_after (note_of end)
  pub tells : Tells end
