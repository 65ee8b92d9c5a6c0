-- What the words of a call ask for.
use Rattle.std.specs.Prelude.{ℕ, ◌==◌, Bool, not, ◌&&◌, List, [], ◌∷◌, length, nat_le, codes, if◌then◌else◌}
use Rattle.std.specs.List.{list_all}
use Rattle.std.specs.Str.{bytes_eq}
use Rattle.less_cmd.specs.declared.words.Command.{Command}
use Rattle.less_cmd.specs.declared.words.Command.TheVariants as command

-- a visible byte of ASCII or a space, and none of `"`, `#`, `'`, `/` and the backslash
abbrev pub is_name_byte : ℕ → Bool
is_name_byte byte = nat_le 32 byte && (nat_le byte 126 && (not (byte == 34) && (not (byte == 35) && (not (byte == 39) && (not (byte == 47) && not (byte == 92))))))

-- the name of a file that stands in the folder itself: 1 to 200 such bytes, and neither `.` nor `..`
abbrev pub is_file_name : List ℕ → Bool
is_file_name name =
    nat_le 1 (length name) && (nat_le (length name) 200 && (not (bytes_eq name (codes ".")) && (not (bytes_eq name (codes "..")) && list_all is_name_byte name)))

-- the application is to be checked, or the requests of this script are to be answered. Later commands join here
pub data Asked : Type 0 where
  check : Asked
  play : List ℕ → Asked
  nothing : Asked

abbrev pub asked : List (List ℕ) → Asked
asked [] = nothing
asked (command ∷ []) = if bytes_eq command (codes "check") then check else nothing
asked (command ∷ script ∷ []) = if bytes_eq command (codes "play") && is_file_name script then play script else nothing
asked (_ ∷ _ ∷ _ ∷ _) = nothing

-- what a command of the code asks for
abbrev pub asked_by : Command → Asked
asked_by command.Check = check
asked_by (command.Play script) = play script.now
asked_by command.Unknown = nothing
