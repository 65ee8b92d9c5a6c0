-- Where the reading of a head ends: behind the first empty line that follows a line which is not empty.
use Rattle.std.specs.Prelude.{ℕ, Bool, true, false, ◌||◌, ◌==◌, List, [], ◌∷◌, take, if◌then◌else◌}
use Rattle.request_map.specs.declared.scan.Scan.{Scan}
use Rattle.request_map.specs.declared.scan.Scan.TheVariants.{Blank, Line, Fresh, Return, Ended}
use Rattle.request_map.specs.declared.TheConstants.{MAX_HEAD_BYTES}

-- where a byte leads
abbrev pub scan_after : Scan → ℕ → Scan
scan_after Blank byte = if byte == 10 || byte == 13 then Blank else Line
scan_after Line byte = if byte == 10 then Fresh else Line
scan_after Fresh byte = if byte == 10 then Ended else (if byte == 13 then Return else Line)
scan_after Return byte = if byte == 10 then Ended else Line
scan_after Ended byte = Ended

abbrev pub is_ended : Scan → Bool
is_ended Blank = false
is_ended Line = false
is_ended Fresh = false
is_ended Return = false
is_ended Ended = true

-- the bytes up to the end of the scan, or all of them
abbrev pub until_end : Scan → List ℕ → List ℕ
until_end scan [] = []
until_end scan (byte ∷ input) = byte ∷ (if is_ended (scan_after scan byte) then [] else until_end (scan_after scan byte) input)

-- the bytes that are read in search of a head
abbrev pub head_part : List ℕ → List ℕ
head_part input = take MAX_HEAD_BYTES (until_end Blank input)
