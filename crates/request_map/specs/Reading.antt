-- What a request that is read answers, and what it takes from what is left of a link.
use Rattle.std.specs.Prelude.{◌≡◌, ◌≢◌, ℕ, ◌+◌, ◌⊎◌, ⊤, List, [], ◌∷◌, ◌++◌, length, take, drop, Option, None, Some, Result, Err}
use Rattle.std.specs.Io.KnownBytes.{Consumes}
use Rattle.less_terms.specs.Causes.{Steady}
use Rattle.less_outside.specs.Told.{Stays}
use Rattle.httparse.specs.Grammar.{RequestHead, print_request}
use Rattle.request_map.specs.Requests.{Request}
use Rattle.request_map.specs.Heads.{BeginsWith, HasNoHead, head_of}
use Rattle.request_map.specs.Scans.{until_end, head_part}
use Rattle.request_map.specs.Checks.{answer_of, body_length, body_taken}
use Rattle.request_map.specs.declared.scan.Scan.{Scan}
use Rattle.request_map.specs.declared.scan.Scan.TheVariants.{Blank}
use Rattle.request_map.specs.declared.fault.RequestFault.{RequestFault}
use Rattle.request_map.specs.declared.fault.RequestFault.TheVariants.{BadRequest, Link, Memory}

-- an input and its answer: the checks over its head, or a refusal where it begins with none
pub data IsAnswer (input : List ℕ) (answer : Result Request RequestFault) : Type 0 where
  headless : HasNoHead input → answer ≡ Err BadRequest → IsAnswer input answer
  headed : (head : RequestHead) (rest : List ℕ) → BeginsWith input head rest → answer ≡ answer_of (head_of head) rest → IsAnswer input answer

-- the same, with the count of bytes that are read of the input: those of the head, or in search of it, and the body
pub data IsReading (input : List ℕ) (answer : Result Request RequestFault) (taken : ℕ) : Type 0 where
  headless : HasNoHead input → answer ≡ Err BadRequest → taken ≡ length (head_part input) → IsReading input answer taken
  headed : (head : RequestHead) (rest : List ℕ) → BeginsWith input head rest → answer ≡ answer_of (head_of head) rest
      → taken ≡ length (print_request head) + body_taken (body_length (head_of head)) → IsReading input answer taken

-- what is left of a link after bytes were taken from its front
pub record Took (input : List ℕ) (left : Option (List ℕ)) (answer : Result Request RequestFault) : Type 0 where
  pub taken : ℕ
  pub reading : IsReading input answer taken
  pub left_is : left ≡ Some (drop taken input)

-- the link told its input: the answer is that of the input, and what it needed was taken
abbrev pub HasRead : Option (List ℕ) → Option (List ℕ) → Result Request RequestFault → Type 0
HasRead None left answer = ⊤
HasRead (Some input) left answer = answer ≢ Err Link → answer ≢ Err Memory → Took input left answer

-- bytes were taken from the front of the input in search of a head, and this is left
pub record ReadHead (input bytes left : List ℕ) : Type 0 where
  pub split : input ≡ bytes ++ left
  pub part : bytes ≡ head_part input

abbrev pub HasReadHead : Option (List ℕ) → Option (List ℕ) → List ℕ → Type 0
HasReadHead None left bytes = ⊤
HasReadHead (Some input) None bytes = ⊥
HasReadHead (Some input) (Some left) bytes = ReadHead input bytes left

-- so many bytes were taken from the front of the input, or all that there were
pub record ReadBody (size : ℕ) (input bytes left : List ℕ) : Type 0 where
  pub came : bytes ≡ take size input
  pub rest : left ≡ drop size input

abbrev pub HasReadBody : ℕ → Option (List ℕ) → Option (List ℕ) → List ℕ → Type 0
HasReadBody size None left bytes = ⊤
HasReadBody size (Some input) None bytes = ⊥
HasReadBody size (Some input) (Some left) bytes = ReadBody size input bytes left

-- a scan that is under way: these bytes were taken, and what is left goes on from here
pub record Scans (input bytes left : List ℕ) (scan : Scan) : Type 0 where
  pub split : input ≡ bytes ++ left
  pub goes_on : until_end Blank input ≡ bytes ++ until_end scan left

abbrev pub IsScanning : Option (List ℕ) → Option (List ℕ) → List ℕ → Scan → Type 0
IsScanning None left bytes scan = ⊤
IsScanning (Some input) None bytes scan = ⊥
IsScanning (Some input) (Some left) bytes scan = Scans input bytes left scan

-- the room is full, or nothing is left
abbrev pub IsFilled : Option (List ℕ) → Option (List ℕ) → ℕ → ℕ → Type 0
IsFilled None now room count = ⊤
IsFilled (Some left) None room count = ⊥
IsFilled (Some left) (Some now) room count = (count ≡ room) ⊎ (now ≡ [])

-- a read failed, or there was no memory
abbrev pub IsOutside : RequestFault → Type 0
IsOutside fault = (fault ≡ Link) ⊎ (fault ≡ Memory)

-- ---- calls that read of a link

-- nothing is left, and nothing was taken
pub record IsDone (left now : List ℕ) : Type 0 where
  pub before : left ≡ []
  pub after : now ≡ []

-- the next byte, or nothing at the end
abbrev pub HasNext : Option (List ℕ) → Option (List ℕ) → Option ℕ → Type 0
HasNext old new (Some byte) = Consumes old new (byte ∷ [])
HasNext None new None = ⊤
HasNext (Some left) None None = ⊥
HasNext (Some left) (Some now) None = IsDone left now

-- what was sent and the count of writes stay, and the count of reads has not fallen
pub record OnlyReads (reads reads_now : ℕ) (sent sent_now : Option (List ℕ)) (writes writes_now : ℕ) : Type 0 where
  pub count : Steady reads reads_now
  pub kept : Stays sent sent_now
  pub same : writes_now ≡ writes
