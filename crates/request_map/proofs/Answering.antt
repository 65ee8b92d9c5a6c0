-- What a request that was parsed answers.
use Rattle.std.proofs.Common.{◌≡◌, ℕ, List, ◌++◌, take, drop, sym, ap, ◌∙◌, Result, Ok, Err}
use Rattle.std.proofs.lemmas.List.{take-append-drop}
use Rattle.request_map.specs.Requests.{Request}
use Rattle.request_map.specs.Heads.{BeginsWith, HasNoHead, IsParsed, parsed_head}
use Rattle.request_map.specs.Checks.{answer_of, answer_at, body_length, finished}
use Rattle.request_map.specs.Reading.{IsAnswer, headless, headed}
use Rattle.request_map.specs.declared.head.ParsedHead.{ParsedHead}
use Rattle.request_map.specs.declared.fault.RequestFault.{RequestFault}
use Rattle.request_map.specs.declared.fault.RequestFault.TheVariants.{BadRequest}
use Rattle.request_map.specs.declared.TheConstants.{MAX_HEAD_BYTES}
use Rattle.request_map.proofs.Fronts.{front_begins, no_front, behind}

-- the head of the first bytes is a head of the input, and this stands behind it
pub whole_begins : (input : List ℕ) (parsed : ParsedHead) → (p : IsParsed (take MAX_HEAD_BYTES input) parsed) → BeginsWith input p.head (drop parsed.size input)
whole_begins input parsed p =
    let whole = front_begins (take MAX_HEAD_BYTES input) (drop MAX_HEAD_BYTES input) p.head p.rest p.begins in
    let b = rw take-append-drop at whole in
    let e = behind input p.head (p.rest ++ drop MAX_HEAD_BYTES input) b in
    rw (p.size, e) b

-- an answer that the checks over the parsed head give
answered : (input : List ℕ) (parsed : ParsedHead) (answer : Result Request RequestFault) → IsParsed (take MAX_HEAD_BYTES input) parsed
    → answer ≡ answer_of (parsed_head parsed) (drop parsed.size input) → IsAnswer input answer
answered input parsed answer p e =
    headed p.head (drop parsed.size input) (whole_begins input parsed p) (e ∙ ap (λ head. answer_of head (drop parsed.size input)) p.told)

-- a head that was refused
pub refused : (input : List ℕ) (parsed : ParsedHead) (fault : RequestFault) → IsParsed (take MAX_HEAD_BYTES input) parsed
    → body_length (parsed_head parsed) ≡ Err fault → IsAnswer input (Err fault)
refused input parsed fault p e = answered input parsed (Err fault) p (ap (answer_at (parsed_head parsed) (drop parsed.size input)) (sym e))

-- a body that was judged
pub judged : (input : List ℕ) (parsed : ParsedHead) (size : ℕ) (body : List ℕ) (answer : Result Request RequestFault) → IsParsed (take MAX_HEAD_BYTES input) parsed
    → body_length (parsed_head parsed) ≡ Ok size → body ≡ take size (drop parsed.size input) → answer ≡ finished (parsed_head parsed) size body → IsAnswer input answer
judged input parsed size body answer p e came is =
    answered input parsed answer p (is ∙ ap (finished (parsed_head parsed) size) came ∙ ap (answer_at (parsed_head parsed) (drop parsed.size input)) (sym e))

-- no head was found
pub headless_answer : (input : List ℕ) (fault : RequestFault) → (fault ≡ BadRequest) × HasNoHead (take MAX_HEAD_BYTES input) → IsAnswer input (Err fault)
headless_answer input fault h = headless (no_front input h.1) (ap Err h.0)
