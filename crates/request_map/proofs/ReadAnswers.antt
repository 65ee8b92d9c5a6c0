-- What a request that was read of a link answers, and what it took.
use Rattle.std.proofs.Common.{◌≡◌, ◌≢◌, ℕ, ◌+◌, Bool, true, false, List, [], ◌++◌, length, take, drop, refl, sym, ap, ◌∙◌, subst, arith, Result, Ok, Err, append-nil, length-append, nat_le, nat_lt, not, codes, if◌then◌else◌, inl, inr}
use Rattle.std.specs.Prelude.{Option, None, Some, ⊤}
use Rattle.std.proofs.lemmas.List.{drop-drop, nil_from_length}
use Rattle.std.proofs.Math.Seq.{drop-append_seam}
use Rattle.httparse.specs.Grammar.{RequestHead, print_request}
use Rattle.std.specs.List.{find}
use Rattle.std.specs.Str.Parse.{digits_value}
use Rattle.reply_text.specs.Headers.{Header, is_named}
use Rattle.request_map.specs.Requests.{Head, Request}
use Rattle.request_map.specs.Heads.{BeginsWith, HasNoHead, IsParsed, parsed_head, head_of}
use Rattle.request_map.specs.Checks.{answer_of, answer_at, body_length, body_taken, finished, length_told, length_of, length_within, length_among, is_length, is_post, is_implemented, is_hosted, count_named}
use Rattle.request_map.specs.Reading.{headless, headed, Took, HasRead, HasReadHead, ReadHead, HasReadBody, IsOutside}
use Rattle.request_map.specs.declared.head.ParsedHead.{ParsedHead}
use Rattle.request_map.specs.declared.fault.RequestFault.{RequestFault}
use Rattle.request_map.specs.declared.fault.RequestFault.TheVariants.{BadRequest, NoLength, TooLarge, NotImplemented, Link, Memory}
use Rattle.request_map.specs.declared.TheConstants.{MAX_BODY_BYTES}
use Rattle.request_map.proofs.Fronts.{front_begins, behind}
use Rattle.request_map.proofs.Scanning.{head_exact}

-- ---- the head

nothing_more : (x y : List ℕ) → x ≡ x ++ y → y ≡ []
nothing_more x y e = nil_from_length y (omega (arith, ap length e, length-append x y))

-- the head that was parsed is a head of the input, and this stands behind it
head_stands : (input bytes left : List ℕ) (parsed : ParsedHead) → ReadHead input bytes left → (p : IsParsed bytes parsed) → BeginsWith input p.head left
head_stands input bytes left parsed r p =
    let begins : BeginsWith input p.head (p.rest ++ left) = rw r.split (front_begins bytes left p.head p.rest p.begins) in
    let same : bytes ≡ print_request p.head = r.part ∙ head_exact input p.head (p.rest ++ left) begins in
    let none : p.rest ≡ [] = nothing_more (print_request p.head) p.rest (sym same ∙ p.begins.reads.1) in
    rw none at begins

-- where there is no head in what was read, there is none
lost : (input bytes left : List ℕ) → ReadHead input bytes left → HasNoHead bytes → HasNoHead input
lost input bytes left r none head rest b =
    none head [] (record {
      reads = (b.reads.0, r.part ∙ head_exact input head rest b ∙ sym (append-nil (print_request head)));
      short = b.short;
      few = b.few;
    })

-- ---- answers

-- a head that was judged, and what is left behind its body
took : (input left now : List ℕ) (head : RequestHead) (answer : Result Request RequestFault) → BeginsWith input head left
    → answer ≡ answer_of (head_of head) left → now ≡ drop (body_taken (body_length (head_of head))) left → Took input (Some now) answer
took input left now head answer b e rest = record {
  taken = length (print_request head) + body_taken (body_length (head_of head));
  reading = headed head left b e refl;
  left_is = ap Some (rest ∙ ap (λ l. drop (body_taken (body_length (head_of head))) l) (sym (behind input head left b)) ∙ drop-drop (body_taken (body_length (head_of head))) (length (print_request head)) input);
}

pub no_head_read : (old mid : Option (List ℕ)) (bytes : List ℕ) (fault : RequestFault) → HasReadHead old mid bytes → (fault ≡ BadRequest) × HasNoHead bytes → HasRead old mid (Err fault)
no_head_read None mid bytes fault r h = tt
no_head_read (Some input) None bytes fault r h = absurd r
no_head_read (Some input) (Some left) bytes fault r h = λ link memory. record {
  taken = length bytes;
  reading = headless (lost input bytes left r h.1) (ap Err h.0) (ap length r.part);
  left_is = ap Some (rw r.split (sym (drop-append_seam bytes left)));
}

-- the head was not parsed
pub head_failed : (old mid : Option (List ℕ)) (bytes : List ℕ) (fault : RequestFault) → HasReadHead old mid bytes → (fault ≢ Memory → (fault ≡ BadRequest) × HasNoHead bytes) → HasRead old mid (Err fault)
head_failed None mid bytes fault r h = tt
head_failed (Some input) None bytes fault r h = absurd r
head_failed (Some input) (Some left) bytes fault r h = λ link memory. no_head_read (Some input) (Some left) bytes fault r (h (λ m. memory (ap Err m))) link memory

pub refused_read : (old mid : Option (List ℕ)) (bytes : List ℕ) (parsed : ParsedHead) (fault : RequestFault) → HasReadHead old mid bytes → IsParsed bytes parsed
    → body_length (parsed_head parsed) ≡ Err fault → HasRead old mid (Err fault)
refused_read None mid bytes parsed fault r p e = tt
refused_read (Some input) None bytes parsed fault r p e = absurd r
refused_read (Some input) (Some left) bytes parsed fault r p e = λ link memory.
    let told : body_length (head_of p.head) ≡ Err fault = ap body_length (sym p.told) ∙ e in
    took input left left p.head (Err fault) (head_stands input bytes left parsed r p)
    (ap (answer_at (head_of p.head) left) (sym told)) (rw told refl)

pub judged_read : (old mid new : Option (List ℕ)) (bytes : List ℕ) (parsed : ParsedHead) (size : ℕ) (body : List ℕ) (answer : Result Request RequestFault) → HasReadHead old mid bytes
    → IsParsed bytes parsed → body_length (parsed_head parsed) ≡ Ok size → HasReadBody size mid new body → answer ≡ finished (parsed_head parsed) size body → HasRead old new answer
judged_read None mid new bytes parsed size body answer r p e b is = tt
judged_read (Some input) None new bytes parsed size body answer r p e b is = absurd r
judged_read (Some input) (Some left) None bytes parsed size body answer r p e b is = absurd b
judged_read (Some input) (Some left) (Some now) bytes parsed size body answer r p e b is = λ link memory.
    let told : body_length (head_of p.head) ≡ Ok size = ap body_length (sym p.told) ∙ e in
    took input left now p.head answer (head_stands input bytes left parsed r p)
    (is ∙ ap (finished (parsed_head parsed) size) b.came ∙ ap (λ head. finished head size (take size left)) p.told ∙ ap (answer_at (head_of p.head) left) (sym told))
    (b.rest ∙ ap (λ n. drop n left) (ap body_taken (sym told)))

pub outside_read : (old mid : Option (List ℕ)) (fault : RequestFault) → IsOutside fault → HasRead old mid (Err fault)
outside_read None mid fault o = tt
outside_read (Some input) mid fault (inl link) = λ other memory. absurd (other (ap Err link))
outside_read (Some input) mid fault (inr short) = λ link other. absurd (other (ap Err short))

-- ---- the checks answer no fault of a link

abbrev IsInside : Result ℕ RequestFault → Type 0
IsInside (Ok size) = ⊤
IsInside (Err BadRequest) = ⊤
IsInside (Err NoLength) = ⊤
IsInside (Err TooLarge) = ⊤
IsInside (Err NotImplemented) = ⊤
IsInside (Err Link) = ⊥
IsInside (Err Memory) = ⊥

inside_if : (b : Bool) (x y : Result ℕ RequestFault) → IsInside x → IsInside y → IsInside (if b then x else y)
inside_if true x y h k = h
inside_if false x y h k = k

inside_length : (text : List ℕ) → IsInside (length_of text)
inside_length text =
    let number = digits_value 10 text in
    inside_if (is_length text) (length_within number) (Err BadRequest) (inside_if (nat_le number MAX_BODY_BYTES) (Ok number) (Err TooLarge) tt tt) tt

inside_told : (post : Bool) (header : Option Header) → IsInside (length_told post header)
inside_told post None = inside_if post (Err NoLength) (Ok 0) tt tt
inside_told post (Some header) = inside_length header.value

inside_among : (post : Bool) (headers : List Header) → IsInside (length_among post headers)
inside_among post headers =
    let told = find (is_named (codes "content-length")) headers in
    inside_if (nat_lt 1 (count_named (codes "content-length") headers)) (Err BadRequest) (length_told post told) tt (inside_told post told)

inside_checks : (head : Head) → IsInside (body_length head)
inside_checks head =
    let among = length_among (is_post head.method) head.headers in
    inside_if (not (is_implemented head)) (Err NotImplemented) (if not (is_hosted head) then Err BadRequest else among) tt
    (inside_if (not (is_hosted head)) (Err BadRequest) among tt (inside_among (is_post head.method) head.headers))

-- no fault of a link
pub no_link : (head : Head) (fault : RequestFault) → body_length head ≡ Err fault → fault ≡ Link → ⊥
no_link head fault e link = subst IsInside (e ∙ ap Err link) (inside_checks head)
