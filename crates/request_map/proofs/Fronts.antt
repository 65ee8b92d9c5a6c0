-- Heads at the front of an input, and at the front of its first bytes.
use Rattle.std.proofs.Common.{◌≡◌, ℕ, ◌+◌, ◌-◌, ◌≤◌, List, ◌++◌, length, take, drop, ap, ◌∙◌, arith, append_assoc, length-append}
use Rattle.std.proofs.Math.Seq.{take-append-add, drop-append_seam}
use Rattle.httparse.specs.Grammar.{RequestHead, print_request}
use Rattle.request_map.specs.Heads.{BeginsWith, HasNoHead}
use Rattle.request_map.specs.declared.TheConstants.{MAX_HEAD_BYTES}

-- a head of the first bytes is a head of all
pub front_begins : (front back : List ℕ) (head : RequestHead) (rest : List ℕ) → BeginsWith front head rest → BeginsWith (front ++ back) head (rest ++ back)
front_begins front back head rest b = record {
  reads = (b.reads.0, ap (λ x. x ++ back) b.reads.1 ∙ append_assoc (print_request head) rest back);
  short = b.short;
  few = b.few;
}

-- what is left behind some bytes of a front, where so many bytes may be looked at
left_of : (most : ℕ) (input text rest : List ℕ) → input ≡ text ++ rest → length text ≤ most → take most input ≡ text ++ take (most - length text) rest
left_of most input text rest e h =
    let sum : length text + (most - length text) ≡ most = omega arith in
    rw e (rw sum at (take-append-add text rest (most - length text)))

-- where the first bytes have no head, there is none
pub no_front : (input : List ℕ) → HasNoHead (take MAX_HEAD_BYTES input) → HasNoHead input
no_front input none head rest b =
    none head (take (MAX_HEAD_BYTES - length (print_request head)) rest) (record {
      reads = (b.reads.0, left_of MAX_HEAD_BYTES input (print_request head) rest b.reads.1 b.short);
      short = b.short;
      few = b.few;
    })

-- what stands behind a head
pub behind : (input : List ℕ) (head : RequestHead) (rest : List ℕ) → BeginsWith input head rest → drop (length (print_request head)) input ≡ rest
behind input head rest b = rw b.reads.1 (drop-append_seam (print_request head) rest)

-- a head lies within the input
pub head_within : (input : List ℕ) (head : RequestHead) (rest : List ℕ) → BeginsWith input head rest → length (print_request head) ≤ length input
head_within input head rest b = omega (arith, ap length b.reads.1, length-append (print_request head) rest)
