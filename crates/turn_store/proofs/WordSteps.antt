-- What a step does to the fields of a word.
use Rattle.std.proofs.Common.{◌≡◌, ℕ, zero, suc, ◌+◌, ◌*◌, ◌/◌, ◌%◌, ◌^◌, ◌<◌, sym, refl, ap, ◌∙◌, arith, bit_or}
use Rattle.std.proofs.lemmas.Nat.{or_shr, or_block, or_comm}
use Rattle.turn_store.specs.Words.{taken_of, generation_of, change_of, pin_of}

pub marked_half : (w : ℕ) → bit_or w 1 / 2 ≡ w / 2
marked_half w = let e = or_shr w 1 1 in let f = or_comm (w / 2) 0 in let e' : bit_or w 1 / 2 ≡ bit_or (w / 2) 0 = e in e' ∙ f

marked_low : (r : ℕ) → r < 2 → bit_or r 1 ≡ 1
marked_low zero h = refl
marked_low (suc zero) h = refl
marked_low (suc (suc r)) h = absurd (omega arith)

pub marked_taken : (w : ℕ) → taken_of (bit_or w 1) ≡ 1
marked_taken w = let low : bit_or (w % 2) 1 ≡ 1 = marked_low (w % 2) (omega arith) in
    let e : bit_or (w / 2 * 2 ^ 1 + w % 2) (0 * 2 ^ 1 + 1) ≡ bit_or (w / 2) 0 * 2 ^ 1 + bit_or (w % 2) 1 = or_block 1 (w / 2) 0 (w % 2) 1 (omega arith) (omega arith) in
    let same : w / 2 * 2 + w % 2 ≡ w = omega arith in
    let f : bit_or w 1 ≡ bit_or (w / 2) 0 * 2 + bit_or (w % 2) 1 = ap (λ (z : ℕ). bit_or z 1) (sym same) ∙ e in omega arith

pub released_fields : (w : ℕ) → w < 2 ^ 64 → taken_of w ≡ 1 → generation_of w < 4294967295
    → let y = (w + 1) % 2 ^ 64 in (taken_of y ≡ 0) × (generation_of y ≡ generation_of w + 1) × (change_of y ≡ change_of w) × (pin_of y ≡ pin_of w)
released_fields w fits bit room = (omega arith, omega arith, omega arith, omega arith)

-- the change number goes up by 1 and the pin by e, in turn
pub pinned_fields : (w e : ℕ) → w < 2 ^ 64 → e < 128 → change_of w < 16777215
    → let y = (w + (1 + e * 16777216) * 8589934592) % 2 ^ 64 in (taken_of y ≡ taken_of w) × (generation_of y ≡ generation_of w) × (change_of y ≡ change_of w + 1) × (pin_of y ≡ (pin_of w + e) % 128)
pinned_fields w e fits small room = (omega arith, omega arith, omega arith, omega arith)
