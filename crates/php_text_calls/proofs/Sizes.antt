-- Lengths of texts, and their limit.
use Rattle.std.proofs.Common.{rules, ◌≡◌, ◌∙◌, ℕ, zero, suc, ◌+◌, ◌*◌, ◌/◌, ◌%◌, ◌<◌, ◌≤◌, Bool, true, false, List, [], ◌∷◌, ◌++◌, length, take, length-append, length-take, nat_le, Ok, Err, if◌then◌else◌, refl, sym, ap, arith}
use Rattle.std.proofs.lemmas.Bool.Decides.{nat_tests}
use Rattle.std.proofs.lemmas.Nat.{div-add-mod'}
use Rattle.std.proofs.Math.Nat.{mod-lt}
use Rattle.php_values.specs.Data.{bytes}
use Rattle.php_values.specs.Arithmetic.{max_text}
use Rattle.php_arguments.specs.declared.fault.CallFault.{CallFault}
use Rattle.php_arguments.specs.declared.fault.CallFault.TheVariants.{Size}
use Rattle.php_arguments.specs.Results.{sized_text}
use Rattle.php_text_calls.specs.Pieces.{repeated, padding}
use Rattle.php_text_calls.specs.Sizes.{grown}

sized_by : (b : Bool) (t : List ℕ) → nat_le (length t) max_text ≡ b → sized_text t ≡ (if b then Ok (bytes t) else Err Size)
sized_by b t e = ap (λ b. if b then Ok (bytes t) else Err Size) e

pub sized-big : (t : List ℕ) → max_text < length t → sized_text t ≡ Err Size
sized-big t h = sized_by false t (grind (arith, nat_tests))

pub sized-fits : (t : List ℕ) → length t ≤ max_text → sized_text t ≡ Ok (bytes t)
sized-fits t h = sized_by true t (grind (arith, nat_tests))

-- ---- a text that does not grow any more

fails_by : (b : Bool) (out more rest whole : List ℕ) (f : CallFault) → nat_le (length out + length more) max_text ≡ b → whole ≡ out ++ (more ++ rest)
    → (if b then Ok (out ++ more) else Err Size) ≡ Err f → sized_text whole ≡ Err f
fails_by true out more rest whole f e w h = search (rules, h)
fails_by false out more rest whole f e w h =
    let long : max_text < length out + length more = grind (arith, nat_tests, e) in
    let all : length whole ≡ length out + (length more + length rest) =
    ap length w ∙ length-append out (more ++ rest) ∙ ap (λ n. length out + n) (length-append more rest) in
    let fault : Size ≡ f = cc in
    sized-big whole (omega (arith, long, all)) ∙ ap Err fault

pub grown-fails : (out more rest whole : List ℕ) (f : CallFault) → whole ≡ out ++ (more ++ rest) → grown out more ≡ Err f → sized_text whole ≡ Err f
grown-fails out more rest whole f w h = fails_by (nat_le (length out + length more) max_text) out more rest whole f refl w h

-- ---- repeated texts

pub length-repeated : (n : ℕ) (t : List ℕ) → length (repeated n t) ≡ n * length t
unfolding repeated
length-repeated zero t = omega arith
length-repeated (suc n) t = let h = length-repeated n t in omega (arith, h, length-append (repeated n t) t)

repeated_nil : (n : ℕ) → repeated n [] ≡ []
unfolding repeated
repeated_nil zero = refl
repeated_nil (suc n) = ap (λ t. t ++ []) (repeated_nil n)

pub repeated_none : (n : ℕ) (t : List ℕ) → length t ≡ 0 → sized_text (repeated n t) ≡ Ok (bytes [])
repeated_none n [] e = ap sized_text (repeated_nil n)
repeated_none n (b ∷ t) e = absurd (omega (arith, e))

pub repeated_big : (n : ℕ) (t : List ℕ) → max_text < length t * n → sized_text (repeated n t) ≡ Err Size
repeated_big n t h = sized-big (repeated n t) (omega (arith, h, length-repeated n t))

pub repeated_fits : (n : ℕ) (t : List ℕ) → length t * n ≤ max_text → sized_text (repeated n t) ≡ Ok (bytes (repeated n t))
repeated_fits n t h = sized-fits (repeated n t) (omega (arith, h, length-repeated n t))

-- ---- paddings

pub length-padding : (n : ℕ) (pad : List ℕ) → 0 < length pad → length (padding n pad) ≡ n
length-padding n pad h =
    let enough = length-repeated (n / length pad + 1) pad in
    let parts = div-add-mod' n (length pad) in
    let rest : n % length pad < length pad = mod-lt n h in
    let cut = length-take n (repeated (n / length pad + 1) pad) in
    omega (arith, enough, parts, rest, cut)

length_left : (n : ℕ) (pad t : List ℕ) → 0 < length pad → length (padding n pad ++ t) ≡ length t + n
length_left n pad t h = let p = length-padding n pad h in omega (arith, p, length-append (padding n pad) t)

length_right : (n : ℕ) (pad t : List ℕ) → 0 < length pad → length (t ++ padding n pad) ≡ length t + n
length_right n pad t h = let p = length-padding n pad h in omega (arith, p, length-append t (padding n pad))

pub left_big : (n : ℕ) (pad t : List ℕ) → 0 < length pad → max_text < length t + n → sized_text (padding n pad ++ t) ≡ Err Size
left_big n pad t p h = sized-big (padding n pad ++ t) (omega (arith, h, length_left n pad t p))

pub left_fits : (n : ℕ) (pad t : List ℕ) → 0 < length pad → length t + n ≤ max_text → sized_text (padding n pad ++ t) ≡ Ok (bytes (padding n pad ++ t))
left_fits n pad t p h = sized-fits (padding n pad ++ t) (omega (arith, h, length_left n pad t p))

pub right_big : (n : ℕ) (pad t : List ℕ) → 0 < length pad → max_text < length t + n → sized_text (t ++ padding n pad) ≡ Err Size
right_big n pad t p h = sized-big (t ++ padding n pad) (omega (arith, h, length_right n pad t p))

pub right_fits : (n : ℕ) (pad t : List ℕ) → 0 < length pad → length t + n ≤ max_text → sized_text (t ++ padding n pad) ≡ Ok (bytes (t ++ padding n pad))
right_fits n pad t p h = sized-fits (t ++ padding n pad) (omega (arith, h, length_right n pad t p))
