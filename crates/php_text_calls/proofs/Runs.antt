-- Runs of bytes that stay, and steps of printing.
use Rattle.std.proofs.Common.{rules, ◌≡◌, ◌∙◌, ℕ, zero, suc, ◌+◌, ◌-◌, ◌<◌, ◌≤◌, List, [], ◌∷◌, ◌++◌, get_or, take, drop, length, length-drop, append_assoc, drop-cons, Ok, Err, refl, sym, ap, arith}
use Rattle.std.proofs.lemmas.List.{take_more, get_or-drop}
use Rattle.std.specs.List.{flat_map}
use Rattle.php_values.specs.Data.{Data}
use Rattle.php_arguments.specs.Answers.{go_on}
use Rattle.php_arguments.specs.declared.fault.CallFault.{CallFault}
use Rattle.php_text_calls.specs.Formats.{Printing, printing, printed, step}

drop_here : (t : List ℕ) (i : ℕ) → i < length t → drop i t ≡ get_or t i 0 ∷ drop (i + 1) t
drop_here t i h = let n : suc i ≡ i + 1 = omega arith in drop-cons t i 0 h ∙ ap (λ n. get_or t i 0 ∷ drop n t) n

run_longer : (t : List ℕ) (from i : ℕ) → from ≤ i → i < length t → take (i + 1 - from) (drop from t) ≡ take (i - from) (drop from t) ++ get_or t i 0 ∷ []
run_longer t from i w h =
    let n : i + 1 - from ≡ (i - from) + 1 = omega (arith, w) in
    let k : from + (i - from) ≡ i = omega (arith, w) in
    let rest = length-drop from t in
    let short : i - from < length (drop from t) = omega (arith, w, h, rest) in
    ap (λ n. take n (drop from t)) n ∙ take_more (drop from t) (i - from) 0 short
    ∙ ap (λ b. take (i - from) (drop from t) ++ b ∷ []) (get_or-drop from t (i - from) 0 ∙ ap (λ k. get_or t k 0) k)

-- a byte that stays makes the run longer
pub kept-step : (f : ℕ → List ℕ) (t : List ℕ) (from i : ℕ) (out whole : List ℕ) → from ≤ i → i < length t → f (get_or t i 0) ≡ get_or t i 0 ∷ []
    → out ++ (take (i - from) (drop from t) ++ flat_map f (drop i t)) ≡ whole → out ++ (take (i + 1 - from) (drop from t) ++ flat_map f (drop (i + 1) t)) ≡ whole
kept-step f t from i out whole w h stays e =
    let run = take (i - from) (drop from t) in
    let rest = flat_map f (drop (i + 1) t) in
    let flat : flat_map f (drop i t) ≡ get_or t i 0 ∷ rest = ap (flat_map f) (drop_here t i h) ∙ ap (λ bs. bs ++ rest) stays in
    ap (λ run. out ++ (run ++ rest)) (run_longer t from i w h)
    ∙ ap (λ bs. out ++ bs) (append_assoc run (get_or t i 0 ∷ []) rest ∙ ap (λ bs. run ++ bs) (sym flat)) ∙ e

-- a byte that is written in another way ends it
pub written-step : (f : ℕ → List ℕ) (t : List ℕ) (from i : ℕ) (out whole : List ℕ) → i < length t
    → out ++ (take (i - from) (drop from t) ++ flat_map f (drop i t)) ≡ whole
    → ((out ++ take (i - from) (drop from t)) ++ f (get_or t i 0)) ++ (take (i + 1 - (i + 1)) (drop (i + 1) t) ++ flat_map f (drop (i + 1) t)) ≡ whole
written-step f t from i out whole h e =
    let run = take (i - from) (drop from t) in
    let rest = flat_map f (drop (i + 1) t) in
    let none : i + 1 - (i + 1) ≡ 0 = omega arith in
    ap (λ n. ((out ++ run) ++ f (get_or t i 0)) ++ (take n (drop (i + 1) t) ++ rest)) none
    ∙ append_assoc (out ++ run) (f (get_or t i 0)) rest ∙ append_assoc out run (f (get_or t i 0) ++ rest)
    ∙ ap (λ bs. out ++ (run ++ bs)) (sym (ap (flat_map f) (drop_here t i h))) ∙ e

-- ---- printing

-- nothing is printed behind the format's end
pub printed-end : (n : ℕ) (out : List ℕ) (values : List Data) → printed n (printing out [] values) ≡ Ok out
unfolding printed
printed-end zero out values = refl
printed-end (suc n) out values = printed-end n out values

pub printed-none : (n : ℕ) (p : Printing) → n ≡ 0 → printed n p ≡ Ok p.out
unfolding printed
printed-none zero p e = refl
printed-none (suc n) p e = absurd (omega (arith, e))

pub printed-step : (n m : ℕ) (p q : Printing) → n ≡ m + 1 → step p ≡ Ok q → printed n p ≡ printed m q
unfolding printed
printed-step zero m p q e h = absurd (omega (arith, e))
printed-step (suc n) m p q e h = let same : n ≡ m = omega (arith, e) in ap (λ s. go_on s (λ q. printed n q)) h ∙ ap (λ n. printed n q) same

pub printed-fault : (n m : ℕ) (p : Printing) (f : CallFault) → n ≡ m + 1 → step p ≡ Err f → printed n p ≡ Err f
unfolding printed
printed-fault zero m p f e h = absurd (omega (arith, e))
printed-fault (suc n) m p f e h = ap (λ s. go_on s (λ q. printed n q)) h
