-- The first text that names nothing, by two tests that agree.
use Rattle.std.proofs.Common.{◌≡◌, ℕ, Bool, List, Option, None, Some, Ok, Err, sym, ap, ◌∙◌}
use Rattle.role_routing.specs.Files.{unknown_entry}
use Rattle.keep_lists.specs.Known.{unknown_among, judged}

same_unknown : (known named : List ℕ → Bool) (keep : List (ℕ × List (List ℕ))) → ((t : List ℕ) → known t ≡ named t) → unknown_among named keep ≡ unknown_among known keep
same_unknown known named keep same = let f : known ≡ named = (λ i t. same t i) in ap (λ k. unknown_among k keep) (sym f)

pub told : (known named : List ℕ → Bool) (keep : List (ℕ × List (List ℕ))) (text copy : List ℕ) → ((t : List ℕ) → known t ≡ named t) → Some text ≡ unknown_among known keep → copy ≡ text
    → judged (unknown_among named keep) ≡ Err (unknown_entry copy)
told known named keep text copy same found e =
    ap judged (same_unknown known named keep same ∙ sym found) ∙ ap (λ t. Err (unknown_entry t)) (sym e)

pub passes : (known named : List ℕ → Bool) (keep : List (ℕ × List (List ℕ))) → ((t : List ℕ) → known t ≡ named t) → None ≡ unknown_among known keep → judged (unknown_among named keep) ≡ Ok tt
passes known named keep same none = ap judged (same_unknown known named keep same ∙ sym none)
