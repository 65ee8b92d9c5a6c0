-- Names that are words, as far as entries want it: no colon stands in the name of a function or a class, so that `class::method`
-- names one method and no function.
use Rattle.std.specs.Prelude.{◌≡◌, ⊤, ℕ, ◌==◌, Bool, false, ◌||◌, List, [], ◌∷◌}
use Rattle.app_load.specs.declared.finding.Sort.{Sort}
use Rattle.app_load.specs.declared.finding.Sort.TheVariants as sort
use Rattle.app_load.specs.Findings.{Name, Finding, declares, leaves}

abbrev pub has_colon : List ℕ → Bool
has_colon [] = false
has_colon (byte ∷ bytes) = byte == 58 || has_colon bytes

-- the name of a function, or the class of a method
abbrev pub IsPlain : Sort → Name → Type 0
IsPlain sort.Function n = has_colon n.word ≡ false
IsPlain sort.Method n = has_colon n.class ≡ false
IsPlain _ n = ⊤

abbrev pub ArePlain : List Finding → Type 0
ArePlain [] = ⊤
ArePlain (leaves l ∷ fs) = ArePlain fs
ArePlain (declares n ∷ fs) = IsPlain n.sort n × ArePlain fs
