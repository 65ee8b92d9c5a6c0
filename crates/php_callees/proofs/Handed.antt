-- Arguments of parameters.
use Rattle.std.proofs.Common.{◌≡◌, ℕ, zero, suc, ◌<◌, ◌≤◌, List, [], ◌∷◌, length, map, drop, get_or, refl, sym, ap, arith, if◌then◌else◌}
use Rattle.php_tree.specs.Renamed.{renamed_parameter}
use Rattle.php_tree.specs.StatementOf.{parameter_of}
use Rattle.php_tree.specs.declared.decl.Param.{Param}
use Rattle.php_world.specs.Naming.{Naming}
use Rattle.php_meaning.specs.Calls.{by_value, by_cell, passing_of}
use Rattle.php_meaning.specs.Expressions.{first_passing}

pub handed_at : (t : Naming) (ps : List Param) (n : ℕ) (p : Param) → n < length ps → p ≡ get_or ps n p
    → first_passing (drop n (map passing_of (map (renamed_parameter t.name) (map parameter_of ps)))) ≡ (if p.by_reference then by_cell else by_value)
handed_at t [] n p less is = absurd (omega arith)
handed_at t (q ∷ ps) zero p less is = ap (λ x. if x.by_reference then by_cell else by_value) (sym is)
handed_at t (q ∷ ps) (suc n) p less is = handed_at t ps n p (omega arith) is

pub handed_behind : (t : Naming) (ps : List Param) (n : ℕ) → length ps ≤ n → first_passing (drop n (map passing_of (map (renamed_parameter t.name) (map parameter_of ps)))) ≡ by_value
handed_behind t [] zero less = refl
handed_behind t [] (suc n) less = refl
handed_behind t (q ∷ ps) zero less = absurd (omega arith)
handed_behind t (q ∷ ps) (suc n) less = handed_behind t ps n (omega arith)
