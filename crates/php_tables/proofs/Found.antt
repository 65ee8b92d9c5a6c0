-- What is found under a name is the first function of that name.
use Rattle.std.proofs.Common.{◌≡◌, ℕ, List, [], ◌∷◌, map, Some, if◌then◌else◌, refl, ap, ◌∙◌}
use Rattle.std.specs.Str.{bytes_eq}
use Rattle.php_names.specs.Tables.{found}
use Rattle.php_tables.specs.Named.{IsNamed, lower_name}
use Rattle.php_tables.specs.Functions.{first_named}
use Rattle.php_tables.specs.declared.function.Function.{Function}

pub found_first : (name : List ℕ) (table : List (List ℕ × Function)) → IsNamed table → found name table ≡ first_named name (map (λ p. p.1) table)
found_first name [] named = refl
found_first name (p ∷ ps) named =
    let head : p.0 ≡ lower_name p.1 = cc in
    let tail : IsNamed ps = cc in
    ap (λ n. if bytes_eq n name then Some p.1 else found name ps) head
    ∙ ap (λ o. if bytes_eq (lower_name p.1) name then Some p.1 else o) (found_first name ps tail)
