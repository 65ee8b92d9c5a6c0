-- Entries that stand one behind the other.
use Rattle.std.proofs.Common.{◌≡◌, List, [], ◌∷◌, ◌++◌, append_assoc, ap, ◌∙◌}
use Rattle.php_tree.specs.declared.decl.FunDecl.{FunDecl, out-FunDecl}
use Rattle.php_tree.specs.StatementOf.{function_of}
use Rattle.php_tree.proofs.Statements.{function_of-out}
use Rattle.php_classes.specs.Entries.{function_name}

-- what was added in front of the rest
pub in_front : {A : Type 0} (a b x r : List A) → b ≡ a ++ x → b ++ r ≡ a ++ (x ++ r)
in_front a b x r e = ap (λ z. z ++ r) e ∙ append_assoc a x r

-- a step of a loop
pub goes_on : {A : Type 0} (a b x r w : List A) → b ≡ a ++ x → a ++ (x ++ r) ≡ w → b ++ r ≡ w
goes_on a b x r w e f = in_front a b x r e ∙ f

pub method_named : (f : FunDecl) → function_name (function_of f) ≡ (out-FunDecl f).name
method_named f = ap function_name (function_of-out f)

-- four elements, one behind the other
pub four : {A : Type 0} (a b c d e : List A) (w x y z : A) → b ≡ a ++ w ∷ [] → c ≡ b ++ x ∷ [] → d ≡ c ++ y ∷ [] → e ≡ d ++ z ∷ [] →
    e ≡ a ++ w ∷ x ∷ y ∷ z ∷ []
four a b c d e w x y z first second third fourth =
    let two : c ≡ a ++ w ∷ x ∷ [] = second ∙ in_front a b (w ∷ []) (x ∷ []) first in
    let three : d ≡ a ++ w ∷ x ∷ y ∷ [] = third ∙ in_front a c (w ∷ x ∷ []) (y ∷ []) two in
    fourth ∙ in_front a d (w ∷ x ∷ y ∷ []) (z ∷ []) three
