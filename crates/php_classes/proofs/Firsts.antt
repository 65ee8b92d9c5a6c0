-- The first declaration in a list of two parts.
use Rattle.std.proofs.Common.{◌≡◌, ℕ, List, [], ◌∷◌, ◌++◌, Option, Some, None, refl, ap, ◌∙◌}
use Rattle.std.specs.List.{position}
use Rattle.std.specs.Option.{option_or}
use Rattle.php_classes.specs.declared.class.ClassEntry.{ClassEntry}
use Rattle.php_classes.specs.declared.class.MemberKind.{MemberKind}
use Rattle.php_classes.specs.declared.class.MemberRef.{MemberRef}
use Rattle.php_classes.specs.Members.{is_named}
use Rattle.php_classes.specs.LookUp.{members_at, or_further, first_among}

further_or : (class : ℕ) (o : Option ℕ) (one other : Option MemberRef) → or_further class o (option_or one other) ≡ option_or (or_further class o one) other
further_or class (Some place) one other = refl
further_or class None one other = refl

pub first_of_two : (classes : List ClassEntry) (kind : MemberKind) (name : List ℕ) (ns ms : List ℕ) →
    first_among classes kind name (ns ++ ms) ≡ option_or (first_among classes kind name ns) (first_among classes kind name ms)
first_of_two classes kind name [] ms = refl
first_of_two classes kind name (n ∷ ns) ms =
    ap (or_further n (position (is_named kind name) (members_at classes n))) (first_of_two classes kind name ns ms)
    ∙ further_or n (position (is_named kind name) (members_at classes n)) (first_among classes kind name ns) (first_among classes kind name ms)
