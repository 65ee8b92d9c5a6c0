-- What is found stands in the table.
use Rattle.std.proofs.Common.{◌≡◌, ℕ, zero, suc, ◌+◌, ◌<◌, Bool, true, false, ◌&&◌, nat_lt, List, [], ◌∷◌, ◌++◌, length, slice_get, Option, Some, None, Result, Ok, Err, IfSome, IfOk, if◌then◌else◌, refl, sym, ap, ◌∙◌, subst, arith}
use Rattle.std.specs.Option.{option_to_list}
use Rattle.std.specs.List.{position, position_or_len, list_all}
use Rattle.std.proofs.lemmas.Option.{cond_some}
use borrow.Author.Tests.{ltb-true}
use Rattle.php_classes.specs.declared.class.ClassEntry.{ClassEntry}
use Rattle.php_classes.specs.declared.class.Lineage.{Lineage}
use Rattle.php_classes.specs.declared.class.MemberKind.{MemberKind}
use Rattle.php_classes.specs.declared.class.MemberRef.{MemberRef}
use Rattle.php_classes.specs.declared.fault.ClassFault.{ClassFault}
use Rattle.php_classes.specs.declared.fault.ClassFault.TheVariants.{Hidden}
use Rattle.php_classes.specs.Members.{is_named}
use Rattle.php_classes.specs.LookUp.{members_at, or_further, first_among, is_visible, visibility_at, seen, constant_at, IsPlace}
use Rattle.php_classes.specs.Declaring.{names_below, names_earlier, parent_in}
use Rattle.php_classes.specs.Tables.{IsKept}

class_within : (classes : List ClassEntry) (n place : ℕ) → place < length (members_at classes n) → n < length classes
class_within [] n place h = absurd (omega arith)
class_within (c ∷ classes) zero place h = omega arith
class_within (c ∷ classes) (suc n) place h = let l = class_within classes n place h in omega arith

at_place : (classes : List ClassEntry) (kind : MemberKind) (name : List ℕ) (n place : ℕ) →
    position (is_named kind name) (members_at classes n) ≡ Some place → IsPlace classes (record { class = n; member = place })
at_place classes kind name n place e =
    let h = cond_some (nat_lt (position_or_len (is_named kind name) (members_at classes n)) (length (members_at classes n)))
    (position_or_len (is_named kind name) (members_at classes n)) place e in
    let low : position_or_len (is_named kind name) (members_at classes n) < length (members_at classes n) = ltb-true _ _ h.0 in
    let l : place < length (members_at classes n) = subst (λ (m : ℕ). m < length (members_at classes n)) h.1 low in
    record { class = class_within classes n place l; member = l }

one_of : (classes : List ClassEntry) (kind : MemberKind) (name : List ℕ) (n : ℕ) (o : Option ℕ) (further : Option MemberRef) →
    position (is_named kind name) (members_at classes n) ≡ o → IfSome further (IsPlace classes) → IfSome (or_further n o further) (IsPlace classes)
one_of classes kind name n (Some place) further e h = at_place classes kind name n place e
one_of classes kind name n None further e h = h

first_within : (classes : List ClassEntry) (kind : MemberKind) (name ns : List ℕ) → IfSome (first_among classes kind name ns) (IsPlace classes)
first_within classes kind name [] = tt
first_within classes kind name (n ∷ ns) =
    one_of classes kind name n (position (is_named kind name) (members_at classes n)) (first_among classes kind name ns) refl (first_within classes kind name ns)

seen_if : (classes : List ClassEntry) (b : Bool) (place : MemberRef) → IsPlace classes place →
    IfOk (let r : Result MemberRef ClassFault = if b then Ok place else Err Hidden in r) (IsPlace classes)
seen_if classes true place h = h
seen_if classes false place h = tt

seen_one : (classes : List ClassEntry) (lineages : List Lineage) (scope : Option ℕ) (o : Option MemberRef) → IfSome o (IsPlace classes) →
    IfOk (seen classes lineages scope o) (IsPlace classes)
seen_one classes lineages scope None h = tt
seen_one classes lineages scope (Some place) h = seen_if classes (is_visible lineages scope (visibility_at classes place) place.class) place h

pub seen_within : (classes : List ClassEntry) (lineages : List Lineage) (scope : Option ℕ) (kind : MemberKind) (name ns : List ℕ) →
    IfOk (seen classes lineages scope (first_among classes kind name ns)) (IsPlace classes)
seen_within classes lineages scope kind name ns = seen_one classes lineages scope (first_among classes kind name ns) (first_within classes kind name ns)

constant_one : (classes : List ClassEntry) (o : Option MemberRef) → IfSome o (IsPlace classes) → IfOk (constant_at o) (IsPlace classes)
constant_one classes None h = tt
constant_one classes (Some place) h = h

pub constant_within : (classes : List ClassEntry) (kind : MemberKind) (name ns : List ℕ) →
    IfOk (constant_at (first_among classes kind name ns)) (IsPlace classes)
constant_within classes kind name ns = constant_one classes (first_among classes kind name ns) (first_within classes kind name ns)

-- ---- what a class extends

front : (a b : Bool) → a && b ≡ true → a ≡ true
front true b e = refl
front false b e = absurd cc

rest : (a b : Bool) → a && b ≡ true → b ≡ true
rest true b e = e
rest false b e = absurd cc

earlier_one : (n : ℕ) (c : ClassEntry) (parent : Option ℕ) → c.parent ≡ parent → names_below n c ≡ true → IfSome parent (λ p. p < n)
earlier_one n c None is e = tt
earlier_one n c (Some p) is e =
    let h : list_all (λ m. nat_lt m n) (option_to_list (Some p) ++ c.interfaces) ≡ true =
    ap (λ o. list_all (λ m. nat_lt m n) (option_to_list o ++ c.interfaces)) (sym is) ∙ e in
    ltb-true _ _ (front (nat_lt p n) (list_all (λ m. nat_lt m n) c.interfaces) h)

earlier_at : (n : ℕ) (classes : List ClassEntry) (class : ℕ) → names_earlier n classes ≡ true → IfSome (parent_in (slice_get classes class)) (λ p. p < n + class)
earlier_at n [] class e = tt
earlier_at n (c ∷ classes) zero e =
    let z : n ≡ n + 0 = omega arith in
    subst (λ (m : ℕ). IfSome c.parent (λ p. p < m)) z (earlier_one n c c.parent refl (front (names_below n c) (names_earlier (n + 1) classes) e))
earlier_at n (c ∷ classes) (suc class) e =
    let z : (n + 1) + class ≡ n + suc class = omega arith in
    subst (λ (m : ℕ). IfSome (parent_in (slice_get classes class)) (λ p. p < m)) z (earlier_at (n + 1) classes class (rest (names_below n c) (names_earlier (n + 1) classes) e))

pub parent_is_earlier : (classes : List ClassEntry) (lineages : List Lineage) (class : ℕ) → IsKept classes lineages → IfSome (parent_in (slice_get classes class)) (λ p. p < class)
parent_is_earlier classes lineages class kept =
    let z : 0 + class ≡ class = omega arith in
    subst (λ (m : ℕ). IfSome (parent_in (slice_get classes class)) (λ p. p < m)) z (earlier_at 0 classes class kept.earlier)
