-- Paths that are cut of a folder's path.
use Rattle.std.proofs.Common.{◌≡◌, ℕ, ◌↔◌, Bool, true, false, cond, List, [], ◌∷◌, ◌++◌, length, filter, drop, nat_eq, Option, None, Some, Bor, MatchOption, IfSome, refl, sym, ap, ◌∙◌, subst}
use Rattle.std.specs.List.{Contains, filter_map, starts_with}
use Rattle.std.specs.Cmp.{unsigned_Decides}
use Rattle.std.specs.Option.{option_copied}
use Rattle.std.specs.Str.Pattern.{FindsTextPrefix, StripsPrefix}
use Rattle.std.proofs.lemmas.List.{append_assoc}
use Rattle.std.proofs.lemmas.List.Prefix.{front_rest}
use Rattle.std.proofs.lemmas.Slice.Eq.{starts_is}
use Rattle.std.proofs.lemmas.Str.Pattern.{starts_text}
use Rattle.std.specs.List.Sorted.{IsStrictlySortedBy}
use Rattle.std.specs.Ordering.{nat_cmp}
use Rattle.std.specs.Cmp.Lexicographic.{slice_cmp}
use Rattle.std.specs.FinMap as fin
use Rattle.less_outside.specs.Files.{Files, is_below, paths_below}
use Rattle.app_reading.specs.Parts.{AreParts, is_part, whole, rest_after, visible_or_none, part_of}
use Rattle.app_reading.proofs.Lists.{from_filter_map, into_filter_map, from_filter, into_filter}

pub stripped : (n s : List ℕ) (r : Option (Bor (List ℕ))) → MatchOption r (FindsTextPrefix n s None) (λ x. StripsPrefix (FindsTextPrefix n) s x.now) → option_copied r ≡ rest_after n s
stripped n s None m = ap (λ b. cond b (Some (drop (length n) s)) None) (starts_text false n s m)
stripped n s (Some x) (k, found, is, len) =
    ap Some (is ∙ ap (λ i. drop i s) found.0) ∙ ap (λ b. cond b (Some (drop (length n) s)) None) (sym ((starts_is unsigned_Decides s n (starts_with nat_eq s n) refl).1 (drop k s) found.1))

-- ---- what is cut

visible_is : (p q : List ℕ) (b : Bool) → is_part p ≡ b → cond b (Some p) None ≡ Some q → (p ≡ q) × (is_part q ≡ true)
visible_is p q false is e = cc
visible_is p q true is e = let same : p ≡ q = cc in (same, sym (ap is_part same) ∙ is)

rest_is : (front w q : List ℕ) (b : Bool) → starts_with nat_eq w front ≡ b → visible_or_none (cond b (Some (drop (length front) w)) None) ≡ Some q → (w ≡ front ++ q) × (is_part q ≡ true)
rest_is front w q false is e = cc
rest_is front w q true is e =
    let r = visible_is (drop (length front) w) q (is_part (drop (length front) w)) refl e in
    ((starts_is unsigned_Decides w front (starts_with nat_eq w front) refl).0 is ∙ ap (λ p. front ++ p) r.0, r.1)

part_is : (front w q : List ℕ) → part_of front w ≡ Some q → (w ≡ front ++ q) × (is_part q ≡ true)
part_is front w q e = rest_is front w q (starts_with nat_eq w front) refl e

begins : (front q : List ℕ) → starts_with nat_eq (front ++ q) front ≡ true
begins front q = (starts_is unsigned_Decides (front ++ q) front (starts_with nat_eq (front ++ q) front) refl).1 q refl

cut : (front q : List ℕ) → is_part q ≡ true → part_of front (front ++ q) ≡ Some q
cut front q h =
    ap (λ b. visible_or_none (cond b (Some (drop (length front) (front ++ q))) None)) (begins front q)
    ∙ ap (λ p. visible_or_none (Some p)) (front_rest (front ++ q) front q refl)
    ∙ ap (λ b. cond b (Some q) None) h

whole_is : (below q : List ℕ) → (below ++ 47 ∷ []) ++ q ≡ whole below q
whole_is below q = append_assoc below (47 ∷ []) q

-- the paths of an application among those of a folder
pub cut_of : (below : List ℕ) (all listed : List (List ℕ)) → listed ≡ filter (is_below below) all
    → (p : List ℕ) → Contains (filter_map (part_of (below ++ 47 ∷ [])) listed) p ↔ ((is_part p ≡ true) × Contains all (whole below p))
cut_of below all listed is p =
    let front = below ++ 47 ∷ [] in (
      λ m. let r = from_filter_map (part_of front) listed p m in
          let q = part_is front r.0 p r.2 in
          (q.1, subst (Contains all) (q.0 ∙ whole_is below p) (from_filter (is_below below) all r.0 (subst (λ l. Contains l r.0) is r.1)).0),
      λ m. let kept = into_filter (is_below below) all (front ++ p) (subst (Contains all) (sym (whole_is below p)) m.1) (begins front p) in
          into_filter_map (part_of front) listed (front ++ p) p (subst (λ l. Contains l (front ++ p)) (sym is) kept) (cut front p m.0),
    )

pub parts_told : (below front : List ℕ) (told : Option Files) (listed parts paths : List (List ℕ)) → front ≡ below ++ 47 ∷ [] → IfSome told (λ files. listed ≡ paths_below below files) → parts ≡ filter_map (part_of front) listed
    → IsStrictlySortedBy (slice_cmp nat_cmp) paths → ((p : List ℕ) → Contains paths p ↔ Contains parts p) → IfSome told (λ files. AreParts below (fin.keys files) paths)
parts_told below front None listed parts paths begin is kept up same = tt
parts_told below front (Some files) listed parts paths begin is kept up same =
    let kept_of : parts ≡ filter_map (part_of (below ++ 47 ∷ [])) listed = kept ∙ ap (λ f. filter_map (part_of f) listed) begin in
    let exact = cut_of below (fin.keys files) listed is in
    record {
      ascending = up;
      exact = λ p. (
        λ m. (exact p).0 (subst (λ l. Contains l p) kept_of ((same p).0 m)),
        λ m. (same p).1 (subst (λ l. Contains l p) (sym kept_of) ((exact p).1 m)),
      );
    }

pub visible_all : (front : List ℕ) (listed parts paths : List (List ℕ)) → parts ≡ filter_map (part_of front) listed → ((p : List ℕ) → Contains paths p ↔ Contains parts p) → (p : List ℕ) → Contains paths p → is_part p ≡ true
visible_all front listed parts paths kept same p m =
    let r = from_filter_map (part_of front) listed p (subst (λ l. Contains l p) kept ((same p).0 m)) in
    (part_is front r.0 p r.2).1
