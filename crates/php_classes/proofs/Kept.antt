-- A table with one more class.
use Rattle.std.proofs.Common.{◌≡◌, ℕ, suc, ◌+◌, ◌-◌, ◌<◌, ◌^◌, Bool, true, false, ◌&&◌, List, [], ◌∷◌, ◌++◌, length, slice_get, Some, Result, Ok, Err, if◌then◌else◌, refl, sym, ap, ◌∙◌, arith}
use Rattle.std.proofs.lemmas.List.{length_push}
use Rattle.std.specs.Option.{unwrap_or}
use Rattle.std.specs.Result.{is_ok, is_err}
use Rattle.php_classes.specs.declared.class.ClassEntry.{ClassEntry}
use Rattle.php_classes.specs.declared.class.Lineage.{Lineage}
use Rattle.php_classes.specs.Ancestors.{lineage_of, lineage_at, lineages_behind, lineages_of, no_lineage, all_of}
use Rattle.php_classes.specs.Declaring.{names_below, names_earlier, is_concrete, lacks_among, lacks_body}
use Rattle.php_classes.specs.Tables.{IsKept}
use Rattle.php_classes.proofs.Lineages.{lineages_more}

length_behind : (before : List Lineage) (classes : List ClassEntry) → length (lineages_behind before classes) ≡ length before + length classes
length_behind before [] = omega arith
length_behind before (c ∷ classes) =
    let l = length_push before (lineage_of before c) in
    let h = length_behind (before ++ lineage_of before c ∷ []) classes in
    omega arith

pub length_lineages : (classes : List ClassEntry) (lineages : List Lineage) → IsKept classes lineages → length classes ≡ length lineages
length_lineages classes lineages kept =
    let h = length_behind [] classes in
    let e : length lineages ≡ length (lineages_of classes) = ap length kept.lineages_are in
    omega arith

both : (a b c : Bool) → a && b ≡ true → (b ≡ true → c ≡ true) → a && c ≡ true
both true b c e f = f e
both false b c e f = e

earlier_more : (n : ℕ) (classes : List ClassEntry) (c : ClassEntry) → names_earlier n classes ≡ true → names_below (n + length classes) c ≡ true →
    names_earlier n (classes ++ c ∷ []) ≡ true
earlier_more n [] c e below =
    let z : n + 0 ≡ n = omega arith in
    let b : names_below n c ≡ true = rw z at below in
    rw b refl
earlier_more n (d ∷ classes) c e below =
    let z : n + suc (length classes) ≡ (n + 1) + length classes = omega arith in
    let b : names_below ((n + 1) + length classes) c ≡ true = rw z at below in
    both (names_below n d) (names_earlier (n + 1) classes) (names_earlier (n + 1) (classes ++ c ∷ [])) e (λ f. earlier_more (n + 1) classes c f b)

pub kept_more : (classes : List ClassEntry) (lineages : List Lineage) (c : ClassEntry) (l : Lineage) (value more : List ClassEntry) (longer : List Lineage) →
    IsKept classes lineages → classes ≡ value → length classes < 2 ^ 32 - 1 → names_below (length value) c ≡ true → l ≡ lineage_of lineages c →
    more ≡ classes ++ c ∷ [] → longer ≡ lineages ++ l ∷ [] → IsKept more longer
kept_more classes lineages c l value more longer kept view few below is more_is longer_is =
    let a : lineages ++ l ∷ [] ≡ lineages_of (classes ++ c ∷ []) =
    (λ i. kept.lineages_are i ++ (is ∙ ap (λ ls. lineage_of ls c) kept.lineages_are) i ∷ []) ∙ sym (lineages_more [] classes c) in
    let n = length_push classes c in
    let m : length more ≡ length (classes ++ c ∷ []) = ap length more_is in
    let z : 0 + length classes ≡ length value = omega (arith, ap length view) in
    record {
      lineages_are = longer_is ∙ (a ∙ ap lineages_of (sym more_is));
      few = omega arith;
      earlier = ap (names_earlier 0) more_is ∙ earlier_more 0 classes c kept.earlier (ap (λ n. names_below n c) z ∙ below);
    }

slice_get_last : {A : Type 0} (xs : List A) (x : A) → slice_get (xs ++ x ∷ []) (length xs) ≡ Some x
slice_get_last [] x = refl
slice_get_last (y ∷ xs) x = slice_get_last xs x

-- the lineage of the class that was added last
pub last_lineage : (classes : List ClassEntry) (lineages : List Lineage) (c : ClassEntry) → IsKept classes lineages →
    lineage_at (lineages_of (classes ++ c ∷ [])) (length classes) ≡ lineage_of lineages c
last_lineage classes lineages c kept =
    let n = length_lineages classes lineages kept in
    let e : lineages_of (classes ++ c ∷ []) ≡ lineages ++ lineage_of lineages c ∷ [] =
    lineages_more [] classes c ∙ ap (λ ls. ls ++ lineage_of ls c ∷ []) (sym kept.lineages_are) in
    (λ i. lineage_at (e i) (n i)) ∙ ap (λ o. unwrap_or o no_lineage) (slice_get_last lineages (lineage_of lineages c))

-- whether the class that was added last lacks a body
pub unfinished : (classes : List ClassEntry) (lineages : List Lineage) (c : ClassEntry) (l : Lineage) (value more : List ClassEntry) (b : Bool) →
    IsKept classes lineages → classes ≡ value → l ≡ lineage_of lineages c → more ≡ classes ++ c ∷ [] →
    is_concrete c.kind && lacks_among more (all_of l) ≡ b → lacks_body value c ≡ b
unfinished classes lineages c l value more b kept view is more_is h =
    let e : lineage_at (lineages_of (classes ++ c ∷ [])) (length classes) ≡ l = last_lineage classes lineages c kept ∙ sym is in
    ap (λ v. lacks_body v c) (sym view) ∙ ((λ i. is_concrete c.kind && lacks_among (sym more_is i) (all_of (e i))) ∙ h)

-- what a push that did not fail has done
pub pushed : {T E A : Type 0} (r : Result T E) (new xs ys : List A) → new ≡ (if is_ok r then xs else ys) → is_err r ≡ false → new ≡ xs
pushed (Ok v) new xs ys p e = p
pushed (Err f) new xs ys p e = absurd cc
