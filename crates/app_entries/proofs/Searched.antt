-- A search among files in byte order of their paths.
use Rattle.std.proofs.Common.{◌≡◌, ℕ, false, List, [], ◌∷◌, ◌++◌, map, sym, ap, ◌∙◌, subst, Ordering}
use Rattle.std.specs.List.{All, AllByRecursion}
use Rattle.std.specs.List.Sorted.{IsStrictlySortedBy}
use Rattle.std.specs.declared.cmp.Ordering.TheVariants.{Less, Equal, Greater}
use Rattle.std.specs.Ordering.{nat_cmp, is_eq, ordering_reverse}
use Rattle.std.specs.Cmp.Lexicographic.{slice_cmp, nat_list_cmp_total}
use Rattle.std.specs.Str.{bytes_eq}
use Rattle.std.specs.FinMap as fin
use Rattle.std.proofs.lemmas.Map.Text.{is_eq-slice_cmp}
use Rattle.std.proofs.lemmas.List.Elements.{All-nil, All-cons, All-head, All-tail}
use Rattle.app_load.specs.declared.app.AppFile.{AppFile}
use Rattle.app_load.specs.Entries.{Entry}
use Rattle.app_files.specs.FileSets.{IsWhole, path_bytes}
use Rattle.app_entries.specs.Ordinals.{ordinal_of}
use Rattle.app_entries.specs.Search.{path_of, IsLeft, IsFileAt, IsNowhere}
use Rattle.app_entries.proofs.Misses.{IsOther, front_missed, back_missed, middle_kept}

abbrev pub cmp : List ℕ → List ℕ → Ordering
cmp = slice_cmp nat_cmp

-- ---- comparing paths

turned : (a b : List ℕ) → cmp a b ≡ Greater → cmp b a ≡ Less
turned a b h = nat_list_cmp_total.antisymm b a ∙ ap ordering_reverse h

turned_up : (a b : List ℕ) → cmp a b ≡ Less → cmp b a ≡ Greater
turned_up a b h = nat_list_cmp_total.antisymm b a ∙ ap ordering_reverse h

other_less : (a b : List ℕ) → cmp a b ≡ Less → bytes_eq a b ≡ false
other_less a b h = sym (is_eq-slice_cmp a b) ∙ ap is_eq h

other_greater : (a b : List ℕ) → cmp a b ≡ Greater → bytes_eq a b ≡ false
other_greater a b h = sym (is_eq-slice_cmp a b) ∙ ap is_eq h

-- ---- the parts of a list in order

all_front : (P : AppFile → Type 0) (xs ys : List AppFile) → All P (xs ++ ys) → All P xs
all_front P [] ys h = All-nil P
all_front P (x ∷ xs) ys h = All-cons P x xs (All-head P x (xs ++ ys) h) (all_front P xs ys (All-tail P x (xs ++ ys) h))

all_back : (P : AppFile → Type 0) (xs ys : List AppFile) → All P (xs ++ ys) → All P ys
all_back P [] ys h = h
all_back P (x ∷ xs) ys h = all_back P xs ys (All-tail P x (xs ++ ys) h)

part_front : (P : List ℕ → Type 0) (xs ys : List AppFile) → AllByRecursion P (map path_bytes (xs ++ ys)) → AllByRecursion P (map path_bytes xs)
part_front P [] ys h = tt
part_front P (x ∷ xs) ys h = (h.0, part_front P xs ys h.1)

part_at : (P : List ℕ → Type 0) (xs : List AppFile) (m : AppFile) (ys : List AppFile) → AllByRecursion P (map path_bytes (xs ++ m ∷ ys)) → P (path_bytes m)
part_at P [] m ys h = h.0
part_at P (x ∷ xs) m ys h = part_at P xs m ys h.1

abbrev Rises : List AppFile → Type 0
Rises files = IsStrictlySortedBy cmp (map path_bytes files)

rises_front : (xs ys : List AppFile) → Rises (xs ++ ys) → Rises xs
unfolding IsStrictlySortedBy
rises_front [] ys h = tt
rises_front (x ∷ xs) ys h = (part_front (λ y. cmp (path_bytes x) y ≡ Less) xs ys h.0, rises_front xs ys h.1)

rises_back : (xs ys : List AppFile) → Rises (xs ++ ys) → Rises ys
unfolding IsStrictlySortedBy
rises_back [] ys h = h
rises_back (x ∷ xs) ys h = rises_back xs ys h.1

rises_tail : (m : AppFile) (ys : List AppFile) → Rises (m ∷ ys) → Rises ys
unfolding IsStrictlySortedBy
rises_tail m ys h = h.1

front_below : (xs : List AppFile) (m : AppFile) (ys : List AppFile) → Rises (xs ++ m ∷ ys) → AllByRecursion (λ f. cmp (path_bytes f) (path_bytes m) ≡ Less) xs
unfolding IsStrictlySortedBy
front_below [] m ys h = tt
front_below (x ∷ xs) m ys h = (part_at (λ y. cmp (path_bytes x) y ≡ Less) xs m ys h.0, front_below xs m ys h.1)

by_path : (P : List ℕ → Type 0) (ys : List AppFile) → AllByRecursion P (map path_bytes ys) → AllByRecursion (λ f. P (path_bytes f)) ys
by_path P [] h = tt
by_path P (y ∷ ys) h = (h.0, by_path P ys h.1)

behind_above : (xs : List AppFile) (m : AppFile) (ys : List AppFile) → Rises (xs ++ m ∷ ys) → AllByRecursion (λ f. cmp (path_bytes m) (path_bytes f) ≡ Less) ys
unfolding IsStrictlySortedBy
behind_above [] m ys h = by_path (λ p. cmp (path_bytes m) p ≡ Less) ys h.0
behind_above (x ∷ xs) m ys h = behind_above xs m ys h.1

-- ---- files of another path

below_other : (e : Entry) (k : List ℕ) (xs : List AppFile) → (cmp k (path_of e) ≡ Less) → AllByRecursion (λ f. cmp (path_bytes f) k ≡ Less) xs → AllByRecursion (IsOther e) xs
below_other e k [] h all = tt
below_other e k (x ∷ xs) h all = (other_less (path_bytes x) (path_of e) (nat_list_cmp_total.trans (path_bytes x) k (path_of e) all.0 h), below_other e k xs h all.1)

at_below : (e : Entry) (xs : List AppFile) → AllByRecursion (λ f. cmp (path_bytes f) (path_of e) ≡ Less) xs → AllByRecursion (IsOther e) xs
at_below e [] all = tt
at_below e (x ∷ xs) all = (other_less (path_bytes x) (path_of e) all.0, at_below e xs all.1)

above_other : (e : Entry) (k : List ℕ) (xs : List AppFile) → (cmp (path_of e) k ≡ Less) → AllByRecursion (λ f. cmp k (path_bytes f) ≡ Less) xs → AllByRecursion (IsOther e) xs
above_other e k [] h all = tt
above_other e k (x ∷ xs) h all = (other_greater (path_bytes x) (path_of e) (turned_up (path_of e) (path_bytes x) (nat_list_cmp_total.trans (path_of e) k (path_bytes x) h all.0)), above_other e k xs h all.1)

at_above : (e : Entry) (xs : List AppFile) → AllByRecursion (λ f. cmp (path_of e) (path_bytes f) ≡ Less) xs → AllByRecursion (IsOther e) xs
at_above e [] all = tt
at_above e (x ∷ xs) all = (other_greater (path_bytes x) (path_of e) (turned_up (path_of e) (path_bytes x) all.0), at_above e xs all.1)

-- ---- steps of the search

module _ (path : List ℕ) (files left front : List AppFile) (m : AppFile) (behind : List AppFile) (parts : left ≡ front ++ m ∷ behind) (was : IsLeft path files left) where
  rises : Rises (front ++ m ∷ behind)
  rises = subst Rises parts was.whole.ascending

  each : All IsWhole (front ++ m ∷ behind)
  each = subst (All IsWhole) parts was.whole.each

  pub goes_behind : cmp (path_bytes m) path ≡ Less → IsLeft path files behind
  goes_behind h = record {
    whole = record { each = All-tail IsWhole m behind (all_back IsWhole front (m ∷ behind) each); ascending = rises_tail m behind (rises_back front (m ∷ behind) rises) };
    own = λ e is.
        let less : cmp (path_bytes m) (path_of e) ≡ Less = subst (λ p. cmp (path_bytes m) p ≡ Less) (sym is) h in
        was.own e is
        ∙ ap (λ l. ordinal_of l e) parts
        ∙ front_missed front (m ∷ behind) e (below_other e (path_bytes m) front less (front_below front m behind rises))
        ∙ front_missed (m ∷ []) behind e (other_less (path_bytes m) (path_of e) less, tt);
  }

  pub goes_front : cmp (path_bytes m) path ≡ Greater → IsLeft path files front
  goes_front h = record {
    whole = record { each = all_front IsWhole front (m ∷ behind) each; ascending = rises_front front (m ∷ behind) rises };
    own = λ e is.
        let more : cmp (path_bytes m) (path_of e) ≡ Greater = subst (λ p. cmp (path_bytes m) p ≡ Greater) (sym is) h in
        was.own e is
        ∙ ap (λ l. ordinal_of l e) parts
        ∙ back_missed front (m ∷ behind) e (other_greater (path_bytes m) (path_of e) more, above_other e (path_bytes m) behind (turned (path_bytes m) (path_of e) more) (behind_above front m behind rises));
  }

  pub stops : cmp (path_bytes m) path ≡ Equal → IsFileAt path files m
  stops h =
      let same : path_bytes m ≡ path = fin.slice_cmp-IsAntisymmetric fin.nat_cmp-IsAntisymmetric (path_bytes m) path h in
      record {
        same_path = same;
        whole = All-head IsWhole m behind (all_back IsWhole front (m ∷ behind) each);
        own = λ e is.
            let here : path_bytes m ≡ path_of e = same ∙ sym is in
            was.own e is
            ∙ ap (λ l. ordinal_of l e) parts
            ∙ middle_kept front behind m e
            (at_below e front (subst (λ p. AllByRecursion (λ f. cmp (path_bytes f) p ≡ Less) front) here (front_below front m behind rises)))
            (at_above e behind (subst (λ p. AllByRecursion (λ f. cmp p (path_bytes f) ≡ Less) behind) here (behind_above front m behind rises)));
      }

pub nowhere : (path : List ℕ) (files left : List AppFile) → left ≡ [] → IsLeft path files left → IsNowhere path files
nowhere path files left e was = λ entry is. was.own entry is ∙ ap (λ l. ordinal_of l entry) e
