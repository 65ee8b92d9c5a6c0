-- The files of a map, against the map's own calls.
use Rattle.std.proofs.Common.{◌≡◌, ℕ, suc, length, Bool, true, false, cond, T, ◌&&◌, List, [], ◌∷◌, map, refl, sym, ap, ◌∙◌, subst}
use Rattle.std.specs.Prelude.{Option, None, Some, String, string_bytes, string_cmp, Vec}
use Rattle.std.specs.Option.{option_map}
use Rattle.std.specs.List.{AllByRecursion}
use Rattle.std.specs.List.Sorted.{IsStrictlySortedBy}
use Rattle.std.specs.declared.cmp.Ordering.TheVariants.{Less}
use Rattle.std.specs.Ordering.{nat_cmp, is_eq, is_lt, eq_by_cmp}
use Rattle.std.specs.Cmp.Lexicographic.{slice_cmp, nat_list_cmp_total}
use Rattle.std.specs.Cmp.{eq_by_cmp_equiv}
use Rattle.std.specs.Str.{bytes_eq}
use Rattle.std.specs.Map.{lookup, keys_of}
use Rattle.std.specs.BTreeMap.{BTreeMap, UpdatesBy, get_by_text, is_at}
use Rattle.std.specs.FinMap as fin
use Rattle.std.specs.FinMap.Entries.{below_all}
use Rattle.std.proofs.lemmas.Map.Text.{is_eq-slice_cmp, btree_map_updates_text}
use Rattle.std.specs.declared.alloc.Global.{Global}
use Rattle.less_outside.specs.Files.{Files}
use Rattle.less_outside.specs.FolderMem.{file_of, files_of}

abbrev Entries : Type 0
Entries = List (String Global × Vec ℕ Global)

find-files : (q : List ℕ) (es : Entries) → fin.find (slice_cmp nat_cmp) q (map file_of es) ≡ option_map (λ v. v.items) (lookup (is_at (λ k. slice_cmp nat_cmp q (string_bytes k))) es)
find-files q [] = refl
find-files q (e ∷ es) =
    elim (is_eq (slice_cmp nat_cmp q (string_bytes e.0))) as (λ b. cond b (Some e.1.items) (fin.find (slice_cmp nat_cmp) q (map file_of es)) ≡ option_map (λ v. v.items) (cond b (Some e.1) (lookup (is_at (λ k. slice_cmp nat_cmp q (string_bytes k))) es))) [
      | true ↦ refl
      | false ↦ find-files q es
    ]

-- the bytes at a path are those of the map's entry
pub get-files_of : (m : BTreeMap (String Global) (Vec ℕ Global)) (q : List ℕ) → fin.get (files_of m.entries) q ≡ option_map (λ v. v.items) (get_by_text m q)
get-files_of m q = fin.get-from_entries nat_list_cmp_total (map file_of m.entries) q ∙ find-files q m.entries

same_bytes : (bs q : List ℕ) → bytes_eq bs q ≡ eq_by_cmp (slice_cmp nat_cmp) q bs
same_bytes bs q = sym (is_eq-slice_cmp bs q) ∙ (eq_by_cmp_equiv nat_list_cmp_total).symm bs q

same_files : (f g : Files) → ((q : List ℕ) → fin.get f q ≡ fin.get g q) → f ≡ g
same_files = fin.same_map nat_list_cmp_total (fin.slice_cmp-IsAntisymmetric fin.nat_cmp-IsAntisymmetric)

mapped : {A B : Type 0} (f : A → B) (b : Bool) (x y : Option A) → option_map f (cond b x y) ≡ cond b (option_map f x) (option_map f y)
mapped f true x y = refl
mapped f false x y = refl

-- an insert into the map sets the file
pub files_of-insert : (m n : BTreeMap (String Global) (Vec ℕ Global)) (path : List ℕ) (bytes : Vec ℕ Global) → UpdatesBy string_cmp (λ k. slice_cmp nat_cmp path (string_bytes k)) m n (Some bytes) → files_of n.entries ≡ fin.insert (files_of m.entries) path bytes.items
files_of-insert m n path bytes updates = same_files _ _ (λ q.
    get-files_of n q
    ∙ ap (option_map (λ v. v.items)) (btree_map_updates_text path m n (Some bytes) updates q)
    ∙ mapped (λ v. v.items) (bytes_eq path q) (Some bytes) (get_by_text m q)
    ∙ ap (λ b. cond b (Some bytes.items) (option_map (λ v. v.items) (get_by_text m q))) (same_bytes path q)
    ∙ ap (cond (eq_by_cmp (slice_cmp nat_cmp) q path) (Some bytes.items)) (sym (get-files_of m q))
    ∙ sym (fin.get-insert nat_list_cmp_total (files_of m.entries) path bytes.items q))

-- a remove from the map removes the file
pub files_of-remove : (m n : BTreeMap (String Global) (Vec ℕ Global)) (path : List ℕ) → UpdatesBy string_cmp (λ k. slice_cmp nat_cmp path (string_bytes k)) m n None → files_of n.entries ≡ fin.remove (files_of m.entries) path
files_of-remove m n path updates = same_files _ _ (λ q.
    get-files_of n q
    ∙ ap (option_map (λ v. v.items)) (btree_map_updates_text path m n None updates q)
    ∙ mapped (λ v. v.items) (bytes_eq path q) None (get_by_text m q)
    ∙ ap (λ b. cond b None (option_map (λ v. v.items) (get_by_text m q))) (same_bytes path q)
    ∙ ap (cond (eq_by_cmp (slice_cmp nat_cmp) q path) None) (sym (get-files_of m q))
    ∙ sym (fin.get-remove nat_list_cmp_total (files_of m.entries) path q))

both : (a b : Bool) → T a → T b → T (a && b)
both true b p q = q
both false b p q = p

below : (k : String Global) (es : Entries) → AllByRecursion (λ y. string_cmp k y ≡ Less) (keys_of es) → T (below_all (slice_cmp nat_cmp) (string_bytes k) (map file_of es))
below k [] all = tt
below k (e ∷ es) all = both _ _ (subst (λ r. T (is_lt r)) (sym all.0) tt) (below k es all.1)

sorted : (es : Entries) → IsStrictlySortedBy string_cmp (keys_of es) → T (fin.is_sorted (slice_cmp nat_cmp) (map file_of es))
unfolding IsStrictlySortedBy
sorted [] order = tt
sorted (e ∷ es) order = both _ _ (below e.0 es order.0) (sorted es order.1)

entries_kept : (es : List (List ℕ × List ℕ)) → T (fin.is_sorted (slice_cmp nat_cmp) es) → fin.entries (fin.from_entries {R = slice_cmp nat_cmp} es) ≡ es
entries_kept es order =
    ap fin.entries (same_files (fin.from_entries es) (fin.from_sorted es) (λ q. fin.get-from_entries nat_list_cmp_total es q ∙ sym (fin.get-from_sorted (slice_cmp nat_cmp) es q order)))
    ∙ fin.entries-from_sorted (slice_cmp nat_cmp) es order

first_parts : (es : Entries) → map (λ e. e.0) (map file_of es) ≡ map string_bytes (keys_of es)
first_parts [] = refl
first_parts (e ∷ es) = ap (λ l. string_bytes e.0 ∷ l) (first_parts es)

-- the paths are the bytes of the map's keys, in their order
pub keys-files_of : (es : Entries) → IsStrictlySortedBy string_cmp (keys_of es) → fin.keys (files_of es) ≡ map string_bytes (keys_of es)
keys-files_of es order = ap (map (λ e. e.0)) (entries_kept (map file_of es) (sorted es order)) ∙ first_parts es

same_length : {A B : Type 0} (f : A → B) (xs : List A) → length (map f xs) ≡ length xs
same_length f [] = refl
same_length f (x ∷ xs) = ap suc (same_length f xs)

-- there are as many files as entries
pub len-files_of : (es : Entries) → IsStrictlySortedBy string_cmp (keys_of es) → fin.len (files_of es) ≡ length es
len-files_of es order = fin.len-entries (files_of es) ∙ ap length (entries_kept (map file_of es) (sorted es order)) ∙ same_length file_of es

-- what a look-up of the map finds is what the files have
pub found_in : (m : BTreeMap (String Global) (Vec ℕ Global)) (files : Files) (path : List ℕ) (found : Option (Vec ℕ Global)) → files_of m.entries ≡ files → found ≡ get_by_text m path → option_map (λ v. v.items) found ≡ fin.get files path
found_in m files path found same is = ap (option_map (λ v. v.items)) is ∙ sym (get-files_of m path) ∙ ap (λ f. fin.get f path) same
