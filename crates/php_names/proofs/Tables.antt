-- What a map of the standard kind finds is what a table finds.
use Rattle.std.proofs.Common.{◌≡◌, ℕ, Bool, true, false, List, [], ◌∷◌, ◌++◌, Option, Some, None, map, refl, ap, ◌∙◌, if◌then◌else◌}
use Rattle.std.specs.Str.{bytes_eq}
use Rattle.std.specs.Map.{lookup}
use Rattle.std.proofs.lemmas.Cmp.{nat_list_eq_equiv}
use Rattle.indexmap.specs.IndexMap.{insert_entry}
use Rattle.php_names.specs.Tables.{found}

pub bytes_eq-swapped : (s t : List ℕ) → bytes_eq s t ≡ bytes_eq t s
bytes_eq-swapped s t = nat_list_eq_equiv.symm s t

-- a pair with the text of its key
abbrev pub with_text : {K V : Type 0} → (K → List ℕ) → K × V → List ℕ × V
with_text text e = (text e.0, e.1)

pub lookup-found : {K V : Type 0} (text : K → List ℕ) (name : List ℕ) (es : List (K × V)) →
    lookup (λ k. bytes_eq name (text k)) es ≡ found name (map (with_text text) es)
lookup-found text name [] = refl
lookup-found text name (e ∷ es) =
    ap (λ b. if b then Some e.1 else lookup (λ k. bytes_eq name (text k)) es) (bytes_eq-swapped name (text e.0))
    ∙ ap (λ o. if bytes_eq (text e.0) name then Some e.1 else o) (lookup-found text name es)

some_not_none : {V : Type 0} (b : Bool) (v : V) (o : Option V) → (if b then Some v else o) ≡ None → (b ≡ false) × (o ≡ None)
some_not_none true v o e = absurd cc
some_not_none false v o e = (refl, e)

insert_if : {K V : Type 0} (h : K × V → List ℕ × V) (b : Bool) (e : K × V) (new : K × V) (es more : List (K × V)) → b ≡ false →
    map h (if b then new ∷ es else e ∷ more) ≡ h e ∷ map h more
insert_if h true e new es more p = absurd cc
insert_if h false e new es more p = refl

-- a key that is not there goes last
pub inserted : {K V : Type 0} (text : K → List ℕ) (k : K) (v : V) (es : List (K × V)) → found (text k) (map (with_text text) es) ≡ None →
    map (with_text text) (insert_entry (λ i j. bytes_eq (text i) (text j)) es k v) ≡ map (with_text text) es ++ (text k, v) ∷ []
inserted text k v [] none = refl
inserted text k v (e ∷ es) none =
    let h = some_not_none (bytes_eq (text e.0) (text k)) e.1 (found (text k) (map (with_text text) es)) none in
    insert_if (with_text text) (bytes_eq (text k) (text e.0)) e (e.0, v) es (insert_entry (λ i j. bytes_eq (text i) (text j)) es k v) (bytes_eq-swapped (text k) (text e.0) ∙ h.0)
    ∙ ap (λ rest. (text e.0, e.1) ∷ rest) (inserted text k v es h.1)

pub added : {K V : Type 0} (text : K → List ℕ) (k : K) (v : V) (es new : List (K × V)) (name : List ℕ) (table : List (List ℕ × V)) → text k ≡ name →
    map (with_text text) es ≡ table → new ≡ insert_entry (λ i j. bytes_eq (text i) (text j)) es k v → found name table ≡ None →
    map (with_text text) new ≡ table ++ (name, v) ∷ []
added text k v es new name table text_is view is none =
    ap (map (with_text text)) is
    ∙ (inserted text k v es (ap (λ n. found n (map (with_text text) es)) text_is ∙ (ap (found name) view ∙ none))
    ∙ (λ i. view i ++ (text_is i, v) ∷ []))
