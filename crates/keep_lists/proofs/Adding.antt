-- Texts added to those that are known, over plain values.
use Rattle.std.proofs.Common.{◌≡◌, ℕ, suc, ◌+◌, ◌<◌, Bool, true, false, ◌||◌, List, [], ◌∷◌, ◌++◌, length, drop, get_or, map, codes, refl, sym, ap, ◌∙◌, if◌then◌else◌, add-one, drop-cons}
use Rattle.std.specs.List.{list_any}
use Rattle.std.specs.Str.{bytes_eq}
use Rattle.app_load.specs.Entries.{Entry, file, function}
use Rattle.keep_lists.specs.Known.{names_entry}

or_assoc : (a b c : Bool) → (a || (b || c)) ≡ ((a || b) || c)
or_assoc true b c = refl
or_assoc false b c = refl

pub or_cond : (a b : Bool) → (if a then true else b) ≡ (a || b)
or_cond true b = refl
or_cond false b = refl

or_next : (a b c : Bool) → (b || (a || c)) ≡ ((a || b) || c)
or_next true true c = refl
or_next true false c = refl
or_next false b c = refl

-- a file's two texts
pub file_added : (path p q t : List ℕ) (k k1 k2 : Bool) → p ≡ path → q ≡ path ++ codes "#*" → k1 ≡ (bytes_eq p t || k) → k2 ≡ (bytes_eq q t || k1) → k2 ≡ (names_entry t (file path) || k)
file_added path p q t k k1 k2 ep eq e1 e2 =
    e2 ∙ (λ i. bytes_eq (eq i) t || e1 i) ∙ ap (λ p. bytes_eq (path ++ codes "#*") t || (bytes_eq p t || k)) ep ∙ or_assoc (bytes_eq (path ++ codes "#*") t) (bytes_eq path t) k

pub function_added : (path name q t : List ℕ) (k k1 : Bool) → q ≡ path ++ (codes "#" ++ name) → k1 ≡ (bytes_eq q t || k) → k1 ≡ (names_entry t (function path name) || k)
function_added path name q t k k1 eq e = e ∙ ap (λ q. bytes_eq q t || k) eq

-- one more item of a list
pub any_step : {A B : Type 0} (f : A → B) (p : B → Bool) (xs : List A) (i : ℕ) (d : A) (k k1 : Bool) → i < length xs → d ≡ get_or xs i d → k1 ≡ (p (f d) || k)
    → (list_any p (map f (drop (i + 1) xs)) || k1) ≡ (list_any p (map f (drop i xs)) || k)
any_step f p xs i d k k1 less is e =
    let cut : drop i xs ≡ get_or xs i d ∷ drop (suc i) xs = drop-cons xs i d less in
    let cut2 = cut ∙ ap (λ x. x ∷ drop (suc i) xs) (sym is) in
    ap (λ n. list_any p (map f (drop n xs)) || k1) (add-one i) ∙ ap (λ b. list_any p (map f (drop (suc i) xs)) || b) e
    ∙ or_next (p (f d)) (list_any p (map f (drop (suc i) xs))) k ∙ sym (ap (λ l. list_any p (map f l) || k) cut2)
