-- One bracket of a name, over plain values.
use Rattle.std.proofs.Common.{◌≡◌, ℕ, suc, zero, ◌+◌, true, false, List, [], ◌∷◌, ◌++◌, take, drop, refl, sym, ap, ◌∙◌, Option, Some, None, option_map, arith, append_assoc, append-nil, ◌-◌, ◌<◌, ◌≤◌, if◌then◌else◌, position}
use Rattle.php_values.specs.Convert.{begins}
use Rattle.parameters.specs.declared.step.Step.{Step}
use Rattle.parameters.specs.Names.{is_open, is_close, step_of, with_close, brackets}

-- steps behind a path
abbrev pub behind : List Step → Option (List Step) → Option (List Step)
behind path steps = option_map (λ steps. path ++ steps) steps

none_left : (n : ℕ) (path : List Step) (t : List ℕ) → begins is_open t ≡ false → behind path (brackets n t) ≡ Some (path ++ [])
unfolding brackets
none_left zero path t h = ap (λ b. behind path (if b then None else Some [])) h
none_left (suc n) path t h = ap (λ b. behind path (if b then with_close (brackets n) (drop 1 t) (position is_close (drop 1 t)) else Some [])) h

-- no bracket follows
pub ended : (n : ℕ) (path : List Step) (t : List ℕ) → begins is_open t ≡ false → Some path ≡ behind path (brackets n t)
ended n path t h = ap Some (sym (append-nil path)) ∙ sym (none_left n path t h)

none_open : (t : List ℕ) → begins is_open t ≡ true → brackets 0 t ≡ None
unfolding brackets
none_open t h = ap (λ b. if b then None else Some []) h

-- one bracket too many follows
pub full : (k : ℕ) (path : List Step) (t : List ℕ) → 8 ≤ k → begins is_open t ≡ true → None ≡ behind path (brackets (8 - k) t)
full k path t all h = let e : 8 - k ≡ 0 = omega arith in sym (ap (λ n. behind path (brackets n t)) e ∙ ap (behind path) (none_open t h))

opened : (n : ℕ) (t inside : List ℕ) → begins is_open t ≡ true → inside ≡ drop 1 t → brackets (suc n) t ≡ with_close (brackets n) inside (position is_close inside)
unfolding brackets
opened n t inside h is =
    ap (λ b. if b then with_close (brackets n) (drop 1 t) (position is_close (drop 1 t)) else Some []) h ∙ ap (λ i. with_close (brackets n) i (position is_close i)) (sym is)

less_one : (k : ℕ) → k < 8 → 8 - k ≡ suc (8 - (k + 1))
less_one k less = omega arith

-- a bracket that is not closed
pub not_closed : (k : ℕ) (path : List Step) (t inside : List ℕ) → k < 8 → begins is_open t ≡ true → inside ≡ drop 1 t → None ≡ position is_close inside → None ≡ behind path (brackets (8 - k) t)
not_closed k path t inside less h is none =
    sym (ap (λ n. behind path (brackets n t)) (less_one k less) ∙ ap (behind path) (opened (8 - (k + 1)) t inside h is ∙ ap (with_close (brackets (8 - (k + 1))) inside) (sym none)))

joined : (path : List Step) (s : Step) (o : Option (List Step)) → behind path (option_map (λ steps. s ∷ steps) o) ≡ behind (path ++ s ∷ []) o
joined path s None = refl
joined path s (Some steps) = ap Some (sym (append_assoc path (s ∷ []) steps))

-- a bracket was read
pub one_more : (k end : ℕ) (path longer : List Step) (s : Step) (t inside key rest : List ℕ) → k < 8 → begins is_open t ≡ true → inside ≡ drop 1 t → Some end ≡ position is_close inside → key ≡ take end inside → rest ≡ drop (end + 1) inside → s ≡ step_of key
    → longer ≡ path ++ s ∷ [] → behind longer (brackets (8 - (k + 1)) rest) ≡ behind path (brackets (8 - k) t)
one_more k end path longer s t inside key rest less h is found ky r st long =
    let n = 8 - (k + 1) in
    let e = ap (λ n. brackets n t) (less_one k less) ∙ opened n t inside h is ∙ ap (with_close (brackets n) inside) (sym found) in
    let f : step_of (take end inside) ≡ s = ap step_of (sym ky) ∙ sym st in
    ap (λ l. behind l (brackets n rest)) long
    ∙ sym (ap (behind path) e ∙ (λ i. behind path (option_map (λ steps. f i ∷ steps) (brackets n (sym r i)))) ∙ joined path s (brackets n rest))
