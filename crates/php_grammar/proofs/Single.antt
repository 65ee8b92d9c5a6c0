-- A list of tokens has at most one tree or fault.
use Rattle.std.proofs.Common.{◌≡◌, ℕ, zero, suc, ◌<◌, ◌≤◌, Bool, true, false, nat_lt, List, [], ◌∷◌, length, take, ◌⊎◌, inl, inr, refl, sym, subst, arith, rules, tests}
use Rattle.php_grammar.proofs.Facts.{either, lt-below}
use Rattle.php_tree.specs.Statements.{Statements}
use Rattle.php_grammar.specs.declared.token.Fault.{Fault}
use Rattle.php_grammar.specs.declared.token.Fault.TheVariants.{Bad, Deep}
use Rattle.php_grammar.specs.Values.{stmts_of, Lexeme, Value}
use Rattle.php_grammar.specs.Place.{IsTree, IsFault, IsFile, IsKind, Shares}
use Rattle.php_grammar.proofs.Laws.{unique, weaken}
use Rattle.php_grammar.proofs.Judge.{all_count}

pub one_tree_is : (ts : List Lexeme) (one other : Statements ℕ) → IsTree one ts → IsTree other ts → one ≡ other
one_tree_is ts one other i j = let e = (unique i j).0 in cc

pub no_tree : (ts : List Lexeme) (m : ℕ) (f : Fault) (tree : Statements ℕ) → IsFault ts m f → IsTree tree ts → ⊥
no_tree ts m f tree k i = k.after ts refl (stmts_of tree, all_count i (suc m) (omega arith))

shares_fewer : (m n : ℕ) (xs ts : List Lexeme) → n ≤ m → Shares m xs ts → Shares n xs ts
shares_fewer m zero xs ts l e = refl
shares_fewer zero (suc n) xs ts l e = absurd (omega arith)
shares_fewer (suc m) (suc n) [] [] l e = refl
shares_fewer (suc m) (suc n) [] (t ∷ ts) l e = absurd cc
shares_fewer (suc m) (suc n) (x ∷ xs) [] l e = absurd cc
shares_fewer (suc m) (suc n) (x ∷ xs) (t ∷ ts) l e =
    let h : x ≡ t = cc in let r : take m xs ≡ take m ts = cc in rw (h, shares_fewer m n xs ts (omega arith) r) refl

-- no fault stands before another
not_before : (ts : List Lexeme) (m n : ℕ) (f g : Fault) → m < n → IsFault ts m f → IsFault ts n g → ⊥
not_before ts m n f g l i j =
    let b = j.before in
    i.after b.0 (shares_fewer n (suc m) b.0 ts (omega arith) b.1) (b.2.0, weaken b.2.1 _ (suc m) (omega arith) (omega arith))

lt_or_ge : (m n : ℕ) → (m < n) ⊎ (n ≤ m)
lt_or_ge m n = elim (either (nat_lt m n)) [ inl y ↦ inl (lt-below m n y) | inr y ↦ inr (search (rules, tests)) ]

pub one_place : (ts : List Lexeme) (m n : ℕ) (f g : Fault) → IsFault ts m f → IsFault ts n g → m ≡ n
one_place ts m n f g i j = elim (lt_or_ge m n) [
  | inl l ↦ absurd (not_before ts m n f g l i j)
  | inr l ↦ elim (lt_or_ge n m) [ inl k ↦ absurd (not_before ts n m g f k j i) | inr k ↦ omega arith ]
]

same_kind : (ts : List Lexeme) (m : ℕ) (f g : Fault) → IsKind f m ts → IsKind g m ts → f ≡ g
same_kind ts m Bad Bad i j = refl
same_kind ts m Bad Deep i j = absurd (i j.0 j.1 j.2)
same_kind ts m Deep Bad i j = absurd (j i.0 i.1 i.2)
same_kind ts m Deep Deep i j = refl

pub one_kind : (ts : List Lexeme) (m n : ℕ) (f g : Fault) → IsFault ts m f → IsFault ts n g → f ≡ g
one_kind ts m n f g i j =
    let e = one_place ts m n f g i j in
    same_kind ts (suc m) f g i.kind (subst (λ p. IsKind g (suc p) ts) (sym e) j.kind)
