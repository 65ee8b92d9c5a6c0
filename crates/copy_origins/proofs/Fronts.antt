-- What is read of a placeholder's text: a step for each token.
use Rattle.std.proofs.Common.{◌≡◌, ℕ, suc, ◌==◌, Bool, true, false, ◌&&◌, List, [], ◌∷◌, ◌++◌, refl, length, ap, sym, ◌∙◌, arith, true≢false}
use Rattle.std.specs.Prelude.{codes, if◌then◌else◌}
use Rattle.std.specs.List.{list_all, prefix_len}
use Rattle.std.proofs.lemmas.Grind.{common_steps}
use Rattle.php_lexer.specs.Bytes.{is_in}
use Rattle.php_lexer.specs.Code.{inside, symbol}
use Rattle.php_lexer.specs.Pieces.{piece_at, single}
use Rattle.php_lexer.specs.Signs.{sign, paren}
use Rattle.php_lexer.specs.declared.bytes.Class.TheVariants as class
use Rattle.php_lexer.specs.declared.front.Front.TheVariants as front
use Rattle.php_lexer.specs.declared.front.Piece.TheVariants as piece
use Rattle.php_lexer.specs.declared.front.Raw.TheVariants as raw
use Rattle.php_lexer.specs.declared.front.Simple.TheVariants as simple
use Rattle.php_lexer.specs.declared.kinds.Sign.TheVariants as s

-- ---- what stands at a front

pub filled : {X : Type 0} (n : ℕ) (x y : X) → (if suc n == 0 then x else y) ≡ y
filled n x y = grind (arith, common_steps)

pub word_front : (z : List ℕ) → inside (codes "less_removed" ++ (40 ∷ z)) ≡ front.Token simple.Word 12
unfolding inside
word_front z = filled (length (codes "ess_removed" ++ (40 ∷ z))) front.End _

pub open_front : (z : List ℕ) → inside (40 ∷ 39 ∷ z) ≡ front.Token (simple.Sign s.ParenOpen) 1
unfolding inside symbol paren sign
open_front z = filled (suc (length z)) front.End _

pub comma_front : (z : List ℕ) → inside (44 ∷ 39 ∷ z) ≡ front.Token (simple.Sign s.Comma) 1
unfolding inside symbol sign
comma_front z = filled (suc (length z)) front.End _

pub shut_front : (z : List ℕ) → inside (41 ∷ z) ≡ front.Token (simple.Sign s.ParenClose) 1
unfolding inside symbol sign
shut_front z = filled (length z) front.End _

pub semi_front : (z : List ℕ) → inside (59 ∷ z) ≡ front.Token (simple.Sign s.Semicolon) 1
unfolding inside symbol sign
semi_front z = filled (length z) front.End _

pub quote_front : (z : List ℕ) → inside (39 ∷ z) ≡ front.Quote false
unfolding inside symbol
quote_front z = filled (length z) front.End _

pub brace_front : (z : List ℕ) → inside (123 ∷ z) ≡ front.Open
unfolding inside symbol
brace_front z = filled (length z) front.End _

pub last_front : (z : List ℕ) → inside (125 ∷ z) ≡ front.Shut
unfolding inside symbol
last_front z = filled (length z) front.End _

-- how far a class goes before a byte that is not in it
all_run : (p : ℕ → Bool) (b : List ℕ) (stop : ℕ) (z : List ℕ) → list_all p b ≡ true → p stop ≡ false → prefix_len p (b ++ (stop ∷ z)) ≡ length b
all_run p [] stop z h e = grind (arith, common_steps)
all_run p (x ∷ b) stop z h e = grind (arith, common_steps, all_run p b stop z)

pub all_first : (c d : Bool) → c && d ≡ true → c ≡ true
all_first true d e = refl
all_first false d e = absurd (true≢false (sym e))

pub yes : {X : Type 0} (c : Bool) (x y : X) → c ≡ true → (if c then x else y) ≡ x
yes true x y e = refl
yes false x y e = absurd (true≢false (sym e))

pub no : {X : Type 0} (c : Bool) (x y : X) → c ≡ false → (if c then x else y) ≡ y
no false x y e = refl
no true x y e = absurd (true≢false e)

pub blank_front : (x : ℕ) (b z : List ℕ) → list_all (is_in class.Space) (x ∷ b) ≡ true → inside (x ∷ (b ++ (125 ∷ z))) ≡ front.Blank (suc (length b))
unfolding inside
blank_front x b z h =
    filled (length (b ++ (125 ∷ z))) front.End _ ∙ (yes (is_in class.Space x) _ _ (all_first (is_in class.Space x) (list_all (is_in class.Space) b) h) ∙ ap front.Blank (all_run (is_in class.Space) (x ∷ b) 125 z h refl))

pub close_piece : (z : List ℕ) → piece_at false (39 ∷ z) ≡ piece.Close
unfolding single
close_piece z = filled (length z) piece.End _

not_quote : (x : ℕ) → is_in class.Single x ≡ true → (x == 39) ≡ false
not_quote x e = grind (arith, common_steps)

not_back : (x : ℕ) → is_in class.Single x ≡ true → (x == 92) ≡ false
not_back x e = grind (arith, common_steps)

pub plain_piece : (x : ℕ) (b z : List ℕ) → list_all (is_in class.Single) (x ∷ b) ≡ true → piece_at false (x ∷ (b ++ (39 ∷ z))) ≡ piece.Raw (raw.Plain (suc (length b)))
unfolding single
plain_piece x b z h =
    let e = all_first (is_in class.Single x) (list_all (is_in class.Single) b) h in
    filled (length (b ++ (39 ∷ z))) piece.End _ ∙ (no (x == 39) _ _ (not_quote x e) ∙ (no (x == 92) _ _ (not_back x e) ∙ ap (λ n. piece.Raw (raw.Plain n)) (all_run (is_in class.Single) (x ∷ b) 39 z h refl)))
