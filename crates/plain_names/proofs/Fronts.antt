-- The words at a front of code are of word bytes, so they have no colon.
use Rattle.std.proofs.Common.{◌≡◌, ℕ, suc, ◌+◌, ◌==◌, Bool, true, false, ◌||◌, ◌&&◌, List, [], ◌∷◌, refl, sym, ap, subst, ◌∙◌, take, length, true≢false, arith, slice_index, nat_lt, Option, Some, None}
use Rattle.std.specs.Prelude.{⊤, cond, not, if◌then◌else◌}
use Rattle.std.specs.Char.{is_ascii_digit}
use Rattle.std.specs.List.{prefix_len, list_all}
use Rattle.std.proofs.lemmas.Bool.{eqb-true}
use Rattle.std.proofs.lemmas.Grind.{common_steps}
use Rattle.php_lexer.specs.Bytes.{Text, is_in, run, cut}
use Rattle.php_lexer.specs.Code.{word, variable, comment, slash, question, symbol, inside}
use Rattle.php_lexer.specs.Numbers as n
use Rattle.php_lexer.specs.Numbers.{number}
use Rattle.php_lexer.specs.Signs as signs
use Rattle.php_lexer.specs.Signs.{sign, paren, cast_word, cast_or_paren, is_int_word, is_text_word, is_bool_word, is_array_word, is_left_out_cast}
use Rattle.php_lexer.specs.declared.bytes.Class.{Class}
use Rattle.php_lexer.specs.declared.bytes.Class.TheVariants as class
use Rattle.php_lexer.specs.declared.code.TheConstants.{MAX_WORD}
use Rattle.php_lexer.specs.declared.front.Front.{Front}
use Rattle.php_lexer.specs.declared.front.Front.TheVariants as front
use Rattle.php_lexer.specs.declared.front.Simple.TheVariants as simple
use Rattle.php_lexer.specs.declared.kinds.Sign.{Sign}
use Rattle.plain_names.specs.Words.{has_colon}

-- ---- a form that is no word

abbrev is_word : Front → Bool
is_word (front.Token simple.Word k) = true
is_word f = false

equal_is : (c d : ℕ) → is_word (signs.equal c d) ≡ false
equal_is c d = grind (arith, common_steps)

not_is : (c d : ℕ) → is_word (signs.not c d) ≡ false
not_is c d = grind (arith, common_steps)

less_is : (c d : ℕ) → is_word (signs.less c d) ≡ false
less_is c d = grind (arith, common_steps)

greater_is : (c : ℕ) → is_word (signs.greater c) ≡ false
greater_is c = grind (arith, common_steps)

and_is : (c : ℕ) → is_word (signs.and c) ≡ false
and_is c = grind (arith, common_steps)

or_is : (c : ℕ) → is_word (signs.or c) ≡ false
or_is c = grind (arith, common_steps)

plus_is : (c : ℕ) → is_word (signs.plus c) ≡ false
plus_is c = grind (arith, common_steps)

minus_is : (c : ℕ) → is_word (signs.minus c) ≡ false
minus_is c = grind (arith, common_steps)

star_is : (c : ℕ) → is_word (signs.star c) ≡ false
star_is c = grind (arith, common_steps)

assigning_is : (c : ℕ) (s u : Sign) → is_word (signs.assigning c s u) ≡ false
assigning_is c s u = grind (arith, common_steps)

dot_is : (c d : ℕ) → is_word (signs.dot c d) ≡ false
dot_is c d = grind (arith, common_steps)

asking_is : (c d : ℕ) → is_word (signs.question c d) ≡ false
asking_is c d = grind (arith, common_steps)

colon_is : (c : ℕ) → is_word (signs.colon c) ≡ false
colon_is c = grind (arith, common_steps)

single_is : (b : ℕ) → is_word (signs.single b) ≡ false
single_is b = grind (arith, common_steps)

either : (c : Bool) (x y : Front) → is_word x ≡ false → is_word y ≡ false → is_word (if c then x else y) ≡ false
either true x y p q = p
either false x y p q = q

sign_is : (b c d : ℕ) → is_word (sign b c d) ≡ false
unfolding sign
sign_is b c d =
    either (b == 61) _ _ (equal_is c d)
    (either (b == 33) _ _ (not_is c d)
    (either (b == 60) _ _ (less_is c d)
    (either (b == 62) _ _ (greater_is c)
    (either (b == 38) _ _ (and_is c)
    (either (b == 124) _ _ (or_is c)
    (either (b == 43) _ _ (plus_is c)
    (either (b == 45) _ _ (minus_is c)
    (either (b == 42) _ _ (star_is c)
    (either (b == 47) _ _ (assigning_is c _ _)
    (either (b == 37) _ _ (assigning_is c _ _)
    (either (b == 46) _ _ (dot_is c d)
    (either (b == 63) _ _ (asking_is c d)
    (either (b == 58) _ _ (colon_is c)
    (single_is b))))))))))))))

by_if : {X : Type 0} (f : X → Front) (c : Bool) (x y : X) → is_word (f x) ≡ false → is_word (f y) ≡ false → is_word (f (if c then x else y)) ≡ false
by_if f true x y p q = p
by_if f false x y p q = q

cast_is : (w : Text) (len : ℕ) → is_word (cast_or_paren (cast_word w) len) ≡ false
cast_is w len = grind (arith, common_steps)

paren_is : (z : Text) → is_word (paren z) ≡ false
unfolding paren
paren_is z = grind (arith, common_steps, cast_is)

int_is : (v : Option ℕ) (len : ℕ) → is_word (n.int_of v len) ≡ false
int_is (Some v) len = refl
int_is None len = refl

based_is : (base : ℕ) (c : Class) (z : Text) → is_word (n.based base c z) ≡ false
based_is base c z = grind (arith, common_steps, int_is)

decimal_is : (z : Text) → is_word (n.decimal z) ≡ false
decimal_is z =
    either (n.is_fraction z (run class.Digit z 0)) _ _ refl
    (either (run class.Digit z 0 == 1 || not (slice_index z 0 == 48)) _ _ (int_is _ _)
    (either (list_all (is_in class.Octal) (cut z 0 (run class.Digit z 0))) _ _ (int_is _ _) refl))

number_is : (z : Text) → is_word (number z) ≡ false
unfolding number
number_is z = grind (arith, common_steps, based_is, decimal_is)

comment_is : (z : Text) → is_word (comment z) ≡ false
unfolding comment
comment_is z = grind (arith, common_steps)

slash_is : (z : Text) → is_word (slash z) ≡ false
unfolding slash
slash_is z = grind (arith, common_steps, comment_is, sign_is)

question_is : (z : Text) → is_word (question z) ≡ false
unfolding question
question_is z = grind (arith, common_steps, sign_is)

variable_is : (z : Text) → is_word (variable z) ≡ false
variable_is z = grind (arith, common_steps)

symbol_is : (z : Text) → is_word (symbol z) ≡ false
unfolding symbol
symbol_is z = grind (arith, common_steps, variable_is, slash_is, paren_is, question_is, sign_is)

-- ---- a word

word_byte : (b : ℕ) → is_in class.Word b ≡ true → (b == 58) ≡ false
word_byte b e = none (b == 58) refl
  where
    none : (c : Bool) → (b == 58) ≡ c → c ≡ false
    none true same = absurd (true≢false (sym e ∙ ap (is_in class.Word) (eqb-true b 58 same)))
    none false same = refl

-- bytes of words alone
abbrev pub AreWordBytes : List ℕ → Type 0
AreWordBytes text = list_all (is_in class.Word) text ≡ true

both_true : (c d : Bool) → c && d ≡ true → (c ≡ true) × (d ≡ true)
both_true true d e = (refl, e)
both_true false d e = absurd (true≢false (sym e))

pub no_colon : (text : List ℕ) → AreWordBytes text → has_colon text ≡ false
no_colon [] h = refl
no_colon (x ∷ xs) h =
    let parts = both_true (is_in class.Word x) (list_all (is_in class.Word) xs) h in
    ap (λ b. b || has_colon xs) (word_byte x parts.0) ∙ no_colon xs parts.1

word_bytes : (x : ℕ) (k : ℕ) (xs : Text) (c : Bool) → is_in class.Word x ≡ c → AreWordBytes (take k xs) → AreWordBytes (take (cond c (1 + k) 0) (x ∷ xs))
word_bytes x k xs true e h =
    let more : suc k ≡ 1 + k = omega arith in
    subst (λ m. AreWordBytes (take m (x ∷ xs))) more (ap (λ b. b && list_all (is_in class.Word) (take k xs)) e ∙ h)
word_bytes x k xs false e h = refl

word_plain : (z : Text) → AreWordBytes (take (prefix_len (is_in class.Word) z) z)
word_plain [] = refl
word_plain (x ∷ xs) = word_bytes x (prefix_len (is_in class.Word) xs) xs (is_in class.Word x) refl (word_plain xs)

-- what is at a front is of word bytes, where it is a word
abbrev pub FrontBy : Text → Front → Type 0
FrontBy z (front.Token simple.Word k) = AreWordBytes (take k z)
FrontBy z f = ⊤

no_word_by : (z : Text) (f : Front) → is_word f ≡ false → FrontBy z f
no_word_by z (front.Token simple.Word k) e = absurd (true≢false e)
no_word_by z (front.Token (simple.Int n) k) e = tt {0}
no_word_by z f e = tt {0}

by_either : (z : Text) (c : Bool) (x y : Front) → FrontBy z x → FrontBy z y → FrontBy z (if c then x else y)
by_either z true x y p q = p
by_either z false x y p q = q

word_by : (z : Text) → FrontBy z (word z)
word_by z = by_either z (nat_lt MAX_WORD (run class.Word z 0)) _ _ (tt {0}) (word_plain z)

pub inside_by : (z : Text) → FrontBy z (inside z)
unfolding inside
inside_by z =
    by_either z (length z == 0) front.End _ (tt {0})
    (by_either z (is_in class.Space (slice_index z 0)) _ _ (tt {0})
    (by_either z (is_in class.WordStart (slice_index z 0)) (word z) _ (word_by z)
    (by_either z (is_ascii_digit (slice_index z 0)) (number z) (symbol z) (no_word_by z (number z) (number_is z)) (no_word_by z (symbol z) (symbol_is z)))))
