-- No word but `less_removed` is to the grammar what that word is.
use Rattle.std.proofs.Common.{◌≡◌, ℕ, ◌==◌, Bool, true, false, List, refl, length, true≢false}
use Rattle.std.specs.Prelude.{codes, if◌then◌else◌}
use Rattle.php_grammar.specs.declared.token.Kind.{Kind}
use Rattle.php_grammar.specs.declared.token.Kind.TheVariants as k
use Rattle.php_lexemes.specs.Words.{Sort, is, two_letters, three_letters, four_letters, five_letters, six_letters, seven_letters, eight_letters, nine_letters, ten_letters, twelve_letters, thirteen_letters, fifteen_letters, word_sort}

abbrev pub is_removed : Kind → Bool
is_removed k.Removed = true
is_removed kind = false

chosen : (c : Bool) (x y : Sort) → is_removed x.0 ≡ false → is_removed y.0 ≡ false → is_removed (if c then x else y).0 ≡ false
chosen true x y p q = p
chosen false x y p q = q

passed : (c : Bool) (x y : Sort) → c ≡ false → is_removed y.0 ≡ false → is_removed (if c then x else y).0 ≡ false
passed true x y e q = absurd (true≢false e)
passed false x y e q = q

two_is : (w : List ℕ) → is_removed (two_letters w).0 ≡ false
two_is w = chosen (is w (codes "as")) _ _ refl (chosen (is w (codes "do")) _ _ refl (chosen (is w (codes "if")) _ _ refl (chosen (is w (codes "or")) _ _ refl refl)))

three_is : (w : List ℕ) → is_removed (three_letters w).0 ≡ false
three_is w = chosen (is w (codes "and")) _ _ refl (chosen (is w (codes "die")) _ _ refl (chosen (is w (codes "for")) _ _ refl (chosen (is w (codes "new")) _ _ refl (chosen (is w (codes "try")) _ _ refl (chosen (is w (codes "use")) _ _ refl (chosen (is w (codes "var")) _ _ refl (chosen (is w (codes "xor")) _ _ refl refl)))))))

four_is : (w : List ℕ) → is_removed (four_letters w).0 ≡ false
four_is w = chosen (is w (codes "case")) _ _ refl (chosen (is w (codes "echo")) _ _ refl (chosen (is w (codes "else")) _ _ refl (chosen (is w (codes "eval")) _ _ refl (chosen (is w (codes "exit")) _ _ refl (chosen (is w (codes "goto")) _ _ refl (chosen (is w (codes "list")) _ _ refl refl))))))

five_is : (w : List ℕ) → is_removed (five_letters w).0 ≡ false
five_is w = chosen (is w (codes "array")) _ _ refl (chosen (is w (codes "break")) _ _ refl (chosen (is w (codes "catch")) _ _ refl (chosen (is w (codes "class")) _ _ refl (chosen (is w (codes "clone")) _ _ refl (chosen (is w (codes "const")) _ _ refl (chosen (is w (codes "empty")) _ _ refl (chosen (is w (codes "endif")) _ _ refl (chosen (is w (codes "final")) _ _ refl (chosen (is w (codes "float")) _ _ refl (chosen (is w (codes "isset")) _ _ refl (chosen (is w (codes "print")) _ _ refl (chosen (is w (codes "throw")) _ _ refl (chosen (is w (codes "trait")) _ _ refl (chosen (is w (codes "unset")) _ _ refl (chosen (is w (codes "while")) _ _ refl (chosen (is w (codes "yield")) _ _ refl refl))))))))))))))))

six_is : (w : List ℕ) → is_removed (six_letters w).0 ≡ false
six_is w = chosen (is w (codes "elseif")) _ _ refl (chosen (is w (codes "endfor")) _ _ refl (chosen (is w (codes "global")) _ _ refl (chosen (is w (codes "object")) _ _ refl (chosen (is w (codes "public")) _ _ refl (chosen (is w (codes "return")) _ _ refl (chosen (is w (codes "static")) _ _ refl (chosen (is w (codes "switch")) _ _ refl refl)))))))

seven_is : (w : List ℕ) → is_removed (seven_letters w).0 ≡ false
seven_is w = chosen (is w (codes "declare")) _ _ refl (chosen (is w (codes "default")) _ _ refl (chosen (is w (codes "extends")) _ _ refl (chosen (is w (codes "finally")) _ _ refl (chosen (is w (codes "foreach")) _ _ refl (chosen (is w (codes "include")) _ _ refl (chosen (is w (codes "private")) _ _ refl (chosen (is w (codes "require")) _ _ refl refl)))))))

eight_is : (w : List ℕ) → is_removed (eight_letters w).0 ≡ false
eight_is w = chosen (is w (codes "abstract")) _ _ refl (chosen (is w (codes "callable")) _ _ refl (chosen (is w (codes "continue")) _ _ refl (chosen (is w (codes "endwhile")) _ _ refl (chosen (is w (codes "function")) _ _ refl (chosen (is w (codes "iterable")) _ _ refl refl)))))

nine_is : (w : List ℕ) → is_removed (nine_letters w).0 ≡ false
nine_is w = chosen (is w (codes "__class__")) _ _ refl (chosen (is w (codes "__trait__")) _ _ refl (chosen (is w (codes "endswitch")) _ _ refl (chosen (is w (codes "insteadof")) _ _ refl (chosen (is w (codes "interface")) _ _ refl (chosen (is w (codes "namespace")) _ _ refl (chosen (is w (codes "protected")) _ _ refl refl))))))

ten_is : (w : List ℕ) → is_removed (ten_letters w).0 ≡ false
ten_is w = chosen (is w (codes "__method__")) _ _ refl (chosen (is w (codes "enddeclare")) _ _ refl (chosen (is w (codes "endforeach")) _ _ refl (chosen (is w (codes "implements")) _ _ refl (chosen (is w (codes "instanceof")) _ _ refl refl))))

twelve_is : (w : List ℕ) → is w (codes "less_removed") ≡ false → is_removed (twelve_letters w).0 ≡ false
twelve_is w e = chosen (is w (codes "__function__")) _ _ refl (chosen (is w (codes "include_once")) _ _ refl (passed (is w (codes "less_removed")) _ _ e (chosen (is w (codes "require_once")) _ _ refl refl)))

thirteen_is : (w : List ℕ) → is_removed (thirteen_letters w).0 ≡ false
thirteen_is w = chosen (is w (codes "__namespace__")) _ _ refl refl

fifteen_is : (w : List ℕ) → is_removed (fifteen_letters w).0 ≡ false
fifteen_is w = chosen (is w (codes "__halt_compiler")) _ _ refl refl

pub word_is : (w : List ℕ) → is w (codes "less_removed") ≡ false → is_removed (word_sort w).0 ≡ false
unfolding word_sort
word_is w e = chosen (length w == 2) _ _ (two_is w) (chosen (length w == 3) _ _ (three_is w) (chosen (length w == 4) _ _ (four_is w) (chosen (length w == 5) _ _ (five_is w) (chosen (length w == 6) _ _ (six_is w) (chosen (length w == 7) _ _ (seven_is w) (chosen (length w == 8) _ _ (eight_is w) (chosen (length w == 9) _ _ (nine_is w) (chosen (length w == 10) _ _ (ten_is w) (chosen (length w == 12) _ _ (twelve_is w e) (chosen (length w == 13) _ _ (thirteen_is w) (chosen (length w == 15) _ _ (fifteen_is w) refl)))))))))))
