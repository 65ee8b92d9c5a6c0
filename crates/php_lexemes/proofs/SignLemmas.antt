-- Signs that are no braces stand for themselves.
use Rattle.std.proofs.Common.{◌≡◌, List, refl}
use Rattle.php_lexer.specs.declared.kinds.Sign.{Sign}
use Rattle.php_lexer.specs.declared.kinds.Sign.TheVariants as s
use Rattle.php_lexemes.specs.Signs.{sign_sort}
use Rattle.php_lexemes.specs.Lexemes.{Open, sign_in, sign_opened}

pub record Other (around : List Open) (x : Sign) : Type 0 where
  pub sort : sign_sort x ≡ sign_in around x
  pub after : around ≡ sign_opened around x

pub other_sign : (around : List Open) (x : Sign) → (x ≡ s.BraceOpen → ⊥) → (x ≡ s.BraceClose → ⊥) → Other around x
other_sign around s.Identical n m = record { sort = refl; after = refl }
other_sign around s.NotIdentical n m = record { sort = refl; after = refl }
other_sign around s.Spaceship n m = record { sort = refl; after = refl }
other_sign around s.Equal n m = record { sort = refl; after = refl }
other_sign around s.NotEqual n m = record { sort = refl; after = refl }
other_sign around s.LessGreater n m = record { sort = refl; after = refl }
other_sign around s.LessEqual n m = record { sort = refl; after = refl }
other_sign around s.GreaterEqual n m = record { sort = refl; after = refl }
other_sign around s.AndAnd n m = record { sort = refl; after = refl }
other_sign around s.OrOr n m = record { sort = refl; after = refl }
other_sign around s.Coalesce n m = record { sort = refl; after = refl }
other_sign around s.PlusPlus n m = record { sort = refl; after = refl }
other_sign around s.MinusMinus n m = record { sort = refl; after = refl }
other_sign around s.PlusAssign n m = record { sort = refl; after = refl }
other_sign around s.MinusAssign n m = record { sort = refl; after = refl }
other_sign around s.StarAssign n m = record { sort = refl; after = refl }
other_sign around s.SlashAssign n m = record { sort = refl; after = refl }
other_sign around s.DotAssign n m = record { sort = refl; after = refl }
other_sign around s.PercentAssign n m = record { sort = refl; after = refl }
other_sign around s.DoubleArrow n m = record { sort = refl; after = refl }
other_sign around s.Arrow n m = record { sort = refl; after = refl }
other_sign around s.DoubleColon n m = record { sort = refl; after = refl }
other_sign around s.Assign n m = record { sort = refl; after = refl }
other_sign around s.Less n m = record { sort = refl; after = refl }
other_sign around s.Greater n m = record { sort = refl; after = refl }
other_sign around s.Not n m = record { sort = refl; after = refl }
other_sign around s.Plus n m = record { sort = refl; after = refl }
other_sign around s.Minus n m = record { sort = refl; after = refl }
other_sign around s.Star n m = record { sort = refl; after = refl }
other_sign around s.Slash n m = record { sort = refl; after = refl }
other_sign around s.Percent n m = record { sort = refl; after = refl }
other_sign around s.Dot n m = record { sort = refl; after = refl }
other_sign around s.Question n m = record { sort = refl; after = refl }
other_sign around s.Colon n m = record { sort = refl; after = refl }
other_sign around s.Semicolon n m = record { sort = refl; after = refl }
other_sign around s.Comma n m = record { sort = refl; after = refl }
other_sign around s.ParenOpen n m = record { sort = refl; after = refl }
other_sign around s.ParenClose n m = record { sort = refl; after = refl }
other_sign around s.BracketOpen n m = record { sort = refl; after = refl }
other_sign around s.BracketClose n m = record { sort = refl; after = refl }
other_sign around s.BraceOpen n m = absurd (n refl)
other_sign around s.BraceClose n m = absurd (m refl)
other_sign around s.Ampersand n m = record { sort = refl; after = refl }
other_sign around s.Pipe n m = record { sort = refl; after = refl }
other_sign around s.At n m = record { sort = refl; after = refl }
