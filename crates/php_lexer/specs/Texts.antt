-- What quoted texts stand for.
use Rattle.std.specs.Prelude.{ℕ, ◌+◌, ◌/◌, ◌%◌, nat_lt, List, [], ◌∷◌, ◌++◌, take, if◌then◌else◌}
use Rattle.php_lexer.specs.Bytes.{Text, cut}
use Rattle.php_lexer.specs.declared.front.Raw.{Raw}
use Rattle.php_lexer.specs.declared.front.Raw.TheVariants as raw
use Rattle.php_lexer.specs.declared.front.Shape.{Shape}
use Rattle.php_lexer.specs.declared.front.Shape.TheVariants as shape
use Rattle.php_lexer.specs.declared.kinds.Kind.{Kind}
use Rattle.php_lexer.specs.declared.kinds.Kind.TheVariants as kind
use Rattle.php_lexer.specs.declared.kinds.Part.{Part}
use Rattle.php_lexer.specs.declared.kinds.Part.TheVariants as part
use Rattle.php_lexer.specs.declared.kinds.IndexKey.TheVariants as key

-- a character as UTF-8
unfoldable pub utf8 : ℕ → Text
utf8 c =
    if nat_lt c 128 then c ∷ []
    else (if nat_lt c 2048 then (192 + c / 64) ∷ (128 + c % 64) ∷ []
    else (if nat_lt c 65536 then (224 + c / 4096) ∷ (128 + c / 64 % 64) ∷ (128 + c % 64) ∷ []
    else (240 + c / 262144) ∷ (128 + c / 4096 % 64) ∷ (128 + c / 64 % 64) ∷ (128 + c % 64) ∷ []))

-- the bytes that a form at the front stands for
abbrev pub raw_bytes : Raw → Text → Text
raw_bytes (raw.Plain n) z = take n z
raw_bytes (raw.Byte b n) z = b ∷ []
raw_bytes (raw.Char c n) z = utf8 c

-- the part that a variable at the front is
abbrev pub part_of : Shape → Text → Part
part_of (shape.Var n) z = part.Var (cut z 1 n)
part_of (shape.Index n k) z = part.Index (cut z 1 n) (key.Plain (cut z (n + 2) k))
part_of (shape.IndexVar n k) z = part.Index (cut z 1 n) (key.Var (cut z (n + 3) k))
part_of (shape.Property n p) z = part.Property (cut z 1 n) (cut z (n + 3) p)

-- the parts, and the bytes behind them as one more
abbrev pub with_bytes : List Part → Text → List Part
with_bytes parts [] = parts
with_bytes parts (b ∷ bs) = parts ++ part.Bytes (b ∷ bs) ∷ []

-- a text without another part is plain
abbrev pub kind_of : List Part → Text → Kind
kind_of [] bytes = kind.Text bytes
kind_of (p ∷ ps) bytes = kind.Quote (with_bytes (p ∷ ps) bytes)
