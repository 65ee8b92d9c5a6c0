-- The levels of operators of an expression by number, and at which of them its first operand begins.
use Rattle.std.specs.Prelude.{◌≡◌, ℕ, ◌≤◌, ◌<◌, true, false, if◌then◌else◌, List, [], ◌∷◌, Option, Some, None, ⊤}
use Rattle.php_grammar.specs.declared.token.Kind.{Kind}
use Rattle.php_grammar.specs.declared.part.Context.TheVariants.{InFull as in_full}
use Rattle.php_grammar.specs.declared.part.Level.{Level}
use Rattle.php_grammar.specs.declared.part.Level.TheVariants.{LowOr as low_or, LowXor as low_xor, LowAnd as low_and, Choice as choice, Coalescing as coalescing, Either as either, Both as both, Equality as equality, Order as order, Sum as sum, Product as product, Instance as instance}
use Rattle.php_grammar.specs.declared.part.Part.{Part}
use Rattle.php_grammar.specs.declared.part.Part.TheVariants.{Level as level, PrintPart as print_part, NotPart as not_part, UnaryPart as unary_part}
use Rattle.php_grammar.specs.declared.part.Rule.TheVariants.{NoPrint as no_print, NoNot as no_not}
use Rattle.php_grammar.specs.Grammar.{goes_on, choose}

-- how many levels are tighter
abbrev pub rank : Level → ℕ
rank instance = 0
rank product = 1
rank sum = 2
rank order = 3
rank equality = 4
rank both = 5
rank either = 6
rank coalescing = 7
rank choice = 8
rank low_and = 9
rank low_xor = 10
rank low_or = 11

-- the next weaker level
abbrev pub outer : Level → Level
outer instance = product
outer product = sum
outer sum = order
outer order = equality
outer equality = both
outer both = either
outer either = coalescing
outer coalescing = choice
outer choice = low_and
outer low_and = low_xor
outer low_xor = low_or
outer low_or = low_or

-- what the operands of a level are
abbrev pub inner : Level → Part
inner instance = unary_part
inner product = not_part
inner sum = level in_full product
inner order = level in_full sum
inner equality = level in_full order
inner both = level in_full equality
inner either = level in_full both
inner coalescing = level in_full either
inner choice = level in_full coalescing
inner low_and = print_part
inner low_xor = level in_full low_and
inner low_or = level in_full low_xor

-- what the operands of a level are that is not led by another one
abbrev pub beginning : Level → Part
beginning low_and = print_part
beginning product = not_part
beginning _ = unary_part

abbrev pub outwards : List Level
outwards = instance ∷ product ∷ sum ∷ order ∷ equality ∷ both ∷ either ∷ coalescing ∷ choice ∷ low_and ∷ low_xor ∷ low_or ∷ []

abbrev pub first_at : List Level → Kind → Option Level
first_at [] kind = None
first_at (l ∷ more) kind = if goes_on (level in_full l) kind then Some l else first_at more kind

-- the level that goes on before a token of this kind
unfoldable pub level_at : Kind → Option Level
level_at kind = first_at outwards kind

-- no level between two goes on before such a token
abbrev pub Quiet : Level → Level → Kind → Type 0
Quiet from top kind = (l : Level) → rank from ≤ rank l → rank l ≤ rank top → goes_on (level in_full l) kind ≡ false

-- the level goes on before such a token, and none that is tighter does
pub record GoesOnAt (from top : Level) (kind : Kind) (at : Level) : Type 0 where
  pub goes : goes_on (level in_full at) kind ≡ true
  pub after : rank from ≤ rank at
  pub within : rank at ≤ rank top
  pub quiet : (l : Level) → rank from ≤ rank l → rank l < rank at → goes_on (level in_full l) kind ≡ false

-- what begins with such a token is read over the level as it stands, with no rule's own token
abbrev pub Plain : Level → Kind → Type 0
Plain instance kind = choose not_part kind ≡ Some no_not
Plain choice kind = choose print_part kind ≡ Some no_print
Plain _ kind = ⊤

-- an operand of the level `top` that begins with such a token begins as an operand of the level `at`
pub record IsInmost (top : Level) (kind : Kind) (at : Level) : Type 0 where
  pub within : rank at ≤ rank top
  pub plain : (l : Level) → rank at ≤ rank l → rank l < rank top → Plain l kind
  pub same : inner at ≡ beginning at
