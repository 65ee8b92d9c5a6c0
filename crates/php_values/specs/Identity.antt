-- What walks over two arrays at once are to tell.
use Rattle.std.specs.Prelude.{◌≡◌, Bool, true, false, ◌&&◌, Option, Some, None}
use Rattle.php_values.specs.Data.{data_pairs}
use Rattle.php_values.specs.Walks.{rest_of}
use Rattle.php_values.specs.Compare.{strict_pairs}
use Rattle.php_values.specs.declared.strict.Both.{Both}
use Rattle.php_values.specs.declared.strict.Link.{Link}
use Rattle.php_values.specs.declared.strict.Link.TheVariants.{Same, Different, Inside}

-- whether what is left of the walks is the same
abbrev pub same_both : Both → Bool
same_both b = strict_pairs (data_pairs (rest_of b.left)) (data_pairs (rest_of b.right))

-- what two values are, as `===` has it
abbrev pub LinkIs : Bool → Link → Type 0
LinkIs expected Same = expected ≡ true
LinkIs expected Different = expected ≡ false
LinkIs expected (Inside b) = expected ≡ same_both b

-- what the next pairs of both walks are, and what is left of them
abbrev pub NextIs : Both → Both → Option Link → Type 0
NextIs old new None = same_both old ≡ true
NextIs old new (Some Same) = same_both old ≡ same_both new
NextIs old new (Some Different) = same_both old ≡ false
NextIs old new (Some (Inside b)) = same_both old ≡ (same_both b && same_both new)
