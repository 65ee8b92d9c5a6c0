-- What walks over two arrays are to tell of their order.
use Rattle.std.specs.Prelude.{◌≡◌, ◌≢◌}
use Rattle.std.specs.declared.result.Result.{Result}
use Rattle.std.specs.declared.result.Result.TheVariants.{Ok, Err}
use Rattle.std.specs.declared.cmp.Ordering.{Ordering}
use Rattle.std.specs.declared.cmp.Ordering.TheVariants as is
use Rattle.php_values.specs.declared.fault.ValueFault.{ValueFault}
use Rattle.php_values.specs.declared.fault.ValueFault.TheVariants.{Memory}
use Rattle.php_values.specs.declared.beside.Beside.{Beside}
use Rattle.php_values.specs.declared.order.Rank.{Rank}
use Rattle.php_values.specs.declared.order.Rank.TheVariants.{Equal, Less, Greater, Inside}
use Rattle.php_values.specs.Answers.{Answer}
use Rattle.php_values.specs.Beside.{left_of, right_of}
use Rattle.php_values.specs.Compare.{order_pairs}

-- the order of what is left of a walk
abbrev pub order_beside : Beside → Answer Ordering
order_beside b = order_pairs (left_of b) (right_of b)

-- how two values stand to each other, as `<=>` has it
abbrev pub RankGives : Answer Ordering → Result Rank ValueFault → Type 0
RankGives expected (Ok Equal) = expected ≡ Ok is.Equal
RankGives expected (Ok Less) = expected ≡ Ok is.Less
RankGives expected (Ok Greater) = expected ≡ Ok is.Greater
RankGives expected (Ok (Inside b)) = expected ≡ order_beside b
RankGives expected (Err fault) = fault ≢ Memory → expected ≡ Err fault
