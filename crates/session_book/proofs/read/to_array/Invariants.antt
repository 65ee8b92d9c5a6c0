use Rattle.std.proofs.Common.{◌≡◌, [], ◌∷◌, length, drop}
use Rattle.php_values.specs.Data.{no_pairs}
use Rattle.session_book.specs.Marks.{with_marks}
use Rattle.session_book.specs.Steps.{whole_of}
use Rattle.session_book.proofs.read.to_array.Given as goal

abbrev pub invariant-loop-mark : goal.invariant-loop-mark
invariant-loop-mark l = l.value ≡ whole_of l.making (with_marks (drop l.mark-index l.mark-items) (no_pairs ∷ []))

abbrev pub invariant-loop-making : goal.invariant-loop-making
invariant-loop-making l = l.value ≡ whole_of l.making (no_pairs ∷ [])

abbrev pub decreases-loop-making : goal.decreases-loop-making
decreases-loop-making l = length l.making.above.items
