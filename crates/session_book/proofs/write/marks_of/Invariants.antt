use Rattle.order_map.specs.Arrays.{pairs_of}
use Rattle.php_values.specs.Data.{data_pairs}
use Rattle.session_book.specs.Kept.{kept_pairs}
use Rattle.session_book.proofs.Writing.{Wrote, rests}
use Rattle.session_book.proofs.write.marks_of.Given as goal

abbrev pub invariant-loop : goal.invariant-loop
invariant-loop l = Wrote l.marks.items (rests l.walk l.above.items) (kept_pairs (data_pairs (pairs_of l.map)))
