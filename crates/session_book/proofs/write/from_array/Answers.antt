use Rattle.std.proofs.Common.{sym, subst}
use Rattle.session_book.specs.Marks.{IsWritten}
use Rattle.session_book.proofs.Writing.{written}
use Rattle.session_book.proofs.write.from_array.Goals as goal

pub invariant_of-result : goal.invariant_of-result
invariant_of-result c =
    subst (λ n. IsWritten c.in_ok-marks.marks.items n) (sym c.next_number-next.ensures)
    (written c.in_ok-marks.marks.items c.as_ref-map.result.now c.in_ok-marks.ensures c.len-pairs.ensures.array)
