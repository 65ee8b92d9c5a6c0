use Rattle.session_book.specs.Kept as spec
use Rattle.session_book.proofs.Seeking.{Seeks}
use Rattle.session_book.proofs.value.SessionValue.text_at.Given as goal

abbrev pub invariant-loop-mark : goal.invariant-loop-mark
invariant-loop-mark l = Seeks l.key l.mark-items (spec.text_at l.key l.self) l.depth l.mark-index
