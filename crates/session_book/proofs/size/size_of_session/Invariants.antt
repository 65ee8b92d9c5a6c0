use Rattle.session_book.proofs.Sizes.{Summed}
use Rattle.session_book.proofs.size.size_of_session.Given as goal

abbrev pub invariant-loop-mark : goal.invariant-loop-mark
invariant-loop-mark l = Summed l.mark-items l.size l.mark-index
