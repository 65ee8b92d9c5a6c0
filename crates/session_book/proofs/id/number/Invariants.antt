use Rattle.session_book.proofs.Digits.{Counted}
use Rattle.session_book.proofs.id.number.Given as goal

abbrev pub invariant-loop-byte : goal.invariant-loop-byte
invariant-loop-byte l = Counted l.text l.n l.byte-index
