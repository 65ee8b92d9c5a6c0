use Rattle.std.proofs.Common.{◌≡◌, ◌++◌}
use Rattle.php_text_calls.specs.Pieces.{glued, joined, pieces}
use Rattle.php_text_calls.proofs.pieces.rejoined.Given as goal

abbrev pub invariant-loop-piece : goal.invariant-loop-piece
invariant-loop-piece l =
    (goal.iterator-loop-piece).can_next l.piece-iterator ×
    (goal.iterator-loop-piece).is_finite l.piece-iterator ×
    (l.out.items ++ glued l.glue l.by l.piece-iterator ≡ joined l.by (pieces l.search l.fn.text))
