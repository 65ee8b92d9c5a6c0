use Rattle.std.proofs.Common.{map}
use Rattle.php_values.specs.Data.{bytes}
use Rattle.php_text_calls.specs.Pieces.{piece_values}
use Rattle.php_text_calls.proofs.Listings.{Listing}
use Rattle.php_text_calls.proofs.pieces.split.Given as goal

abbrev pub invariant-loop-piece : goal.invariant-loop-piece
invariant-loop-piece l =
    (goal.iterator-loop-piece).can_next l.piece-iterator ×
    (goal.iterator-loop-piece).is_finite l.piece-iterator ×
    Listing l.list (map bytes l.piece-iterator) (piece_values l.separator l.fn.text)
