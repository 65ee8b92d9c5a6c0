use Rattle.std.proofs.Common.{◌≡◌, ◌++◌, drop}
use Rattle.php_text_calls.specs.Pieces.{glued, joined}
use Rattle.php_text_calls.proofs.pieces.joined.Given as goal

abbrev pub invariant-loop-text : goal.invariant-loop-text
invariant-loop-text l = l.out.items ++ glued l.first l.glue (drop l.text-index l.texts) ≡ joined l.glue l.texts
