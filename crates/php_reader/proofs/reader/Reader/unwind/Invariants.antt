use Rattle.std.proofs.Common.{◌≡◌, length}
use Rattle.php_reading.specs.Stack.{values_after, below}
use Rattle.php_reader.proofs.reader.Reader.unwind.Given as goal

abbrev pub invariant-waits : goal.invariant-waits
invariant-waits g l =
    (values_after l.self.waiting (g.P.Pieces.values l.self.pieces) ≡ values_after l.initial.self.waiting (g.P.Pieces.values l.initial.self.pieces))
    × (below l.self.waiting ≡ below l.initial.self.waiting) × (g.P.Pieces.left l.self.pieces ≡ g.P.Pieces.left l.initial.self.pieces)

abbrev pub decreases-waits : goal.decreases-waits
decreases-waits g l = length l.self.waiting
