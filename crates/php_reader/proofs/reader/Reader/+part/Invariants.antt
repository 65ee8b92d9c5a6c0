use Rattle.std.proofs.Common.{◌≡◌, ◌+◌, ◌-◌, length}
use Rattle.php_reader.specs.Levels.{rank}
use Rattle.php_reading.specs.Fronts.{front}
use Rattle.php_reading.specs.Reading.{before_part, before_all}
use Rattle.php_grammar.specs.declared.part.Context.TheVariants.{InFull}
use Rattle.php_grammar.specs.declared.part.Part.TheVariants.{Level}
use Rattle.php_reader.proofs.Steps.{before_symbol, Among, Down}
use Rattle.php_reader.proofs.Outwards.{Outwards}
use Rattle.php_reader.proofs.reader.Reader.+part.Given as goal

abbrev pub decreases-descend : goal.decreases-descend
decreases-descend g l = before_part (g.P.Pieces.left l.self.now.pieces) l.part + 3

abbrev pub decreases-read : goal.decreases-read
decreases-read g l = before_part (g.P.Pieces.left l.self.now.pieces) l.part + 5

abbrev pub decreases-read_all : goal.decreases-read_all
decreases-read_all g l = before_all (g.P.Pieces.left l.self.now.pieces) l.symbols.now + 1

abbrev pub decreases-read_front : goal.decreases-read_front
decreases-read_front g l = before_all (g.P.Pieces.left l.self.now.pieces) (front l.rule) + 2

abbrev pub decreases-read_first : goal.decreases-read_first
decreases-read_first g l = before_part (g.P.Pieces.left l.self.now.pieces) l.part + 5

abbrev pub decreases-read_full : goal.decreases-read_full
decreases-read_full g l = before_part (g.P.Pieces.left l.self.now.pieces) (Level InFull l.top) + 4

abbrev pub invariant-read_full-outwards : goal.invariant-read_full-outwards
invariant-read_full-outwards g l =
    Outwards l.fn.budget l.fn.top (g.P.Pieces.left l.fn.self.pieces) (g.P.Pieces.values l.fn.self.pieces)
    l.level l.low (g.P.Pieces.left l.self.pieces) (g.P.Pieces.values l.self.pieces)
    × (l.self.waiting ≡ l.fn.self.waiting)

abbrev pub decreases-read_full-outwards : goal.decreases-read_full-outwards
decreases-read_full-outwards g l = 12 - rank l.level

abbrev pub decreases-read_level : goal.decreases-read_level
decreases-read_level g l = before_part (g.P.Pieces.left l.self.now.pieces) l.part + 3

abbrev pub decreases-read_ruled : goal.decreases-read_ruled
decreases-read_ruled g l = before_part (g.P.Pieces.left l.self.now.pieces) l.part + 4

abbrev pub decreases-read_symbol : goal.decreases-read_symbol
decreases-read_symbol g l = before_symbol (g.P.Pieces.left l.self.now.pieces) l.symbol

abbrev pub invariant-descend-down : goal.invariant-descend-down
invariant-descend-down g l =
    Down l.fn.budget l.fn.part (g.P.Pieces.left l.fn.self.pieces) (g.P.Pieces.values l.fn.self.pieces) l.fn.self.waiting
    l.budget l.part l.lowest (g.P.Pieces.left l.self.pieces) (g.P.Pieces.values l.self.pieces) l.self.waiting

abbrev pub decreases-descend-down : goal.decreases-descend-down
decreases-descend-down g l = before_part (g.P.Pieces.left l.self.pieces) l.part

abbrev pub invariant-read_all-symbol : goal.invariant-read_all-symbol
invariant-read_all-symbol g l =
    Among l.budget l.fn.symbols (g.P.Pieces.left l.fn.self.pieces) (g.P.Pieces.values l.fn.self.pieces)
    l.lowest (g.P.Pieces.left l.self.pieces) (g.P.Pieces.values l.self.pieces) l.symbols
    × (l.self.waiting ≡ l.fn.self.waiting)

abbrev pub decreases-read_all-symbol : goal.decreases-read_all-symbol
decreases-read_all-symbol g l = length l.symbols
