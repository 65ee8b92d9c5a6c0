use Rattle.std.proofs.Common.{◌≡◌, map, drop}
use Rattle.php_world.specs.Naming.{Naming}
use Rattle.php_world.specs.View.{vars_of}
use Rattle.php_meaning.specs.World.{World, with_vars}
use Rattle.php_meaning.specs.Statements.{globals_named}
use Rattle.php_statement_begin.proofs.leave.bind_globals.Given as goal

abbrev pub invariant-loop-number : goal.invariant-loop-number
invariant-loop-number l =
    (t : Naming) (w : World) → globals_named (map t.name (drop l.number-index l.numbers)) (with_vars (vars_of t l.store) w) ≡ globals_named (map t.name l.numbers) (with_vars (vars_of t l.initial.store) w)
