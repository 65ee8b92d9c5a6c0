-- What declarations leave, and how the run goes on behind them.
use Rattle.std.specs.Prelude.{ℕ, List}
use Rattle.std.specs.declared.option.Option.{Option}
use Rattle.std.specs.declared.option.Option.TheVariants.{Some, None}
use Rattle.php_meaning.specs.declared.fatal.FatalName.{FatalName}
use Rattle.php_meaning.specs.Course.{Does}
use Rattle.php_meaning.specs.Refusals.{fatal}
use Rattle.php_meaning.specs.Statements.{Hoisted, refused}
use Rattle.php_meaning.specs.World.{World, Constant, Declared}

abbrev pub with_constants : List Constant → World → World
with_constants cs w = record w { constants = cs }

abbrev pub with_functions : List Declared → World → World
with_functions fs w = record w { functions = fs }

-- what follows comes next, or the run ends with a fatal
abbrev pub unless_fatal : Option FatalName → Does → Does
unless_fatal None go = go
unless_fatal (Some why) go = fatal why

-- what follows declares the rest, or a line is refused
abbrev pub unless_refused : Option ℕ → Hoisted → Hoisted
unless_refused None more = more
unless_refused (Some line) more = refused line
