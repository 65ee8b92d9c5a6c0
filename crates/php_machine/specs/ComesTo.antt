-- What a whole run comes to.
use Rattle.std.specs.Prelude.{◌≡◌, ℕ}
use Rattle.php_world.specs.Naming.{Naming}
use Rattle.php_meaning.specs.RunResult.{result_of}
use Rattle.php_meaning.specs.Trace.{Input, trace_by}
use Rattle.php_state.specs.Fits.{Fits}
use Rattle.php_state.specs.declared.program.Program.{Program}
use Rattle.php_state.specs.declared.state.State.{State}
use Rattle.php_tally.specs.Comes.{result_in}
use Rattle.php_tally.specs.declared.run.Run.{Run}
use Rattle.php_bodies.specs.Look.{look_in}

-- The result is that of the script's trace over the program, by any numbering that fits the last state: the names of the
-- program's variables, and the texts of the static variables that were used.
pub record ComesTo (p : Program) (i : Input) (budget : ℕ) (r : Run) : Type 0 where
  pub last : State
  pub program_is : last.program.now ≡ p
  pub law : (t : Naming) → Fits t last → result_in r ≡ result_of (trace_by (look_in p t) p.paths i budget)
