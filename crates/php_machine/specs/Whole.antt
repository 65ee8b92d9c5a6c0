-- What a run comes to, from what the machine holds.
use Rattle.std.specs.Prelude.{◌≡◌}
use Rattle.php_world.specs.Naming.{Naming}
use Rattle.php_meaning.specs.Run.{Look}
use Rattle.php_meaning.specs.RunResult.{RunResult}
use Rattle.php_meaning.specs.Trace.{finish}
use Rattle.php_rest.specs.Rest.{next_of, rest}
use Rattle.php_rest.specs.declared.now.Now.{Now}
use Rattle.php_state.specs.Fits.{Fits}
use Rattle.php_state.specs.Views.{world_of}
use Rattle.php_tally.specs.Comes.{comes_to, closed, end_of}
use Rattle.php_state.specs.declared.program.Program.{Program}
use Rattle.php_bodies.specs.Look.{look_in}
use Rattle.php_bodies.specs.Whole.{AreBodies}
use Rattle.php_bodies.specs.declared.bodies.Bodies.{Bodies}
use Rattle.php_machine.specs.declared.machine.Machine.{Machine}
use Rattle.php_machine.specs.declared.machine.Next.{Next}
use Rattle.php_machine.specs.declared.machine.Next.TheVariants.{More, Over}

-- with what stands at the entries, once what comes next is done
abbrev pub whole : Look → Naming → Machine → Now → RunResult
whole look t m now = comes_to look m.tally (next_of t now (world_of t m.state) (rest t m.stack finish))

abbrev pub whole_next : Look → Naming → Machine → Next → RunResult
whole_next look t m (More now) = whole look t m now
whole_next look t m (Over end) = closed m.tally (end_of end)

-- the run comes to the same before and after, for every numbering that fits the state after
abbrev pub Continues : (Naming → Look) → Machine → Machine → Now → Next → Type 0
Continues look old new now next = (t : Naming) → Fits t new.state → whole_next (look t) t new next ≡ whole (look t) t old now

-- the same for the program whose bodies these are, so far
abbrev pub ComesAlike : Bodies → Machine → Machine → Now → Now → Type 0
ComesAlike bodies old new start now = (p : Program) → AreBodies p bodies → (t : Naming) → Fits t new.state → whole (look_in p t) t new now ≡ whole (look_in p t) t old start
