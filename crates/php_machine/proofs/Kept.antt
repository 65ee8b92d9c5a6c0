-- Steps that keep the program, and what numberings fit.
use Rattle.std.proofs.Common.{◌≡◌, slice_get, refl, ap, subst, ◌∙◌}
use Rattle.php_world.specs.Naming.{Naming}
use Rattle.php_state.specs.Fits.{Fits, Keeps}
use Rattle.php_state.specs.declared.program.Program.{Program}
use Rattle.php_state.specs.declared.state.State.{State}
use Rattle.php_rest.specs.declared.now.Now.{Now}
use Rattle.php_bodies.specs.Look.{look_in}
use Rattle.php_bodies.specs.Whole.{AreBodies}
use Rattle.php_bodies.specs.declared.bodies.Bodies.{Bodies}
use Rattle.php_machine.specs.Whole.{whole, whole_next, Continues, ComesAlike}
use Rattle.php_machine.specs.declared.machine.Machine.{Machine}
use Rattle.php_machine.specs.declared.machine.Next.{Next}
use Rattle.php_machine.specs.declared.machine.Next.TheVariants.{More, Over}
use Rattle.php_tally.specs.Comes.{closed, end_of}
use Rattle.php_tally.specs.declared.run.End.{End}

pub fits_before : (t : Naming) (old new : State) → Keeps old new → Fits t new → Fits t old
fits_before t old new keeps fits = record {
  names_are = λ n x e. fits.names_are n x (ap (λ p. slice_get p.names n) keeps.0 ∙ e);
  statics_are = λ n key e. fits.statics_are n key (keeps.1 n key e);
}

pub kept_twice : (a b c : State) → Keeps a b → Keeps b c → Keeps a c
kept_twice a b c first second = (second.0 ∙ first.0, λ n key e. second.1 n key (first.1 n key e))

pub kept_at_first : (a : State) → Keeps a a
kept_at_first a = (refl, λ n key e. e)

-- ---- a run over several steps

pub at_first : (b : Bodies) (m : Machine) (now : Now) → ComesAlike b m m now now × Keeps m.state m.state
at_first b m now = (λ p are t fits. refl, kept_at_first m.state)

one_more : (b : Bodies) (first old new : Machine) (start now : Now) (next : Next) → ComesAlike b first old start now × Keeps first.state old.state
    → ((p : Program) → AreBodies p b → Continues (look_in p) old new now next) → Keeps old.state new.state
    → ((p : Program) → AreBodies p b → (t : Naming) → Fits t new.state → whole_next (look_in p t) t new next ≡ whole (look_in p t) t first start) × Keeps first.state new.state
one_more b first old new start now next so_far law keeps =
    (λ p are t fits. law p are t fits ∙ so_far.0 p are t (fits_before t old.state new.state keeps fits), kept_twice first.state old.state new.state so_far.1 keeps)

pub more_steps : (b : Bodies) (first old new : Machine) (start now : Now) (next : Next) (more : Now) → next ≡ More more → ComesAlike b first old start now × Keeps first.state old.state
    → ((p : Program) → AreBodies p b → Continues (look_in p) old new now next) → Keeps old.state new.state → ComesAlike b first new start more × Keeps first.state new.state
more_steps b first old new start now next more e so_far law keeps = one_more b first old new start now (More more) so_far (λ p are. subst (Continues (look_in p) old new now) e (law p are)) keeps

pub last_step : (b : Bodies) (first old new : Machine) (start now : Now) (next : Next) (end : End) → next ≡ Over end → ComesAlike b first old start now × Keeps first.state old.state
    → ((p : Program) → AreBodies p b → Continues (look_in p) old new now next) → Keeps old.state new.state
    → ((p : Program) → AreBodies p b → (t : Naming) → Fits t new.state → closed new.tally (end_of end) ≡ whole (look_in p t) t first start) × Keeps first.state new.state
last_step b first old new start now next end e so_far law keeps = one_more b first old new start now (Over end) so_far (λ p are. subst (Continues (look_in p) old new now) e (law p are)) keeps
