-- The bodies of a program.
use Rattle.php_state.specs.Linked.{IsLinked}
use Rattle.php_state.specs.declared.program.Program.{Program}
use Rattle.php_bodies.specs.Files.{FindsFiles, AllHold}
use Rattle.php_bodies.specs.declared.bodies.Bodies.{Bodies}

pub record AreBodies (p : Program) (b : Bodies) : Type 0 where
  pub linked : IsLinked p
  pub files : FindsFiles b.files p.files
  pub all : AllHold b.files
