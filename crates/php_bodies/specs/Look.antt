-- What stands at the entries of a program.
use Rattle.std.specs.Prelude.{◌≡◌, List}
use Rattle.std.specs.Borrow.{Bor}
use Rattle.std.specs.declared.option.Option.{Option}
use Rattle.std.specs.declared.option.Option.TheVariants.{Some, None}
use Rattle.php_tree.specs.declared.stmt.Stmt.{Stmt}
use Rattle.app_load.specs.CopyParts.{IsGone}
use Rattle.app_load.specs.Parts.{Part, body, part_at}
use Rattle.php_world.specs.Naming.{Naming}
use Rattle.php_meaning.specs.Run.{Look}
use Rattle.php_rest.specs.Named.{block_named}
use Rattle.php_state.specs.Linked.{program_parts}
use Rattle.php_state.specs.declared.program.Program.{Program}

abbrev pub look_in : Program → Naming → Look
look_in p t = part_at (program_parts t p)

-- statements that stand there, or nothing does, or what stood there was removed
abbrev pub IsAt : Naming → Option Part → Option (Bor (List Stmt)) → Type 0
IsAt t part None = IsGone part
IsAt t part (Some ss) = part ≡ Some (body (block_named t ss.now))
