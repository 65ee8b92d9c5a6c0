use Rattle.std.proofs.Common.{◌≡◌, take}
use Rattle.php_world.specs.Naming.{Naming}
use Rattle.php_world.specs.View.{vars_of}
use Rattle.php_arguments.specs.Answers.{datas}
use Rattle.php_meaning.specs.Calls.{argument_values}
use Rattle.php_rest.specs.Views.{arguments_named}
use Rattle.php_library_steps.proofs.values.values_of.Given as goal

abbrev pub invariant-each : goal.invariant-each
invariant-each l = (t : Naming) → datas l.values.items ≡ argument_values (vars_of t l.store) (arguments_named t (take l.argument-index l.args))
