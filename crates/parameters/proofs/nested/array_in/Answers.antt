use Rattle.std.proofs.Common.{sym}
use Rattle.parameters.proofs.Writes.{array-List}
use Rattle.parameters.proofs.nested.array_in.Goals as goal

pub returns-in-List : goal.returns-in-List
returns-in-List c = array-List c.args.old c.in-List.array (sym c.in-List.is)
