use Rattle.plain_names.proofs.Lexemes.{tree_plain}
use Rattle.plain_names.proofs.law.names_are_plain.Goals as goal

pub returns : goal.returns
returns c = tree_plain
