use Rattle.std.proofs.Common.{ap, subst, ◌∙◌}
use Rattle.php_tree.specs.StatementOf.{statements_of}
use Rattle.php_tree.specs.Renamed.{renamed_statements}
use Rattle.php_renumber.specs.Numbers.{number_in}
use Rattle.php_link.specs.Names.{AreNumbered}
use Rattle.php_link.proofs.Linking.{one_linked}
use Rattle.php_link.proofs.file.linked_file.Goals as goal

pub returns : goal.returns
returns c =
    one_linked c.args.names.now c.numbers_of.new.names c.args.path.now c.args.tree.now c.in_ok-numbers.numbers (record { path = c.in_ok-path.path; statements = c.in_ok-statements.statements })
    (subst (λ vs. AreNumbered c.args.names.now c.numbers_of.new.names vs c.in_ok-numbers.numbers) c.as_slice.ensures c.in_ok-numbers.ensures)
    (c.in_ok-statements.ensures ∙ ap (λ ss. renamed_statements (number_in c.in_ok-numbers.numbers) (statements_of ss)) c.as_slice-2.ensures)
    c.in_ok-path.ensures
