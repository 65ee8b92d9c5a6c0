use Rattle.std.proofs.Common.{rules}
use Rattle.php_rest.specs.Tails.{left_in}
use Rattle.php_declarations.proofs.Files.{first_of, last_of, nothing_there}
use Rattle.php_declarations.proofs.file.begin_file_block.Goals as goal

pub returns-then-is_empty : goal.returns-then-is_empty
returns-then-is_empty c = λ t w k.
    last_of (left_in c.args.tail) c.in-Some.first.now c.in-Some.more (search (rules, c.in-Some.ensures)) c.if-is_empty.ensures (λ u. nothing_there c.function_in.result _ _ c.if-is_some.ensures (c.function_in.ensures u)) t w _

pub returns : goal.returns
returns c = λ t w k.
    first_of (left_in c.args.tail) c.in-Some.first.now c.in-Some.more _ _ (search (rules, c.in-Some.ensures)) (λ u. nothing_there c.function_in.result _ _ c.if-is_some.ensures (c.function_in.ensures u)) c.in_ok-push.ensures.ok t w k
