use Rattle.php_functions.proofs.Walks.{function_noted}
use Rattle.php_functions.proofs.walk.+walk.Goals as goal

pub find_function-returns : goal.find_function-returns
find_function-returns t c =
    function_noted _ c.push.new.self.items _ _ c.in_ok-name.name c.as_slice.result.now c.args.function.now c.in_ok-push.ensures.items c.in_ok-name.ensures c.as_slice.ensures c.as_slice-2.result.now c.as_slice-2.ensures c.in_ok-find_statements.ensures
