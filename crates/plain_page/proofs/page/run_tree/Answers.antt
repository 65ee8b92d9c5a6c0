use Rattle.std.proofs.Common.{◌≡◌, ℕ, List, IfOk, sym, subst}
use Rattle.std.specs.Option.{option_map}
use Rattle.php_frames.specs.Statements as frames
use Rattle.php_frames.specs.Run.{trace, Tree}
use Rattle.php_frames.specs.RunResult.{RunResult, result_of}
use Rattle.php_frames.specs.Progress.{closed}
use Rattle.std.specs.Prelude.{Option}
use Rattle.plain_page.proofs.Renaming.{page_of_tree}
use Rattle.plain_page.proofs.page.run_tree.Goals as goal

pub returns : goal.returns
returns c =
    subst (λ (read : Option (List frames.Statement)). IfOk c.run_page.result (λ found. (path : List ℕ) → option_map {T = List frames.Statement} {U = RunResult} (λ page. result_of (trace (Tree page) path c.args.budget)) read ≡ option_map (closed path) found))
    (sym (page_of_tree c.args.tree.now c.as_slice.result.now c.as_slice.ensures)) c.run_page.ensures
