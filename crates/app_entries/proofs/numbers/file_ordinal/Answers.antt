use Rattle.std.proofs.Common.{rules, ◌≡◌, ap, ◌∙◌, string_bytes, subst}
use Rattle.php_tree.specs.StatementOf.{statements_of}
use Rattle.php_tree.specs.Functions.{functions_of}
use Rattle.app_files.specs.FileSets.{HasFunctions, path_bytes}
use Rattle.app_entries.specs.Search.{function_ordinal, path_of}
use Rattle.app_load.specs.Entries.{entry_of}
use Rattle.app_entries.proofs.Misses.{function_in}
use Rattle.app_entries.proofs.numbers.file_ordinal.Goals as goal

pub returns-in-Function : goal.returns-in-Function
returns-in-Function c =
    let has : c.in-Some.tree.functions ≡ functions_of (statements_of c.in-Some.tree.stmts) = subst HasFunctions c.in-Some.is c.requires.whole.functions in
    let found : c.function_ordinal.result ≡ function_ordinal c.in-Some.tree.functions (string_bytes c.in-Function.name) = search rules in
    let same : path_bytes c.args.file.now ≡ string_bytes c.in-Function.path = c.requires.same ∙ ap (λ e. path_of (entry_of e)) c.in-Function.is in
    rw c.in-Function.is (function_in (path_bytes c.args.file.now) (string_bytes c.in-Function.path) (string_bytes c.in-Function.name) c.args.file.now.tree c.in-Some.tree c.function_ordinal.result c.in-Some.is same has found)
