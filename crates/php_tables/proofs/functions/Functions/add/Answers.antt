use Rattle.std.proofs.Common.{◌∙◌, ap}
use Rattle.std.specs.Str.{str_to_ascii_lowercase}
use Rattle.php_tree.specs.declared.decl.FunDecl.{out-FunDecl}
use Rattle.php_tables.specs.Functions.{functions_of, first_named}
use Rattle.php_tables.proofs.Found.{found_first}
use Rattle.php_tables.proofs.functions.Functions.add.Goals as goal

pub add-requires : goal.add-requires
add-requires c =
    found_first c.as_slice-2.result.now c.args.self.now.table c.args.self.now.named
    ∙ (ap (λ n. first_named n (functions_of c.args.self.now)) (c.as_slice-2.ensures ∙ (c.in_ok-set.ensures ∙ ap str_to_ascii_lowercase (c.as_slice.ensures ∙ ap (λ d. (out-FunDecl d).name.text) c.get.ensures))) ∙ c.requires)
