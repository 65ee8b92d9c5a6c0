use Rattle.std.proofs.Common.{◌∙◌, ap}
use Rattle.php_rest.specs.Rest.{rest}
use Rattle.php_state.specs.Views.{world_of}
use Rattle.php_include_steps.proofs.Files.{found, not_found}
use Rattle.php_include_steps.proofs.include.include_file.Goals as goal

pub returns-in_ok-now-in-Some-clause-law : goal.returns-in_ok-now-in-Some-clause-law
returns-in_ok-now-in-Some-clause-law c = λ t k.
    c.in_ok-now-in-Some.ensures.law t k
    ∙ found c.args.kind c.args.text.now (world_of t c.args.state.now) (rest t c.args.stack.now k) c.in_ok-path.field-0 c.in-Some.path (c.in_ok-path.ensures t) c.in-Some.is

pub returns-in-None-clause-law : goal.returns-in-None-clause-law
returns-in-None-clause-law c = λ t k.
    ap (λ does. does (world_of t c.args.state.now) (rest t c.args.stack.now k)) (c.not_there.ensures t)
    ∙ not_found c.args.kind c.args.text.now (world_of t c.args.state.now) (rest t c.args.stack.now k) c.in_ok-path.field-0 (c.in_ok-path.ensures t) c.in-None.is
