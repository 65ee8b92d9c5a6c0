use Rattle.std.proofs.Common.{map, sym, ap, ◌∙◌, ◌∷◌, []}
use Rattle.std.proofs.lemmas.List.{map-append}
use Rattle.php_values.specs.Data.{data_of}
use Rattle.php_meaning.specs.Constants.{constant_value}
use Rattle.php_state.specs.Views.{constant_of, world_of}
use Rattle.php_library_steps.proofs.Defined.{defined_already, made}
use Rattle.php_library_steps.proofs.constants.add_constant.Goals as goal

pub returns-then-branch-clause-law : goal.returns-then-branch-clause-law
returns-then-branch-clause-law c = λ t k.
    ap (λ does. does (world_of t c.args.state.now) k) (c.give_truth.ensures t)
    ∙ defined_already c.args.name.now (data_of c.args.value) (constant_value c.args.name.now 0 (world_of t c.args.state.now)) (world_of t c.args.state.now) k
    (sym (c.in_ok-is_known.ensures.known t) ∙ c.if-branch.true)

pub returns-clause-law : goal.returns-clause-law
returns-clause-law c = λ t k.
    ap (λ does. does (record (world_of t c.args.state.now) { constants = map constant_of c.add.new.self }) k) (c.give_truth-2.ensures t)
    ∙ made c.args.name.now (data_of c.args.value) c.in_ok-is_known.field-0 (map constant_of c.add.new.self) (world_of t c.args.state.now) k
    (c.in_ok-is_known.ensures.known t) c.if-branch.false
    (ap (map constant_of) c.in_ok-add.ensures.ok ∙ map-append constant_of c.args.state.now.constants ((c.args.name.now, c.args.value) ∷ []))
