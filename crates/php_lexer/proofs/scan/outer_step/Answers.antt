use Rattle.std.proofs.Common.{ap, ◌∙◌}
use Rattle.php_lexer.specs.Code.{outside}
use Rattle.php_lexer.proofs.ScanLemmas.{by_outer, inline_step, tag_step, echo_step, finish_ok, finish_fault}
use Rattle.php_lexer.specs.Tokens.{outer_end, outer_open}
use Rattle.php_lexer.proofs.scan.outer_step.Goals as goal

pub returns-in-End-clause-leads : goal.returns-in-End-clause-leads
returns-in-End-clause-leads c =
    let e = c.in-End.ensures.value ∙ ap outside c.rest.ensures.value in
    finish_ok _ c.args.around c.args.state _ _ _ c.finish.result (λ z. by_outer c.requires.outside e (outer_end z)) c.finish.ensures.ok

pub returns-in-End-clause-fault : goal.returns-in-End-clause-fault
returns-in-End-clause-fault c =
    let e = c.in-End.ensures.value ∙ ap outside c.rest.ensures.value in
    finish_fault _ c.args.around _ c.finish.result (λ n. by_outer c.requires.outside e (outer_open n)) c.finish.ensures.err

pub returns-in_ok-add-in-Inline-clause-leads : goal.returns-in_ok-add-in-Inline-clause-leads
returns-in_ok-add-in-Inline-clause-leads c =
    inline_step _ c.args.around c.args.state _ c.in-Inline.len c.requires.outside (c.in-Inline.ensures.value ∙ ap outside c.rest.ensures.value) c.in_ok-add-in-Inline.ensures.ok c.past.ensures

pub returns-in-Tag-clause-leads : goal.returns-in-Tag-clause-leads
returns-in-Tag-clause-leads c =
    tag_step _ c.args.around c.args.state _ c.in-Tag.len c.requires.outside (c.in-Tag.ensures.value ∙ ap outside c.rest.ensures.value) c.past-in-Tag.ensures

pub returns-in_ok-add-in-Echo-clause-leads : goal.returns-in_ok-add-in-Echo-clause-leads
returns-in_ok-add-in-Echo-clause-leads c =
    echo_step _ c.args.around c.args.state _ c.requires.outside (c.in-Echo.ensures.value ∙ ap outside c.rest.ensures.value) c.in_ok-add-in-Echo.ensures.ok c.past-in-Echo.ensures
