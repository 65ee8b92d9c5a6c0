use Rattle.std.proofs.Common.{◌≡◌, ◌∷◌, length, ◌-◌}
use Rattle.std.specs.List.{position_or_len}
use Rattle.removal_reports.specs.LogLines.{is_tab, fields_in}
use Rattle.removal_reports.proofs.fields.cut.Goals as goal
use Rattle.removal_reports.proofs.Lines.{uncut_short, cut_some}
use Rattle.std.proofs.Common.{ap, sym, ◌∙◌, drop, take}

pub returns-in-empty : goal.returns-in-empty
returns-in-empty c = uncut_short c.args.text.now c.split_at.result.1.now (c.split_at.ensures.back ∙ ap (λ n. drop n c.args.text.now) c.tab_place.ensures.value) c.in-empty.len_below

pub returns-in-len1-up : goal.returns-in-len1-up
returns-in-len1-up c =
    let front : take (position_or_len is_tab c.args.text.now) c.args.text.now ≡ c.split_at.result.0.now = sym (c.split_at.ensures.front ∙ ap (λ n. take n c.args.text.now) c.tab_place.ensures.value) in
    cut_some c.args.text.now c.split_at.result.1.now (c.split_at.ensures.back ∙ ap (λ n. drop n c.args.text.now) c.tab_place.ensures.value) c.in-len1-up.len_at_least
    ∙ ap (λ x. x ∷ fields_in (take (length c.split_at.result.1.now - 1) (drop 1 c.split_at.result.1.now))) front
