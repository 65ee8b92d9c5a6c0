use Rattle.std.proofs.Common.{rules, ◌≡◌, ◌++◌, ◌∷◌, ap, sym, subst, ◌∙◌}
use Rattle.std.specs.declared.cmp.Ordering.TheVariants.{Less, Equal, Greater}
use Rattle.std.proofs.lemmas.List.{take-append-drop}
use Rattle.app_entries.proofs.Searched.{cmp, goes_behind, goes_front, stops}
use Rattle.app_entries.proofs.numbers.file_at.Goals as goal

pub loop-left-preserved-in-Less : goal.loop-left-preserved-in-Less
loop-left-preserved-in-Less c =
    let back : c.split_at.result.1.now ≡ c.in-Some.middle.now ∷ c.in-Some.behind.now = search rules in
    let halves : c.loop-left.left.now ≡ c.split_at.result.0.now ++ c.split_at.result.1.now = rw (c.split_at.ensures.front, c.split_at.ensures.back) (sym (take-append-drop _ _)) in
    goes_behind c.args.path.now c.args.files.now c.loop-left.left.now c.split_at.result.0.now c.in-Some.middle.now c.in-Some.behind.now (halves ∙ ap (λ l. c.split_at.result.0.now ++ l) back) c.loop-left.invariant
    (subst (λ p. cmp p c.args.path.now ≡ Less) c.as_str.ensures.value (sym c.cmp.ensures ∙ c.in-Less.is))

pub returns-in-Equal : goal.returns-in-Equal
returns-in-Equal c =
    let back : c.split_at.result.1.now ≡ c.in-Some.middle.now ∷ c.in-Some.behind.now = search rules in
    let halves : c.loop-left.left.now ≡ c.split_at.result.0.now ++ c.split_at.result.1.now = rw (c.split_at.ensures.front, c.split_at.ensures.back) (sym (take-append-drop _ _)) in
    stops c.args.path.now c.args.files.now c.loop-left.left.now c.split_at.result.0.now c.in-Some.middle.now c.in-Some.behind.now (halves ∙ ap (λ l. c.split_at.result.0.now ++ l) back) c.loop-left.invariant
    (subst (λ p. cmp p c.args.path.now ≡ Equal) c.as_str.ensures.value (sym c.cmp.ensures ∙ c.in-Equal.is))

pub loop-left-preserved : goal.loop-left-preserved
loop-left-preserved c =
    let back : c.split_at.result.1.now ≡ c.in-Some.middle.now ∷ c.in-Some.behind.now = search rules in
    let halves : c.loop-left.left.now ≡ c.split_at.result.0.now ++ c.split_at.result.1.now = rw (c.split_at.ensures.front, c.split_at.ensures.back) (sym (take-append-drop _ _)) in
    goes_front c.args.path.now c.args.files.now c.loop-left.left.now c.split_at.result.0.now c.in-Some.middle.now c.in-Some.behind.now (halves ∙ ap (λ l. c.split_at.result.0.now ++ l) back) c.loop-left.invariant
    (subst (λ p. cmp p c.args.path.now ≡ Greater) c.as_str.ensures.value (sym c.cmp.ensures ∙ c.in-Greater.is))
