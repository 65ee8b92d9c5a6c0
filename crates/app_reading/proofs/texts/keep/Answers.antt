use Rattle.std.proofs.Common.{rules, ◌≡◌, ◌++◌, ◌∷◌, [], length, ap, ◌∙◌, refl, subst}
use Rattle.app_reading.specs.Reading.{IsSpent}
use Rattle.app_reading.proofs.Found.{one_more, pair_added}
use Rattle.app_reading.proofs.texts.keep.Goals as goal

pub returns-clause-read : goal.returns-clause-read
returns-clause-read c =
    let len : c.len.result ≡ length c.args.text.items = search rules in
    let spent = subst (λ n. IsSpent c.args.path.now n c.args.reading.now c.spend.new.reading) len c.spend.ensures in
    let pushed = c.in_ok-push.ensures.items ∙ ap (λ l. l ++ (c.in_ok-name.name, c.args.text) ∷ []) c.spend.ensures.texts in
    one_more c.args.path.now c.args.text.items c.args.reading.now c.spend.new.reading _ spent refl refl refl
    (pair_added c.args.path.now c.args.reading.now.texts.items c.push.new.self.items c.in_ok-name.name c.args.text c.in_ok-name.ensures.ok pushed)
