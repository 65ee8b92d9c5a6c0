use Rattle.std.proofs.Common.{◌∙◌}
use Rattle.php_lexemes.proofs.SignLemmas.{other_sign}
use Rattle.php_lexemes.proofs.sorts.Around.sign.Goals as goal

pub returns-in_default : goal.returns-in_default
returns-in_default c =
    let x = other_sign c.args.self.now c.args.sign c.in_default.not-BraceOpen c.in_default.not-BraceClose in
    record { sort = c.sign_sort-in_default.ensures ∙ x.sort; after = x.after }
