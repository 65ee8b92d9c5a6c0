use Rattle.std.proofs.Common.{◌∙◌, ap}
use Rattle.php_lexemes.specs.Names.{number_in}
use Rattle.php_lexemes.proofs.NameLemmas.{number_found, number_absent}
use Rattle.php_lexemes.proofs.names.Names.place.Goals as goal

pub returns-in-Some : goal.returns-in-Some
returns-in-Some c =
    number_found c.args.name.now c.self.inside.set.keys c.in-Some.place c.in-Some.ensures.index
    ∙ ap (λ ns. number_in ns c.args.name.now) c.self.view_is

pub returns-in-None : goal.returns-in-None
returns-in-None c =
    c.len.ensures.len
    ∙ (number_absent c.args.name.now c.self.inside.set.keys c.in-None.ensures.index ∙ ap (λ ns. number_in ns c.args.name.now) c.self.view_is)
