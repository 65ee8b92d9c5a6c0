use Rattle.std.proofs.Common.{◌∙◌, ap, map}
use Rattle.php_lexemes.specs.Names.{noted, pointed}
use Rattle.php_lexemes.proofs.NameLemmas.{note_keys}
use Rattle.php_lexemes.proofs.names.Names.note.Goals as goal

pub returns : goal.returns
returns c =
    ap (map pointed) c.in_ok-insert.ensures.keys
    ∙ (note_keys c.self.inside.set.keys c.args.name ∙ ap (λ ns. noted ns c.args.name.now) c.self.view_is)
