use Rattle.std.proofs.Common.{◌≡◌, slice_set, ap, ◌∙◌}
use Rattle.std.specs.Prelude.{map}
use Rattle.php_lexer.specs.Marks.{mark_of}
use Rattle.std.proofs.lemmas.List.{map-set}
use Rattle.php_lexer.proofs.token.Tokens.set.Goals as goal

pub returns : goal.returns
returns c =
    let moved : map mark_of c.set.new.self ≡ slice_set (map mark_of c.self.inside.list) c.args.at (mark_of c.args.token) =
    ap (map mark_of) c.set.ensures ∙ map-set mark_of c.self.inside.list c.args.at c.args.token in
    moved ∙ ap (λ zs. slice_set zs c.args.at (mark_of c.args.token)) c.self.view_is
