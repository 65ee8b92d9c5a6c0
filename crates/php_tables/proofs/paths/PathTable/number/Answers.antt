use Rattle.std.proofs.Common.{position, ◌∙◌, ap}
use Rattle.std.specs.Str.{bytes_eq}
use Rattle.php_tables.proofs.Names.{position-map}
use Rattle.php_tables.proofs.paths.PathTable.number.Goals as goal

pub returns : goal.returns
returns c =
    c.get_index_of.ensures.index
    ∙ (position-map (λ k. k.items) (bytes_eq c.args.path.now) c.self.inside.set.keys ∙ ap (position (bytes_eq c.args.path.now)) c.self.view_is)
