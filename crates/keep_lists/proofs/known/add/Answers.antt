use Rattle.std.proofs.Common.{◌∙◌, true, string_bytes}
use Rattle.std.specs.Str.{bytes_eq}
use Rattle.std.specs.HashSet.{contains_text}
use Rattle.std.proofs.lemmas.Map.Text.{hash_set_updates_text}
use Rattle.keep_lists.proofs.Adding.{or_cond}
use Rattle.keep_lists.proofs.known.add.Goals as goal

pub returns : goal.returns
returns c =
    λ t. hash_set_updates_text (string_bytes c.args.text) c.args.texts.now c.insert.new.self true c.in_ok-insert.ensures.updates t ∙ or_cond (bytes_eq (string_bytes c.args.text) t) (contains_text c.args.texts.now t)
