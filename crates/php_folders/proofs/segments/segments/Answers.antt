use Rattle.std.proofs.Common.{sym, ◌∙◌}
use Rattle.php_folders.proofs.Parts.{segments_split}
use Rattle.php_folders.proofs.segments.segments.Goals as goal

pub returns : goal.returns
returns c = c.in_ok-parts.ensures ∙ sym (segments_split c.args.text.now)
