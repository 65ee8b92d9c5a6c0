use Rattle.std.proofs.Common.{◌∙◌, sym, ap}
use Rattle.php_meaning.specs.Folders.{all_but_last}
use Rattle.php_folders.proofs.Parts.{popped}
use Rattle.php_folders.proofs.segments.folder_of.Goals as goal

pub returns-in-Some : goal.returns-in-Some
returns-in-Some c =
    sym (popped c.in_ok-parts.parts.items c.pop.new.self.items c.in-Some.field-0 c.in-Some.ensures.items) ∙ ap all_but_last c.in_ok-parts.ensures
