use Rattle.php_folders.proofs.Parts.{above_popped}
use Rattle.php_folders.proofs.segments.go_up.Goals as goal

pub returns-in-Some : goal.returns-in-Some
returns-in-Some c = above_popped c.args.folder.now.items c.pop.new.self.items c.in-Some.field-0 c.in-Some.ensures.items
