use Rattle.app_files.proofs.Whole.{none_whole}
use Rattle.app_files.proofs.tests.an_application_is_a_program.Goals as goal

pub new-requires-2 : goal.new-requires-2
new-requires-2 g c = none_whole c.new.result.items c.new.ensures.items
