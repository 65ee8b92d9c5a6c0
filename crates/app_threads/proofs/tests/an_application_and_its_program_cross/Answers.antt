use Rattle.app_files.proofs.Whole.{none_whole}
use Rattle.app_threads.proofs.tests.an_application_and_its_program_cross.Goals as goal

pub new-requires-2 : goal.new-requires-2
new-requires-2 g c = none_whole c.new.result.items c.new.ensures.items
