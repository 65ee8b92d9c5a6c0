use Rattle.std.proofs.Common.{[], refl}
use Rattle.app_files.proofs.Whole.{none_whole}
use Rattle.load_notes.proofs.tests.an_application_without_files.Goals as goal

pub accepted_text-requires : goal.accepted_text-requires
accepted_text-requires g c = none_whole [] refl
