use Rattle.copy_laws.proofs.Programs.{program_originals, program_application}
use Rattle.copy_laws.proofs.law.an_accepted_copy_has_an_original.Goals as goal

pub returns-clause-original : goal.returns-clause-original
returns-clause-original c = program_originals

pub returns-clause-application : goal.returns-clause-application
returns-clause-application c = program_application
