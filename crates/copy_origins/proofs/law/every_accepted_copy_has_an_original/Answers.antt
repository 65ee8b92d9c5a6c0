use Rattle.copy_laws.proofs.Programs.{program_application}
use Rattle.copy_origins.proofs.Accepted.{program_original}
use Rattle.copy_origins.proofs.law.every_accepted_copy_has_an_original.Goals as goal

pub returns-clause-original : goal.returns-clause-original
returns-clause-original c = program_original

pub returns-clause-application : goal.returns-clause-application
returns-clause-application c = program_application
