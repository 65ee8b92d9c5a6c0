use Rattle.std.proofs.Common.{◌≡◌, drop}
use Rattle.app_load.specs.Findings.{findings_of}
use Rattle.app_load.specs.Twice.{first_leaving}
use Rattle.app_load.proofs.twice.first_leaving.Given as goal

abbrev pub invariant-loop-finding : goal.invariant-loop-finding
invariant-loop-finding l = first_leaving (findings_of (drop l.finding-index l.found)) ≡ first_leaving (findings_of l.found)
