use Rattle.std.proofs.Common.{drop}
use Rattle.app_load.specs.Findings.{findings_of}
use Rattle.app_load.specs.Seen.{Noted}
use Rattle.app_load.proofs.twice.first_twice.Given as goal

abbrev pub invariant-loop-finding : goal.invariant-loop-finding
invariant-loop-finding l = Noted l.seen.keys (findings_of (drop l.finding-index l.found)) (findings_of l.found)
