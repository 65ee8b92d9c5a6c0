use Rattle.std.proofs.Common.{subst, sym}
use Rattle.app_load.specs.Findings.{findings_of}
use Rattle.app_load.specs.Seen.{Noted}
use Rattle.app_load.proofs.Keys.{next_finding}
use Rattle.app_load.proofs.twice.first_twice.Goals as goal

pub returns-in-Some : goal.returns-in-Some
returns-in-Some c =
    let all = findings_of c.args.found.now in
    let noted = subst (λ z. Noted c.loop-finding.seen.keys z all) (next_finding c.args.found.now c.loop-finding.finding-index _ c.loop-finding-test.true) c.loop-finding.invariant in
    sym (rw c.in-Some.is at (c.in_ok-name.ensures _ all noted))
