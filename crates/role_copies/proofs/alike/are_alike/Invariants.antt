use Rattle.std.proofs.Common.{◌≡◌, drop}
use Rattle.role_copies.specs.Alike.{are_alike}
use Rattle.role_copies.proofs.alike.are_alike.Given as goal

abbrev pub invariant-loop-file : goal.invariant-loop-file
invariant-loop-file l = are_alike (drop l.file-index l.files) l.rest ≡ are_alike l.files l.others
