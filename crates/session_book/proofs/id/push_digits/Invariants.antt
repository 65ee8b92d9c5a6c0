use Rattle.std.proofs.Common.{◌≡◌, ◌≤◌, ◌++◌, string_bytes}
use Rattle.session_book.specs.Ids as spec
use Rattle.session_book.proofs.id.push_digits.Given as goal

abbrev pub invariant-loop-place : goal.invariant-loop-place
invariant-loop-place l = (l.place ≤ 32) × (string_bytes l.text ++ spec.digits l.place l.n ≡ string_bytes l.initial.text ++ spec.digits l.count l.n)

abbrev pub decreases-loop-place : goal.decreases-loop-place
decreases-loop-place l = l.place
