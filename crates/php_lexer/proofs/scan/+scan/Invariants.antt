use Rattle.std.proofs.Common.{◌≡◌, ◌≤◌, ◌<◌, ◌+◌, ◌-◌, ◌*◌, length}
use Rattle.php_lexer.specs.Scan.{goal_of, Leads}
use Rattle.php_lexer.specs.declared.state.Next.TheVariants.{More}
use Rattle.php_lexer.proofs.BodyLemmas.{BodyAlong}
use Rattle.php_lexer.proofs.scan.+scan.Given as goal

abbrev pub decreases-body_step : goal.decreases-body_step
decreases-body_step l = 6 * (201 - l.place.nest)

abbrev pub decreases-quoted : goal.decreases-quoted
decreases-quoted l = 6 * (201 - l.nest) + 1

abbrev pub decreases-code_step : goal.decreases-code_step
decreases-code_step l = 6 * (201 - l.around.nest) + 2

abbrev pub decreases-step : goal.decreases-step
decreases-step l = 6 * (201 - l.around.nest) + 3

abbrev pub decreases-read : goal.decreases-read
decreases-read l = 6 * (201 - l.around.nest) + 4

abbrev pub decreases-read_embedded : goal.decreases-read_embedded
decreases-read_embedded l = 6 * (201 - l.around.nest) + 5

abbrev pub invariant-quoted-pieces : goal.invariant-quoted-pieces
invariant-quoted-pieces l = record {
  along : BodyAlong l.start.text.now l.place l.cursor.at l.read l.fn.tokens l.tokens;
  text : l.cursor.text ≡ l.start.text;
  on : l.start.at < l.cursor.at;
}

abbrev pub decreases-quoted-pieces : goal.decreases-quoted-pieces
decreases-quoted-pieces l = length l.cursor.text.now - l.cursor.at

abbrev pub invariant-read-steps : goal.invariant-read-steps
invariant-read-steps l = record {
  leads : Leads l.start.cursor.text.now l.around (goal_of l.start l.around) l.fn.tokens l.tokens (More l.state);
  text : l.state.cursor.text ≡ l.start.cursor.text;
  on : l.start.cursor.at ≤ l.state.cursor.at;
}

abbrev pub decreases-read-steps : goal.decreases-read-steps
decreases-read-steps l = length l.state.cursor.text.now - l.state.cursor.at
