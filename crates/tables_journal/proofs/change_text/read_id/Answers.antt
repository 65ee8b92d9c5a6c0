use Rattle.std.proofs.Common.{◌≡◌, FitsSigned, w64, false, pos, rules}
use lib.Signed.{lt_z}
use Rattle.std.specs.Fmt.{signed_decimal}
use Rattle.tables_journal.proofs.ReadBack.{no_id, not_id}
use Rattle.tables_journal.proofs.change_text.read_id.Goals as goal

pub returns-else-id-gt0-clause-none : goal.returns-else-id-gt0-clause-none
returns-else-id-gt0-clause-none c = λ id sound is.
    let fits : FitsSigned w64 c.in_ok-id.id = search rules in
    let found : c.args.text.now ≡ signed_decimal c.in_ok-id.id = search rules in
    let low : lt_z (pos 0) c.in_ok-id.id ≡ false = search rules in
    no_id c.args.text.now c.in_ok-id.id fits found (not_id c.in_ok-id.id low) id sound is
