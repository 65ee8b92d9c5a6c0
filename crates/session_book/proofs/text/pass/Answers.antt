use Rattle.std.proofs.Common.{◌∙◌, ap, sym, arith}
use Rattle.session_book.specs.Marks.{key_data, scalar_data, with_mark}
use Rattle.session_book.specs.Steps.{sought}
use Rattle.session_book.proofs.Seeking.{past-pair, past-list}
use Rattle.session_book.proofs.text.pass.Goals as goal
use Rattle.session_book.proofs.text.pass.Goals.{else-depth-eq0-via-then-depth-eq0+else-is_text, else-depth-eq0-via-else-depth-eq0, else-depth-eq0-2-via-then-depth-eq0-2+else-is_text-2, else-depth-eq0-2-via-else-depth-eq0-2}

pub returns-else-depth-eq0-clause-value : goal.returns-else-depth-eq0-clause-value
returns-else-depth-eq0-clause-value c pss =
    elim c.else-depth-eq0.branch [
      | else-depth-eq0-via-then-depth-eq0+else-is_text w ↦
          ap (λ m. sought c.args.key.now c.args.depth (with_mark m pss)) c.in-Pair.is
          ∙ past-pair c.args.key.now c.args.depth (key_data c.in-Pair.own) (scalar_data c.in-Pair.scalar) pss (λ z. sym w.is_text.ensures ∙ w.if-is_text.false)
      | else-depth-eq0-via-else-depth-eq0 w ↦
          ap (λ m. sought c.args.key.now c.args.depth (with_mark m pss)) c.in-Pair.is
          ∙ past-pair c.args.key.now c.args.depth (key_data c.in-Pair.own) (scalar_data c.in-Pair.scalar) pss (λ z. absurd (omega (arith, z, w.if-depth-eq0.false)))
    ]

pub returns-else-depth-eq0-2-clause-value : goal.returns-else-depth-eq0-2-clause-value
returns-else-depth-eq0-2-clause-value c pss =
    elim c.else-depth-eq0-2.branch [
      | else-depth-eq0-2-via-then-depth-eq0-2+else-is_text-2 w ↦
          ap (λ m. sought c.args.key.now c.args.depth (with_mark m pss)) c.in-Open.is
          ∙ past-list c.args.key.now c.args.depth (key_data c.in-Open.own) c.in-Open.field-1 pss (λ z. sym w.is_text-then-depth-eq0-2.ensures ∙ w.if-is_text-2.false)
      | else-depth-eq0-2-via-else-depth-eq0-2 w ↦
          ap (λ m. sought c.args.key.now c.args.depth (with_mark m pss)) c.in-Open.is
          ∙ past-list c.args.key.now c.args.depth (key_data c.in-Open.own) c.in-Open.field-1 pss (λ z. absurd (omega (arith, z, w.if-depth-eq0-2.false)))
    ]
