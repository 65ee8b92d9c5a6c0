use Rattle.std.proofs.Common.{Some, None, map, ap, ◌∙◌, if◌then◌else◌, arith}
use Rattle.php_folders.specs.Files.{part_at}
use Rattle.php_folders.proofs.Parts.{led_nowhere}
use Rattle.php_folders.proofs.segments.resolve.Goals as goal

pub returns-then-not-branch : goal.returns-then-not-branch
returns-then-not-branch c =
    led_nowhere c.args.parts.now c.loop-part.part-index _ (map part_at c.loop-part.folder.items) _ (omega (arith, c.loop-part-test.true)) c.loop-part.invariant
    (c.in_ok-further.ensures ∙ ap (λ b. if b then Some (map part_at c.further.new.folder.items) else None) c.if-not-branch.true)
