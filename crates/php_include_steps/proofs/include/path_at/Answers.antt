use Rattle.std.proofs.Common.{Some, position, sym, ap, ◌∙◌}
use Rattle.std.specs.Str.{bytes_eq}
use Rattle.php_include_steps.proofs.Files.{at_number}
use Rattle.php_include_steps.proofs.include.path_at.Goals as goal

pub returns-then-found-number : goal.returns-then-found-number
returns-then-found-number c =
    at_number c.args.program.now.paths c.in-Some.file.now.path c.args.number
    (ap (λ q. position (bytes_eq q) c.args.program.now.paths) (sym c.as_slice-2.ensures) ∙ sym c.number.ensures ∙ c.in-Some-number.is ∙ ap Some c.if-found-number.true)
