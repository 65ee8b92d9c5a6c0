use Rattle.std.proofs.Common.{[], ◌∷◌, ◌++◌, sym, ap, ◌∙◌}
use Rattle.std.specs.Option.{option_copied, is_some}
use Rattle.php_names.specs.Tables.{found}
use Rattle.php_bodies.proofs.Tables.{put_in, left_out}
use Rattle.php_bodies.proofs.named.put_in.Goals as goal

pub returns-in_ok-add-in-None : goal.returns-in_ok-add-in-None
returns-in_ok-add-in-None c = λ name rest. put_in name c.args.table.now c.add.new.self c.args.body.now rest (c.in_ok-add-in-None.ensures.ok ∙ ap (λ n. c.args.table.now ++ (n, c.args.body.now.statements) ∷ []) c.as_slice-name.ensures.value)

pub returns-in-Some : goal.returns-in-Some
returns-in-Some c = λ name rest. left_out name c.args.table.now c.args.body.now rest
    (ap (λ n. is_some (found n c.args.table.now)) (sym c.as_slice-name.ensures.value) ∙ ap is_some (sym c.get.ensures ∙ ap option_copied c.in-Some.is))
