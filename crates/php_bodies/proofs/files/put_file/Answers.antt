use Rattle.std.proofs.Common.{[], ◌∷◌, ◌++◌, sym, ap, subst, ◌∙◌}
use Rattle.std.specs.Option.{option_copied, is_some}
use Rattle.php_names.specs.Tables.{found}
use Rattle.php_bodies.specs.Files.{AllHold}
use Rattle.php_bodies.proofs.PathTables.{file_put_in, file_left_out, more_hold}
use Rattle.php_bodies.proofs.files.put_file.Goals as goal

pub returns-in_ok-add-in-None-clause-finds : goal.returns-in_ok-add-in-None-clause-finds
returns-in_ok-add-in-None-clause-finds c = λ path rest. file_put_in path c.args.table.now c.add.new.self c.args.file.now c.in_ok-bodies-in-None.bodies rest (c.in_ok-add-in-None.ensures.ok ∙ ap (λ n. c.args.table.now ++ (n, c.in_ok-bodies-in-None.bodies) ∷ []) c.as_slice-path.ensures) c.in_ok-bodies-in-None.ensures.same

pub returns-in-Some-clause-finds : goal.returns-in-Some-clause-finds
returns-in-Some-clause-finds c = λ path rest. file_left_out path c.args.table.now c.args.file.now rest
    (ap (λ n. is_some (found n c.args.table.now)) (sym c.as_slice-path.ensures) ∙ ap is_some (sym c.get.ensures ∙ ap option_copied c.in-Some.is))

pub returns-in_ok-add-in-None-clause-holds : goal.returns-in_ok-add-in-None-clause-holds
returns-in_ok-add-in-None-clause-holds c = λ all. subst AllHold (sym c.in_ok-add-in-None.ensures.ok) (more_hold c.args.table.now (c.as_slice-path.result.now, c.in_ok-bodies-in-None.bodies) all c.in_ok-bodies-in-None.ensures.holds)
