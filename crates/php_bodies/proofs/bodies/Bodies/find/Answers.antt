use Rattle.std.proofs.Common.{sym, ap, subst, ◌∙◌}
use Rattle.std.specs.Str.{str_to_ascii_lowercase}
use Rattle.app_load.specs.Entries as entry
use Rattle.php_tree.specs.declared.decl.FunDecl.{out-FunDecl}
use Rattle.php_rest.specs.Views.{entry_of}
use Rattle.php_bodies.specs.Look.{IsAt, look_in}
use Rattle.php_bodies.proofs.bodies.Bodies.find.Goals as goal

pub returns-in-File : goal.returns-in-File
returns-in-File c = λ p t are. subst (λ o. IsAt t (look_in p t (entry_of o)) c.file.result) (sym c.in-File.is)
    (subst (λ q. IsAt t (look_in p t (entry.file q)) c.file.result) c.as_slice.ensures (c.file.ensures p t are))

pub returns-in_ok-set-in-Function : goal.returns-in_ok-set-in-Function
returns-in_ok-set-in-Function c = λ p t are.
    let name_is = c.as_slice-in-Function-3.ensures ∙ c.in_ok-set-in-Function.ensures ∙ ap str_to_ascii_lowercase c.as_slice-in-Function.ensures ∙ ap (λ d. str_to_ascii_lowercase (out-FunDecl d).name.text) c.get.ensures in
    subst (λ o. IsAt t (look_in p t (entry_of o)) c.function.result) (sym c.in-Function.is)
    (subst (λ n. IsAt t (look_in p t (entry.function c.in-Function.function.path.now n)) c.function.result) name_is
    (subst (λ q. IsAt t (look_in p t (entry.function q c.as_slice-in-Function-3.result.now)) c.function.result) c.as_slice-in-Function-2.ensures (c.function.ensures p t are)))
