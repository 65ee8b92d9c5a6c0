use Rattle.std.proofs.Common.{ℕ, ◌<◌, slice_get, Option, IfSome, sym, ap, ◌∙◌, subst}
use Rattle.php_classes.specs.Declaring.{parent_in}
use Rattle.php_classes.proofs.Places.{parent_is_earlier}
use Rattle.php_classes.proofs.table.ClassTable.parent.Goals as goal

pub returns-clause-earlier : goal.returns-clause-earlier
returns-clause-earlier c =
    subst (λ (o : Option ℕ). IfSome o (λ p. p < c.args.class))
    (sym (c.parent_at.ensures ∙ ap (λ cs. parent_in (slice_get cs c.args.class)) c.as_slice.ensures.value))
    (parent_is_earlier c.self.inside.classes.items c.self.inside.lineages.items c.args.class c.self.invariant)
