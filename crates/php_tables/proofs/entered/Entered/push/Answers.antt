use Rattle.std.proofs.Common.{◌++◌, ◌∷◌, [], map, sym, ap, ◌∙◌, is_some}
use Rattle.php_names.specs.Tables.{found}
use Rattle.php_tables.specs.Entered.{path_at}
use Rattle.php_tables.proofs.Names.{again, first_time, paths_more, some_copied, done}
use Rattle.php_tables.proofs.entered.Entered.push.Goals as goal

pub invariant_of-self-then-is_some : goal.invariant_of-self-then-is_some
invariant_of-self-then-is_some c =
    again c.self.inside.names (map path_at c.self.inside.order.items) (map path_at c.push.new.self.items) c.args.path.now c.self.invariant
    (ap (λ n. is_some (found n c.self.inside.names)) (sym c.as_slice.ensures) ∙ (sym (ap is_some c.get.ensures) ∙ (some_copied c.get.result ∙ (sym c.is_some.ensures ∙ c.if-is_some.true))))
    (paths_more c.self.inside.order.items c.push.new.self.items c.args.path c.in_ok-push.ensures.items)

pub invariant_of-self-else-is_err : goal.invariant_of-self-else-is_err
invariant_of-self-else-is_err c =
    first_time c.self.inside.names c.add.new.self (map path_at c.self.inside.order.items) (map path_at c.push-2.new.self.items) c.args.path.now _ c.self.invariant
    (done c.add.result _ c.add.ensures.ok (sym c.if-is_err.ensures.value) ∙ ap (λ n. c.self.inside.names ++ (n, record {}) ∷ []) c.as_slice-2.ensures)
    (paths_more c.self.inside.order.items c.push-2.new.self.items c.args.path c.in_ok-push-2.ensures.items)
