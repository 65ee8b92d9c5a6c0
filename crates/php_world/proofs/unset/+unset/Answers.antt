use Rattle.std.proofs.Common.{sym, ap, ◌∙◌, ◌∷◌, ◌-◌, take, drop, length}
use Rattle.php_values.specs.Data.{data_of}
use Rattle.php_world.specs.Places.{unset_at}
use Rattle.php_world.specs.View.{step_of, path_of}
use Rattle.php_world.proofs.Writes.{unset_last, more_missing, more_found, unset_back, unset_here, path_empty, cut_path}
use Rattle.php_world.proofs.unset.+unset.Goals as goal

pub unset_key-returns-then-is_empty : goal.unset_key-returns-then-is_empty
unset_key-returns-then-is_empty t c =
    unset_last c.args.key.now (path_of c.args.more.now) (unset_at (path_of c.args.more.now)) c.args.map.now c.remove-gone.new.self (path_empty c.args.more.now c.if-is_empty.ensures) c.remove-gone.ensures.pairs c.remove-gone.ensures.next

pub unset_key-returns-in-None : goal.unset_key-returns-in-None
unset_key-returns-in-None t c =
    more_missing c.args.key.now c.args.more.now (unset_at (path_of c.args.more.now)) c.args.map.now c.replace.new.self c.if-is_empty.ensures c.in-None.ensures.found c.in-None.ensures.pairs c.in-None.ensures.next

pub unset_key-returns-in-Some : goal.unset_key-returns-in-Some
unset_key-returns-in-Some t c =
    more_found c.unset_value-done.result c.replace-hole.result c.args.key.now c.args.more.now (unset_at (path_of c.args.more.now)) c.in-Some.inner c.unset_value-done.new.old c.args.map.now c.replace.new.self c.replace-hole.new.self
    c.if-is_empty.ensures c.in-Some.ensures.found c.in-Some.ensures.pairs c.in-Some.ensures.next c.replace-hole.ensures.found c.replace-hole.ensures.pairs c.replace-hole.ensures.next c.unset_value-done.ensures

pub unset_step-returns-in-List : goal.unset_step-returns-in-List
unset_step-returns-in-List t c =
    unset_back c.unset_shared-done.result (step_of c.args.step.now) (path_of c.args.more.now) (unset_at (path_of c.args.more.now)) c.args.old.now c.in-List.array _ (sym c.replace.ensures.value ∙ c.in-List.is) c.unset_shared-done.ensures

pub unset_value-returns-in-At : goal.unset_value-returns-in-At
unset_value-returns-in-At t c =
    unset_here c.unset_step.result c.args.path.now c.step-item.result _ c.in-At.field-0 (data_of c.args.old.now) (data_of c.unset_step.new.old)
    (cut_path c.args.path.now c.step-item.result c.in-len1-up.len_at_least ∙ ap (λ s. s ∷ take (length c.args.path.now - 1) (drop 1 c.args.path.now)) (sym c.step-item.is)) c.in-At.is c.unset_step.ensures
