use Rattle.std.proofs.Common.{◌∙◌}
use Rattle.turn_store.proofs.Turnstiles.{may_give, may_give_changed, slots_after_take, slots_after_gift}
use Rattle.turn_store.proofs.tests.add.Goals as goal

pub give_back-requires : goal.give_back-requires
give_back-requires g c = may_give_changed _ c.in-Taken.taken _ (may_give c.args.slot _ _ _ _ c.in-Taken.is c.requires c.try_take.ensures)

pub returns-in-Taken : goal.returns-in-Taken
returns-in-Taken g c = slots_after_gift _ _ _ c.give_back.ensures ∙ slots_after_take _ _ _ _ c.try_take.ensures

pub returns-in_default : goal.returns-in_default
returns-in_default g c = slots_after_take _ _ _ _ c.try_take.ensures
