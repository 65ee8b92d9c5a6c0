use Rattle.role_copies.proofs.routing.route.Goals as goal

pub returns : goal.returns
returns c = rw (c.deref.ensures.value, c.in_ok-path.ensures, c.target.ensures) at c.in_ok-route.ensures
