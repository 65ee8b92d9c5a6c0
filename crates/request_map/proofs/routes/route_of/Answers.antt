use Rattle.request_map.proofs.routes.route_of.Goals as goal

pub returns : goal.returns
returns c = rw (c.deref.ensures.value, c.in_ok-path.ensures, c.target.ensures) at c.in_ok-route.ensures
