use Rattle.std.proofs.Common.{sym, subst, length, IsTrue, option_map}
use Rattle.role_routing.specs.Names.{is_number}
use Rattle.role_routing.specs.Held.{roles_data}
use Rattle.role_routing.proofs.Holding.{user-sound}
use Rattle.role_routing.proofs.held.role_held.Goals as goal

pub returns-clause-role : goal.returns-clause-role
returns-clause-role c =
    let roles = roles_data c.args.roles.now in
    subst (λ n. IsTrue (is_number (length roles.names) n)) (sym c.of_user.ensures) (user-sound roles (option_map (λ t. t.now) c.text_at.result) c.args.roles.now.sound)
