use Rattle.std.proofs.Common.{◌≡◌, ◌++◌, map, string_bytes}
use Rattle.toml.specs.View.{members_view}
use Rattle.role_routing.specs.Names.{user_of}
use Rattle.role_routing.specs.Files.{◌>>=◌, users_of}
use Rattle.std.specs.declared.result.Result.TheVariants.{Ok}
use Rattle.role_routing.proofs.read.users_of.Given as goal

abbrev pub invariant-users : goal.invariant-users
invariant-users l =
    (users_of (map string_bytes l.names) (members_view l.user-iterator) >>= (λ us. Ok (map user_of l.users.items ++ us)))
    ≡ users_of (map string_bytes l.names) (members_view l.initial.user-iterator)
