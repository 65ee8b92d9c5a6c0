use Rattle.std.proofs.Common.{◌≡◌, ◌++◌, map, string_bytes}
use Rattle.toml.specs.View.{members_view}
use Rattle.role_routing.specs.Names as named
use Rattle.role_routing.specs.Files.{◌>>=◌, keep_of}
use Rattle.std.specs.declared.result.Result.TheVariants.{Ok}
use Rattle.role_routing.proofs.read.keep_of.Given as goal

abbrev pub invariant-lists : goal.invariant-lists
invariant-lists l =
    (keep_of (map string_bytes l.names) (members_view l.role-iterator) >>= (λ ks. Ok (map named.keep_of l.lists.items ++ ks)))
    ≡ keep_of (map string_bytes l.names) (members_view l.initial.role-iterator)
