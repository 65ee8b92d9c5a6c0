use Rattle.std.proofs.Common.{map, length, string_bytes, IsTrue, option_map, subst}
use Rattle.std.specs.List.{list_all}
use Rattle.toml.specs.View.{view, table_view}
use Rattle.role_routing.specs.Names as named
use Rattle.role_routing.specs.Files.{table_of}
use Rattle.role_routing.proofs.Sound.{number-sound, users-sound, keep-sound, names-sound, few-slice, roles-sound}
use Rattle.role_routing.proofs.read.roles_in.Goals as goal

pub number_of-requires : goal.number_of-requires
number_of-requires c = few-slice (table_view c.args.table.now) c.in_ok-names.names.items c.as_slice.result.now c.requires c.in_ok-names.ensures c.as_slice.ensures.value

pub users_of-requires : goal.users_of-requires
users_of-requires c = few-slice (table_view c.args.table.now) c.in_ok-names.names.items c.as_slice-2.result.now c.requires c.in_ok-names.ensures c.as_slice-2.ensures.value

pub keep_of-requires : goal.keep_of-requires
keep_of-requires c = few-slice (table_view c.args.table.now) c.in_ok-names.names.items c.as_slice-3.result.now c.requires c.in_ok-names.ensures c.as_slice-3.ensures.value

pub invariant_of-result : goal.invariant_of-result
invariant_of-result c =
    let xs = c.in_ok-names.names.items in
    let us = map named.user_of c.in_ok-users.users.items in
    let ks = map named.keep_of c.in_ok-keep.keep.items in
    let a = names-sound (table_view c.args.table.now) (map string_bytes xs) c.requires c.in_ok-names.ensures in
    let g = subst (λ ns. IsTrue (named.is_number (length (map string_bytes ns)) c.in_ok-guest.guest)) c.as_slice.ensures.value
    (number-sound (map string_bytes c.as_slice.result.now) c.in-Some.guest.now c.in_ok-guest.guest c.in_ok-guest.ensures) in
    let u = subst (λ ns. IsTrue (list_all (λ u. named.is_number (length (map string_bytes ns)) u.1) us)) c.as_slice-2.ensures.value
    (users-sound (map string_bytes c.as_slice-2.result.now) (table_of (option_map (λ v. view v.now) c.value_at.result)) us c.in_ok-users.ensures) in
    let k = subst (λ ns. IsTrue (list_all (λ k. named.is_number (length (map string_bytes ns)) k.0) ks)) c.as_slice-3.ensures.value
    (keep-sound (map string_bytes c.as_slice-3.result.now) (table_of (option_map (λ v. view v.now) c.value_at-2.result)) ks c.in_ok-keep.ensures) in
    record { sound = roles-sound (map string_bytes xs) c.in_ok-guest.guest us ks a g u k }
