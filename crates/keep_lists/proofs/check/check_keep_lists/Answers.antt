use Rattle.std.proofs.Common.{◌∙◌, ap, map, string_bytes}
use Rattle.std.specs.HashSet.{contains_text}
use Rattle.app_load.specs.Entries.{entry_of}
use Rattle.role_routing.specs.Names.{keep_of}
use Rattle.keep_lists.specs.Known.{names_any, unknown_among}
use Rattle.keep_lists.proofs.Judging.{told}
use Rattle.keep_lists.proofs.check.check_keep_lists.Goals as goal

pub returns : goal.returns
returns c =
    let known = contains_text c.in_ok-known.known in
    λ _. told known (names_any (map entry_of c.args.entries.now) (map string_bytes c.args.statics.now)) (map keep_of c.args.roles.now.keep.items) (string_bytes c.in-Some.text.now) (string_bytes c.in_ok-clone-in-Some.field-0)
    c.in_ok-known.ensures (c.in-Some.ensures ∙ ap (λ ks. unknown_among known (map keep_of ks)) c.deref.ensures.value) c.in_ok-clone-in-Some.ensures.cases
