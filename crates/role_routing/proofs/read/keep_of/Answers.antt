use Rattle.std.proofs.Common.{◌≡◌, ◌∙◌, ◌++◌, ◌∷◌, [], Some, map, string_bytes, ap, sym, arith}
use Rattle.std.proofs.lemmas.Grind.{common_steps}
use Rattle.std.specs.declared.result.Result.TheVariants.{Ok}
use Rattle.toml.specs.View.{view, members_view}
use Rattle.toml.proofs.Views.{Entry}
use Rattle.role_routing.specs.Names as named
use Rattle.role_routing.specs.Files.{◌>>=◌, list_of, number_of, keep_of}
use Rattle.role_routing.proofs.Walks.{keep-more, keep-push}
use Rattle.role_routing.proofs.read.keep_of.Goals as goal

pub lists-preserved : goal.lists-preserved
lists-preserved c =
    let names = map string_bytes c.args.names.now in
    let e : Entry = (c.in-Some-2.role.now, c.in-Some-2.texts.now) in
    let iter : c.lists.role-iterator ≡ e ∷ c.next.new.self = grind (arith, common_steps) in
    let ms = members_view c.next.new.self in
    let k = string_bytes c.in-Some-2.role.now in
    let d = view c.in-Some-2.texts.now in
    let n = c.in_ok-number.number in
    let done = map named.keep_of c.lists.lists.items in
    let num : number_of names k ≡ Ok n = ap (number_of names) (sym c.as_str.ensures.value) ∙ c.in_ok-number.ensures in
    let items : map named.keep_of c.push.new.self.items ≡ done ++ (n, list_of (Some d)) ∷ [] =
    ap (map named.keep_of) c.in_ok-push.ensures.items ∙ keep-push c.lists.lists.items (n, c.in_ok-texts.texts) ∙ ap (λ ts. done ++ (n, ts) ∷ []) c.in_ok-texts.ensures in
    ap (λ ks. keep_of names ms >>= (λ vs. Ok (ks ++ vs))) items ∙ sym (keep-more names k d ms n done num)
    ∙ sym (ap (λ es. keep_of names (members_view es) >>= (λ vs. Ok (done ++ vs))) iter) ∙ c.lists.invariant
