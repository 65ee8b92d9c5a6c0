use Rattle.std.proofs.Common.{◌≡◌, ◌∙◌, ◌++◌, ◌∷◌, [], map, string_bytes, ap, sym, arith}
use Rattle.std.proofs.lemmas.Grind.{common_steps}
use Rattle.std.specs.declared.result.Result.TheVariants.{Ok}
use Rattle.toml.specs.View.{view, members_view}
use Rattle.toml.proofs.Views.{Entry}
use Rattle.role_routing.specs.Names.{user_of}
use Rattle.role_routing.specs.Files.{◌>>=◌, text_of, number_of, users_of}
use Rattle.role_routing.proofs.Walks.{users-more, users-push}
use Rattle.role_routing.proofs.read.users_of.Goals as goal

pub users-preserved : goal.users-preserved
users-preserved c =
    let names = map string_bytes c.args.names.now in
    let e : Entry = (c.in-Some-2.user.now, c.in-Some-2.role.now) in
    let iter : c.users.user-iterator ≡ e ∷ c.next.new.self = grind (arith, common_steps) in
    let ms = members_view c.next.new.self in
    let k = string_bytes c.in-Some-2.user.now in
    let d = view c.in-Some-2.role.now in
    let n = c.in_ok-number.number in
    let done = map user_of c.users.users.items in
    let num : number_of names (text_of d) ≡ Ok n = ap (number_of names) (sym c.text_of.ensures) ∙ c.in_ok-number.ensures in
    let items : map user_of c.push.new.self.items ≡ done ++ (k, n) ∷ [] =
    ap (map user_of) c.in_ok-push.ensures.items ∙ users-push c.users.users.items (c.in_ok-name.name, n) ∙ ap (λ k. done ++ (k, n) ∷ []) c.in_ok-name.ensures.cases in
    ap (λ us. users_of names ms >>= (λ vs. Ok (us ++ vs))) items ∙ sym (users-more names k d ms n done num)
    ∙ sym (ap (λ es. users_of names (members_view es) >>= (λ vs. Ok (done ++ vs))) iter) ∙ c.users.invariant
