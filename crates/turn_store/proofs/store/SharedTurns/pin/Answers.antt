use Rattle.std.proofs.Common.{rules, arith, ◌≡◌, ℕ, ◌+◌, ◌-◌, ◌*◌, ◌/◌, ◌%◌, ◌<◌, ◌∷◌, [], List, length, length-append, sym, ap, ◌∙◌}
use Rattle.turn_store.specs.Items.{roles_of, last_role}
use Rattle.turn_store.specs.Plays.{with_change}
use Rattle.turn_store.specs.Passes.{admin_view}
use Rattle.turn_store.proofs.Pinning.{knows_word, pins, roles_more}
use Rattle.turn_store.proofs.store.SharedTurns.pin.Goals as goal

pub load-word-requires : goal.load-word-requires
load-word-requires g c = (search rules, search rules, knows_word _ _ _ _ _ _ c.args.admin.now.at_rest.1 c.requires.slot)

pub fetch_add-requires : goal.fetch_add-requires
fetch_add-requires g c = let saw = c.load-word.ensures.2 in let same = ap (λ m. length (roles_of c.args.slot m.0.changes)) saw.0 in let e : ℕ = (c.args.role + 128 - c.load-word.result / 2 / 4294967296 / 16777216) % 128 in
    let small : e < 128 = omega arith in let room : length (roles_of c.args.slot c.load-word.new.seat.me.0.changes) < 16777215 = (let f = c.if-change-eq-LAST_CHANGE.false in let h = c.change-change.ensures in let a = saw.1 in omega arith) in
    (search rules, search rules, rw c.next_change.ensures (pins _ _ _ _ _ _ e (ap (λ m. m.0.admin) saw.0 ∙ c.args.admin.now.at_rest.1) c.requires.slot small room))

turned_role : (role p : ℕ) → role < 128 → p < 128 → (p + (1 + (role + 128 - p) % 128 * 16777216) * 8589934592 / 8589934592 / 16777216) % 128 ≡ role
turned_role role p small fits = omega arith

pub returns-clause-pinned : goal.returns-clause-pinned
returns-clause-pinned g c = let saw = c.load-word.ensures.2 in let did = c.fetch_add.ensures.2 in let word : ℕ = c.load-word.result in let p : ℕ = word / 2 / 4294967296 / 16777216 in
    let role : ℕ = c.args.role in
    let old = ap (λ m. last_role (roles_of c.args.slot m.0.changes)) saw.0 in
    let turned = turned_role role p c.requires.role (omega arith) in
    let gains = c.next_change.ensures in
    let is = did.1 ∙ ((λ i. (last_role (roles_of c.args.slot c.load-word.new.seat.me.0.changes) + gains i / 8589934592 / 16777216) % 128) ∙ ((λ i. ((old ∙ sym saw.2) i + (1 + (role + 128 - p) % 128 * 16777216) * 8589934592 / 8589934592 / 16777216) % 128) ∙ turned)) in
    let view_is = ap (λ m. m.0) did.0 ∙ (λ i. with_change c.args.slot (is i) (saw.0 i).0) in
    let more = ap (λ v. length (roles_of c.args.slot v.changes)) view_is ∙ (ap (λ (l : List ℕ). length l) (roles_more c.args.slot (admin_view c.args.admin.now).changes role) ∙ length-append (roles_of c.args.slot (admin_view c.args.admin.now).changes) (role ∷ [])) in
    let room : length (roles_of c.args.slot (admin_view c.args.admin.now).changes) < 16777215 = (let f = c.if-change-eq-LAST_CHANGE.false in let h = c.change-change.ensures in let a = saw.1 in let b = ap (λ m. length (roles_of c.args.slot m.0.changes)) saw.0 in omega arith) in
    (ap (λ d. d.changes) view_is, (let a = saw.1 in omega arith), room)
