use Rattle.std.proofs.Common.{rules, ◌≡◌, ℕ, ◌++◌, List, Option, sym, ap, ◌∙◌, subst, append-nil}
use Rattle.turn_store.specs.declared.view.Item.{Item}
use Rattle.turn_store.specs.declared.view.Change.{Change}
use Rattle.turn_store.specs.declared.view.View.{View}
use Rattle.turn_store.specs.Histories.{LegalHistory}
use Rattle.turn_store.specs.Passes.{view, admin_view}
use Rattle.turn_store.proofs.Ending.{ends}
use Rattle.turn_store.proofs.Joining.{rules as rules_too}
use Rattle.turn_store.proofs.store.SharedTurns.close.Goals as goal

pub join_seat-requires : goal.join_seat-requires
join_seat-requires g c = (search rules, search rules, search rules, search rules, rules_too _ _ _ _ _ _ c.args.admin.at_rest.1 c.args.admin.at_rest.3)

pub returns-clause-history : goal.returns-clause-history
returns-clause-history g c = let now = c.join_seat.ensures.2 in let d : View g.row.V.Denot = c.join_seat.new.seat.me.0 in
    let items : d.items ≡ (view c.args.pass).items = ap (λ m. m.0.items) now ∙ (ap (λ l. (view c.args.pass).items ++ l) c.args.admin.at_rest.2 ∙ append-nil (view c.args.pass).items) in
    let changes : d.changes ≡ (admin_view c.args.admin).changes = ap (λ m. m.0.changes) now in
    let end = ends c.args.self.board.shared.key.first c.args.self.board.shared.key.values.value.items c.join_seat.new.seat.id d (ap (λ m. m.0.admin) now) _ _ c.close_with-closed.ensures.values.2 in
    let P : List (Item g.row.V.Denot) × List Change × List ℕ × List (Option g.row.V.Denot) → Type 0 = λ z. LegalHistory c.args.self.board.shared.key.first c.args.self.board.shared.key.values.value.items z.0 z.1 z.2 z.3 in
    subst P (λ i. (items i, changes i, sym c.read_words.ensures i, sym c.take_values.ensures.values i)) end
