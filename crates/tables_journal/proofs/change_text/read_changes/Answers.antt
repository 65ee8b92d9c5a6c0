use Rattle.std.proofs.Common.{◌≡◌, ◌∙◌, ◌++◌, ◌∷◌, [], ℕ, List, ap, sym, rules, arith}
use Rattle.std.proofs.lemmas.List.{append_assoc}
use Rattle.std.proofs.lemmas.List.Elements.{All-push}
use Rattle.tables_keeper.specs.declared.operation.Change.{Change}
use Rattle.tables_journal.specs.Journal.{change_text, changes_text, IsSound}
use Rattle.tables_journal.proofs.JournalLemmas.{changes_push}
use Rattle.tables_journal.proofs.change_text.read_changes.Goals as goal

pub loop-rest-preserved : goal.loop-rest-preserved
loop-rest-preserved c =
    let change = c.in_ok-change.change in
    let done = c.loop-rest.changes.items in
    let behind = c.in_ok-change.behind.now in
    let new : c.push.new.self.items ≡ done ++ change ∷ [] = search rules in
    record {
      text =
          c.loop-rest.invariant.text
          ∙ ap (λ (l : List ℕ). changes_text done ++ l) c.in_ok-change.ensures.found
          ∙ sym (append_assoc (changes_text done) (change_text change) behind)
          ∙ ap (λ (l : List ℕ). l ++ behind) (sym (changes_push done change))
          ∙ ap (λ (r : List Change). changes_text r ++ behind) (sym new);
      sound = rw new (All-push IsSound done change c.loop-rest.invariant.sound c.in_ok-change.ensures.sound);
    }
