-- What a run comes to that enters a file or function.
use Rattle.std.proofs.Common.{◌≡◌, ℕ, List, sym, ap, subst, ◌∙◌}
use Rattle.std.specs.Borrow.{Bor}
use Rattle.std.specs.declared.option.Option.{Option}
use Rattle.std.specs.declared.option.Option.TheVariants.{Some, None}
use Rattle.app_load.specs.Entries.{Entry, file}
use Rattle.app_load.specs.Parts.{body}
use Rattle.php_tree.specs.declared.stmt.Stmt.{Stmt}
use Rattle.php_world.specs.Naming.{Naming}
use Rattle.php_meaning.specs.declared.fatal.FatalName.TheVariants as name
use Rattle.php_meaning.specs.Course.{Enters, Then}
use Rattle.php_meaning.specs.Events.{Done, Fatal, Removed}
use Rattle.php_meaning.specs.Run.{Look}
use Rattle.php_meaning.specs.Statements.{file_statements, hoist}
use Rattle.php_meaning.specs.World.{World}
use Rattle.php_rest.specs.Named.{block_named}
use Rattle.php_rest.specs.Tails.{left_in}
use Rattle.php_rest.specs.Views.{entry_of}
use Rattle.php_rest.specs.declared.now.Now.TheVariants as now
use Rattle.php_rest.specs.declared.owner.Owner.{Owner}
use Rattle.php_rest.specs.declared.tail.Tail.{Tail}
use Rattle.php_tables.specs.declared.functions.Functions.{Functions}
use Rattle.php_stepping.specs.Alike.{with_functions, hoisted_or}
use Rattle.php_tally.specs.Comes.{comes_to, closed, file_comes, EntersAs}
use Rattle.php_tally.specs.declared.tally.Tally.{Tally}
use Rattle.php_tally.proofs.Enters.{removed}
use Rattle.php_bodies.specs.Look.{IsAt}
use Rattle.php_machine.specs.Whole.{whole, Continues}
use Rattle.php_machine.specs.declared.machine.Machine.{Machine}
use Rattle.php_machine.specs.declared.machine.Next.{Next}

module _ (look : Look) (t : Naming) (old new : Tally) (path : List ℕ) (ss slice : List Stmt) (fs gs : Functions) (line : Option ℕ) (w : World) (k : Then) where
  -- a file's statements come next
  pub file_entered : (tail : Tail Stmt) → EntersAs look old new (file path) → look (file path) ≡ Some (body (block_named t ss)) → slice ≡ ss → line ≡ None
      → hoisted_or line (with_functions t gs w) ≡ hoist path (block_named t slice) (with_functions t fs w) → left_in tail ≡ ss
      → comes_to look new (file_statements (block_named t (left_in tail)) (with_functions t gs w) k) ≡ comes_to look old (Enters (file path) (with_functions t fs w) k)
  file_entered tail enters at same none hoists behind =
      ap (λ l. comes_to look new (file_statements (block_named t l) (with_functions t gs w) k)) behind
      ∙ ap (λ o. file_comes look (closed new Done) new.left path (block_named t ss) (hoisted_or o (with_functions t gs w)) k) (sym none)
      ∙ ap (λ h. file_comes look (closed new Done) new.left path (block_named t ss) h k) (hoists ∙ ap (λ l. hoist path (block_named t l) (with_functions t fs w)) same)
      ∙ sym (enters (block_named t ss) (with_functions t fs w) k at)

  -- a declaration was refused
  pub file_refused : (n : ℕ) → EntersAs look old new (file path) → look (file path) ≡ Some (body (block_named t ss)) → slice ≡ ss → line ≡ Some n
      → hoisted_or line (with_functions t gs w) ≡ hoist path (block_named t slice) (with_functions t fs w)
      → closed new (Fatal name.Redeclared path n) ≡ comes_to look old (Enters (file path) (with_functions t fs w) k)
  file_refused n enters at same some hoists =
      ap (λ o. file_comes look (closed new Done) new.left path (block_named t ss) (hoisted_or o (with_functions t gs w)) k) (sym some)
      ∙ ap (λ h. file_comes look (closed new Done) new.left path (block_named t ss) h k) (hoists ∙ ap (λ l. hoist path (block_named t l) (with_functions t fs w)) same)
      ∙ sym (enters (block_named t ss) (with_functions t fs w) k at)

-- an owner by its form
pub entered_as : (look : Naming → Look) (old new : Machine) (o p : Owner) (ss : Bor (List Stmt)) (next : Next) → o ≡ p
    → (((t : Naming) → IsAt t (look t (entry_of p)) (Some ss)) → Continues look old new (now.Enter p) next)
    → ((t : Naming) → IsAt t (look t (entry_of o)) (Some ss)) → Continues look old new (now.Enter o) next
entered_as look old new o p ss next e law at = λ t fits. law (λ u. subst (λ x. IsAt u (look u (entry_of x)) (Some ss)) e (at u)) t fits ∙ ap (λ x. whole (look t) t old (now.Enter x)) (sym e)

-- statements that were found
pub entered_at : (look : Naming → Look) (old new : Machine) (o : Owner) (f : Option (Bor (List Stmt))) (ss : Bor (List Stmt)) (next : Next) → f ≡ Some ss
    → (((t : Naming) → IsAt t (look t (entry_of o)) (Some ss)) → Continues look old new (now.Enter o) next)
    → ((t : Naming) → IsAt t (look t (entry_of o)) f) → Continues look old new (now.Enter o) next
entered_at look old new o f ss next e law at = law (λ u. subst (λ x. IsAt u (look u (entry_of o)) x) e (at u))

-- nothing was found
pub not_entered : (look : Look) (t : Naming) (y : Tally) (e : Entry) (w : World) (k : Then) (f : Option (Bor (List Stmt))) → f ≡ None → IsAt t (look e) f → closed y (Removed e) ≡ comes_to look y (Enters e w k)
not_entered look t y e w k f none at = sym (removed look y e w k (subst (λ x. IsAt t (look e) x) none at))
