-- What the code's values stand for.
use Rattle.std.specs.Prelude.{ℕ, List, [], ◌∷◌, map}
use Rattle.std.specs.declared.option.Option.{Option}
use Rattle.std.specs.declared.option.Option.TheVariants.{Some, None}
use Rattle.php_values.specs.Data.{Data, data_of}
use Rattle.php_world.specs.Answers.{Answer}
use Rattle.php_world.specs.Steps as steps
use Rattle.php_world.specs.Places.{put, grow}
use Rattle.php_world.specs.Variables.{Scope, Call, Variables, Binding, own, shared, call_with, variables_with, no_names, with_binding}
use Rattle.php_world.specs.Naming.{Naming}
use Rattle.php_world.specs.declared.step.Step.{Step}
use Rattle.php_world.specs.declared.step.Step.TheVariants.{At, Next, Member}
use Rattle.php_world.specs.declared.step.Change.{Change}
use Rattle.php_world.specs.declared.step.Change.TheVariants.{Put, Grow}
use Rattle.php_world.specs.declared.cell.Cell.TheVariants.{Lasting, Local}
use Rattle.php_world.specs.declared.cell.Held.{Held}
use Rattle.php_world.specs.declared.cell.Held.TheVariants.{Nothing, OwnLasting, OwnLocal, SharedLasting, SharedLocal}
use Rattle.php_world.specs.declared.scopes.Item.{Item}
use Rattle.php_world.specs.declared.scopes.Item.TheVariants.{Named, Begins}
use Rattle.php_world.specs.declared.store.Store.{Store}

abbrev pub step_of : Step → steps.Step
step_of (At key) = steps.at (data_of key)
step_of Next = steps.next
step_of (Member name) = steps.member name

abbrev pub path_of : List Step → List steps.Step
path_of path = map step_of path

abbrev pub change_of : Change → Data → Answer Data
change_of (Put value) = put (data_of value)
change_of (Grow more) = grow more

abbrev pub held_of : Held → Option Binding
held_of Nothing = None
held_of (OwnLasting n) = Some (own (Lasting n))
held_of (OwnLocal n) = Some (own (Local n))
held_of (SharedLasting n) = Some (shared (Lasting n))
held_of (SharedLocal n) = Some (shared (Local n))

-- the names of the newest call, from what was bound, the newest first
abbrev pub scope_at : (ℕ → List ℕ) → List Item → Scope
scope_at name [] = no_names
scope_at name (Named n b old ∷ items) = with_binding (name n) (held_of b) (scope_at name items)
scope_at name (Begins base ∷ items) = no_names

abbrev pub bind_newest : List ℕ → Option Binding → List Call → List Call
bind_newest name b [] = []
bind_newest name b (c ∷ cs) = call_with (with_binding name b c.scope) c.base ∷ cs

-- the calls, the newest first
abbrev pub calls_at : (ℕ → List ℕ) → List Item → List Call
calls_at name [] = []
calls_at name (Named n b old ∷ items) = bind_newest (name n) (held_of b) (calls_at name items)
calls_at name (Begins base ∷ items) = call_with no_names base ∷ calls_at name items

-- what a store stands for
abbrev pub vars_of : Naming → Store → Variables
vars_of t s = variables_with (map data_of s.lasting.items) (map data_of s.locals.items) (scope_at t.name s.globals) (calls_at t.name s.calls) (scope_at t.static s.statics)
