-- Parameters get their values one after another.
use Rattle.std.proofs.Common.{◌≡◌, ◌+◌, List, [], ◌∷◌, ◌++◌, true, nat_lt, if◌then◌else◌, refl, sym, ap, ◌∙◌}
use Rattle.php_world.specs.Naming.{Naming}
use Rattle.php_world.specs.Variables.{Variables, entered}
use Rattle.php_world.specs.View.{vars_of}
use Rattle.php_world.specs.declared.store.Store.{Store}
use Rattle.php_meaning.specs.declared.fatal.FatalName.TheVariants as name
use Rattle.php_meaning.specs.World.{World}
use Rattle.php_meaning.specs.Course.{Enters, Then}
use Rattle.php_meaning.specs.Refusals.{fatal}
use Rattle.php_meaning.specs.Calls as calls
use Rattle.php_tables.specs.declared.function.Function.{Function}
use Rattle.php_rest.specs.Rest.{rest}
use Rattle.php_rest.specs.Views.{function_entry, function_named}
use Rattle.php_rest.specs.declared.owner.Owner.TheVariants as owner
use Rattle.php_rest.specs.declared.call_frame.CallFrame.TheVariants.{Caller}
use Rattle.php_rest.specs.declared.frame.Frame.{Frame}
use Rattle.php_rest.specs.declared.frame.Frame.TheVariants.{OfCall}
use Rattle.php_state.specs.Views.{world_of}
use Rattle.php_state.specs.declared.state.State.{State}
use Rattle.php_bindings.specs.Bounds.{bound_named, bounds_named}
use Rattle.php_bindings.specs.declared.bound.Bound.{Bound}

-- one parameter more
pub bind_more : (t : Naming) (vs : Variables) (bs : List Bound) (b : Bound)
    → calls.bind_all vs (bounds_named t (bs ++ b ∷ [])) ≡ calls.bind_one (calls.bind_all vs (bounds_named t bs)) (bound_named t b)
bind_more t vs [] b = refl
bind_more t vs (a ∷ bs) b = bind_more t (calls.bind_one vs (bound_named t a)) bs b

-- the world of a function's body, but for its variables
abbrev inside_with : Naming → State → Function → World
inside_with t old f = world_of t (record old { scene = record { owner = owner.Function f; depth = old.scene.depth + 1; file = old.scene.file; line = old.scene.line } })

-- a function is entered
pub entering : (t : Naming) (old : State) (f : Function) (bs : List Bound) (mid new : Store) (s s' : List Frame) (k : Then)
    → nat_lt old.scene.depth calls.max_depth ≡ true
    → vars_of t mid ≡ entered (vars_of t old.store) → vars_of t new ≡ calls.bind_all (vars_of t mid) (bounds_named t bs) → s' ≡ OfCall (Caller f old.scene) ∷ s
    → Enters (function_entry f) (world_of t (record old { store = new; scene = record { owner = owner.Function f; depth = old.scene.depth + 1; file = old.scene.file; line = old.scene.line } })) (rest t s' k)
    ≡ calls.enter (function_named t f) (bounds_named t bs) (world_of t old) (rest t s k)
entering t old f bs mid new s s' k less began all push =
    (λ i. Enters (function_entry f) (record (inside_with t old f) { vars = (all ∙ ap (λ vs. calls.bind_all vs (bounds_named t bs)) began) i }) (rest t (push i) k))
    ∙ (λ i. if sym less i then Enters (function_entry f) (calls.inside (function_named t f) (bounds_named t bs) (world_of t old)) (rest t (OfCall (Caller f old.scene) ∷ s) k) else fatal name.Depth (world_of t old) (rest t s k))
