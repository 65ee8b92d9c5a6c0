use Rattle.std.proofs.Common.{◌≡◌, ℕ, List, ap, sym, ◌∙◌}
use Rattle.php_values.specs.Data.{Data, ArrayData, data_of, data_step, array_step, bytes}
use Rattle.php_values.specs.declared.value.Value.{fold-roll-Value}
use Rattle.php_values.specs.declared.value.Value.TheOpen.{Value-F}
use Rattle.php_values.specs.declared.value.Value.TheVariants as kind
use Rattle.php_meaning.specs.Course.{Ticks}
use Rattle.php_meaning.specs.Calls as calls
use Rattle.php_meaning.specs.Expressions.{name_in}
use Rattle.php_rest.specs.Rest.{rest}
use Rattle.php_state.specs.Views.{world_of}
use Rattle.php_argument_steps.specs.Reached.{called_with}
use Rattle.php_argument_steps.proofs.begin.begin_call_var.Goals as goal

data-Bytes : (s : List ℕ) → data_of (kind.Bytes s) ≡ bytes s
data-Bytes s = ap data_of (sym (kind.rolls-Bytes s)) ∙ fold-roll-Value Data ArrayData data_step array_step (Value-F.Bytes s)

pub returns-in-Bytes-clause-law : goal.returns-in-Bytes-clause-law
returns-in-Bytes-clause-law c = λ how line t k.
    ap (Ticks (world_of t c.args.state.now))
    (c.in_ok-reached-in-Bytes.ensures.law t k
    ∙ ap (λ n. calls.sought n (called_with t c.args.args.now) (world_of t c.args.state.now) (rest t c.args.stack.now k)) c.as_slice.ensures
    ∙ ap (λ d. name_in (λ n. calls.sought n (called_with t c.args.args.now)) d (world_of t c.args.state.now) (rest t c.args.stack.now k))
    (sym (data-Bytes c.in-Bytes.name) ∙ ap data_of (sym c.in-Bytes.is) ∙ c.in_ok-name.ensures t))
