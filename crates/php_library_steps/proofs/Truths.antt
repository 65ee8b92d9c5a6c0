-- Truth values as data.
use Rattle.std.proofs.Common.{◌≡◌, Bool, sym, ap, ◌∙◌}
use Rattle.php_values.specs.declared.value.Value.{fold-roll-Value}
use Rattle.php_values.specs.declared.value.Value.TheOpen.{Value-F}
use Rattle.php_values.specs.declared.value.Value.TheVariants as kind
use Rattle.php_values.specs.Data.{Data, ArrayData, truth, data_of, data_step, array_step}

pub data-Bool : (b : Bool) → data_of (kind.Bool b) ≡ truth b
data-Bool b = ap data_of (sym (kind.rolls-Bool b)) ∙ fold-roll-Value Data ArrayData data_step array_step (Value-F.Bool b)
