use Rattle.std.proofs.Common.{sym, ◌∙◌, ap, refl, Some, None}
use Rattle.order_map.specs.Arrays.{look, pairs_of}
use Rattle.php_values.specs.Data.{data_of}
use Rattle.php_values.specs.declared.value.Value.TheVariants.{Null}
use Rattle.php_world.specs.Steps.{key_at}
use Rattle.php_world.specs.View.{path_of}
use Rattle.php_world.proofs.Items.{in_array, item_there, data-Null}
use Rattle.php_world.proofs.read.+read.Goals as goal

pub read_index-returns-in-List : goal.read_index-returns-in-List
read_index-returns-in-List t c = in_array c.read_item.result c.args.how (path_of c.args.more.now) (data_of c.args.key.now) c.args.value.now c.in-List.array c.in-List.is c.read_item.ensures

pub read_item-returns-in-Some : goal.read_item-returns-in-Some
read_item-returns-in-Some t c =
    item_there c.read_value.result c.args.how (path_of c.args.more.now) (key_at (data_of c.args.key.now)) c.in_ok-key.key (Some c.in-Some.inner.now) (data_of c.in-Some.inner.now) c.args.array.now.map.value c.in_ok-key.ensures
    (c.in-Some.ensures ∙ ap (λ m. look c.in_ok-key.key (pairs_of m)) c.as_ref.ensures) refl c.read_value.ensures

pub read_item-returns : goal.read_item-returns
read_item-returns t c =
    item_there c.read_value-in-None.result c.args.how (path_of c.args.more.now) (key_at (data_of c.args.key.now)) c.in_ok-key.key None (data_of Null) c.args.array.now.map.value c.in_ok-key.ensures
    (c.in-None.ensures ∙ ap (λ m. look c.in_ok-key.key (pairs_of m)) c.as_ref.ensures) (sym data-Null) c.read_value-in-None.ensures
