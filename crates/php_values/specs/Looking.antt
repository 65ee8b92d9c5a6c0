-- Values that are looked at, as data.
use Rattle.std.specs.declared.option.Option.{Option}
use Rattle.std.specs.declared.option.Option.TheVariants.{Some, None}
use Rattle.std.specs.Borrow.{Bor}
use Rattle.order_map.specs.MapView.{MapView}
use Rattle.php_values.specs.declared.value.Value.{Value}
use Rattle.php_values.specs.declared.seen.Seen.{Seen}
use Rattle.php_values.specs.declared.seen.Seen.TheVariants as kind
use Rattle.php_values.specs.Data.{Data, null, truth, int, bytes, array, object, ArrayData, array_of, data_of}

abbrev pub seen_data : Seen → Data
seen_data kind.Null = null
seen_data (kind.Truth b) = truth b
seen_data (kind.Int n) = int n
seen_data (kind.Text t) = bytes t.now
seen_data (kind.Array m) = array (array_of m.now)
seen_data (kind.Object n) = object n

-- the data of a value that may be missing
abbrev pub optional : Option (Bor Value) → Option Data
optional None = None
optional (Some v) = Some (data_of v.now)

-- the pair of arrays that two values are, where both are arrays
abbrev pub with_array : ArrayData → Data → Option (ArrayData × ArrayData)
with_array a (array b) = Some (a, b)
with_array a null = None
with_array a (truth b) = None
with_array a (int n) = None
with_array a (bytes t) = None
with_array a (object n) = None

abbrev pub two_arrays : Data → Data → Option (ArrayData × ArrayData)
two_arrays (array a) d = with_array a d
two_arrays null d = None
two_arrays (truth b) d = None
two_arrays (int n) d = None
two_arrays (bytes t) d = None
two_arrays (object n) d = None

abbrev pub arrays_seen : Option (Bor (MapView Value) × Bor (MapView Value)) → Option (ArrayData × ArrayData)
arrays_seen None = None
arrays_seen (Some p) = Some (array_of p.0.now, array_of p.1.now)
