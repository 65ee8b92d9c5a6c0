-- The bytes of a text in either of its forms.
use Rattle.std.specs.Prelude.{List, ℕ, take}
use Rattle.order_map.specs.declared.few.Few.{Few}
use Rattle.order_map.specs.declared.text.Form.{Form}
use Rattle.order_map.specs.declared.text.Form.TheVariants.{Short, Long}

-- the bytes that stand in the text itself
abbrev pub few_bytes : Few → List ℕ
few_bytes few = take few.len few.bytes

abbrev pub bytes_of : Form → List ℕ
bytes_of (Short few) = few_bytes few
bytes_of (Long shared) = shared.value.items
