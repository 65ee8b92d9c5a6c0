use Rattle.std.proofs.Common.{map, ap, sym, subst, ◌∙◌}
use Rattle.php_state.specs.Linked.{text_of_name, AreApart}
use Rattle.php_link.proofs.Texts.{first_apart}
use Rattle.php_link.proofs.names.first.Goals as goal

pub table_of-requires : goal.table_of-requires
table_of-requires c = subst AreApart (sym (ap (map text_of_name) c.as_slice.ensures ∙ c.in_ok-list.ensures)) first_apart
