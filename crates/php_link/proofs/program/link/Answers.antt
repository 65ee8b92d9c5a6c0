use Rattle.std.proofs.Common.{map, slice_get, ap, sym, subst, ◌∙◌}
use Rattle.php_state.specs.Linked.{path_of_file, AreApart}
use Rattle.php_link.proofs.Texts.{first_apart}
use Rattle.php_link.proofs.Linking.{paths_apart, is_link}
use Rattle.php_link.proofs.program.link.Goals as goal

pub linked_files-requires-clause-unnamed : goal.linked_files-requires-clause-unnamed
linked_files-requires-clause-unnamed c = ap (λ z. slice_get z 6) c.in_ok-names.ensures.first

pub paths_of-requires : goal.paths_of-requires
paths_of-requires c = subst (λ fs. AreApart (map path_of_file fs)) (sym c.as_slice.ensures) (paths_apart c.in_ok-names.names c.linked_files.new.names c.args.files.now c.in_ok-linked.linked c.requires c.in_ok-linked.ensures)

pub returns : goal.returns
returns c = is_link c.args.files.now c.in_ok-names.names c.linked_files.new.names c.in_ok-linked.linked c.in_ok-paths.paths c.requires c.in_ok-names.ensures.same c.in_ok-names.ensures.first first_apart (c.in_ok-paths.ensures ∙ ap (map path_of_file) c.as_slice.ensures) c.in_ok-linked.ensures
