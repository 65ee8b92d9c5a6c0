-- What is run: a table from each entry to a file's tree or to a function's body, each with the bodies of the functions inside
-- it taken out. Lines stay; the places of bodies and ordinals do not. In a copy a placeholder stands for what was removed.
use Rattle.std.specs.Prelude.{ℕ, List, [], ◌∷◌, ◌++◌, map, Option, Some, None, if◌then◌else◌}
use Rattle.std.specs.List.{flat_map}
use Rattle.php_tree.specs.Statements as s
use Rattle.php_tree.specs.Parts.{all_without_bodies, bodies_in}
use Rattle.app_load.specs.Entries.{Entry, file, function, is_same}
use Rattle.app_load.specs.Files.{Tree, File}

-- the statements of a file or a body, or that they were removed
pub data Part : Type 0 where
  body : Tree → Part
  stub : Part

abbrev pub Parts : Type 0
Parts = List (Entry × Part)

-- a placeholder is one statement that stands alone
abbrev pub part_of : Tree → Part
part_of (s.statement (s.removed kind path name l) s.no_more) = stub
part_of ss = body ss

abbrev pub body_entry : List ℕ → List ℕ × Tree → Entry × Part
body_entry path (name, ss) = (function path name, part_of ss)

-- a file's tree, and then its bodies in text order
abbrev pub tree_parts : List ℕ → Tree → Parts
tree_parts path ss = (file path, part_of (all_without_bodies ss)) ∷ map (body_entry path) (bodies_in ss)

-- a file that is no PHP file has no parts
abbrev pub parts_or_none : List ℕ → Option Tree → Parts
parts_or_none path None = []
parts_or_none path (Some ss) = tree_parts path ss

abbrev pub file_parts : File → Parts
file_parts f = parts_or_none f.path f.tree

-- the parts of an application or of a copy
abbrev pub parts : List File → Parts
parts files = flat_map file_parts files

-- what stands at an entry; `None` where there is no such entry
abbrev pub part_at : Parts → Entry → Option Part
part_at [] e = None
part_at ((d, p) ∷ ps) e = if is_same d e then Some p else part_at ps e
