-- The names of a file's variables, each once, in the order of their first tokens.
use denote.Ref.{Bor}
use Rattle.std.specs.Prelude.{ℕ, List, [], ◌∷◌, ◌++◌, drop, fold, flat_map, if◌then◌else◌}
use Rattle.std.specs.List.{list_any, position_or_len}
use Rattle.std.specs.Str.{bytes_eq}
use Rattle.php_tree.specs.declared.name.VarName.{VarName}
use Rattle.php_lexer.specs.Marks.{Mark}
use Rattle.php_lexer.specs.declared.kinds.Kind.{Kind}
use Rattle.php_lexer.specs.declared.kinds.Kind.TheVariants as kind
use Rattle.php_lexer.specs.declared.kinds.Part.{Part}
use Rattle.php_lexer.specs.declared.kinds.Part.TheVariants as part
use Rattle.php_lexer.specs.declared.kinds.IndexKey.{IndexKey}
use Rattle.php_lexer.specs.declared.kinds.IndexKey.TheVariants as key

abbrev pub Name : Type 0
Name = List ℕ

-- a name where it stands
abbrev pub pointed : Bor (List ℕ) → Name
pointed name = name.now

abbrev pub name_text : VarName → Name
name_text name = name.text

-- the number of a name: its place among the names, from 0; their count where it is none of them
abbrev pub number_in : List Name → Name → ℕ
number_in names name = position_or_len (bytes_eq name) names

-- the names with one more, unless it is among them
abbrev pub noted : List Name → Name → List Name
noted names name = if list_any (bytes_eq name) names then names else names ++ name ∷ []

abbrev pub noted_all : List Name → List Name → List Name
noted_all names more = fold noted names more

abbrev pub key_names : IndexKey → List Name
key_names (key.Plain text) = []
key_names (key.Var name) = name ∷ []

-- the variables in a part of a text with interpolation, without those of its embedded expressions
abbrev pub names_in : Part → List Name
names_in (part.Bytes bytes) = []
names_in (part.Var name) = name ∷ []
names_in (part.Index name key) = name ∷ key_names key
names_in (part.Property name property) = name ∷ []
names_in part.Embedded = []

abbrev pub part_names : List Part → List Name
part_names parts = flat_map names_in parts

-- the variables of a token of a kind; the name stands after the `$`
abbrev pub kind_names : Kind → List ℕ → List Name
kind_names kind.Var text = drop 1 text ∷ []
kind_names (kind.Quote parts) text = part_names parts
kind_names _ text = []

abbrev pub mark_names : Mark → List Name
mark_names m = kind_names m.kind m.text

abbrev pub names_from : List Name → List Mark → List Name
names_from names [] = names
names_from names (m ∷ ms) = names_from (noted_all names (mark_names m)) ms

-- the names of a file's variables
abbrev pub names_of : List Mark → List Name
names_of ms = names_from [] ms
