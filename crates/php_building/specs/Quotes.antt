-- Parts of a text in front of others.
use Rattle.std.specs.Prelude.{ℕ, List, [], ◌∷◌, Option, Some, None}
use Rattle.php_tree.specs.declared.expr.Expr.{Expr}
use Rattle.php_tree.specs.declared.expr.QuotePart.{QuotePart}
use Rattle.php_tree.specs.declared.expr.QuotePart.TheVariants as q
use Rattle.php_tree.specs.ExpressionOf.{expression_of, key_of}
use Rattle.php_tree.specs.Expressions as x
use Rattle.php_tree.specs.Expressions.{QuoteParts}

abbrev pub parts_before : List (QuotePart Expr) → QuoteParts ℕ → QuoteParts ℕ
parts_before [] rest = rest
parts_before (q.Bytes t ∷ ps) rest = x.part_bytes t (parts_before ps rest)
parts_before (q.Var w ∷ ps) rest = x.part_var w (parts_before ps rest)
parts_before (q.Index w key ∷ ps) rest = x.part_index w (key_of key) (parts_before ps rest)
parts_before (q.Property w name ∷ ps) rest = x.part_property w name (parts_before ps rest)
parts_before (q.Embedded e ∷ ps) rest = x.part_embedded (expression_of e) (parts_before ps rest)

-- one that may be absent
abbrev pub part_before : Option (QuotePart Expr) → QuoteParts ℕ → QuoteParts ℕ
part_before None rest = rest
part_before (Some p) rest = parts_before (p ∷ []) rest
