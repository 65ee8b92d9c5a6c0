-- Parts of a text, put in front of others one after the other.
use Rattle.std.proofs.Common.{◌≡◌, ℕ, List, [], ◌∷◌, ◌++◌, Option, Some, None, refl, ap, sym, ◌∙◌}
use Rattle.php_grammar.specs.Act.{filled}
use Rattle.php_tree.specs.declared.expr.Expr.{Expr}
use Rattle.php_tree.specs.declared.expr.QuotePart.{QuotePart}
use Rattle.php_tree.specs.declared.expr.QuotePart.TheVariants as q
use Rattle.php_tree.specs.ExpressionOf.{expression_of, key_of, parts_of}
use Rattle.php_tree.specs.Expressions as x
use Rattle.php_tree.specs.Expressions.{Expressions, QuoteParts}
use Rattle.php_building.specs.Quotes.{parts_before, part_before}

pub one_more : (ps : List (QuotePart Expr)) (p : QuotePart Expr) (rest : QuoteParts ℕ) → parts_before (ps ++ p ∷ []) rest ≡ parts_before ps (parts_before (p ∷ []) rest)
one_more [] p rest = refl
one_more (q.Bytes t ∷ ps) p rest = ap (x.part_bytes t) (one_more ps p rest)
one_more (q.Var w ∷ ps) p rest = ap (x.part_var w) (one_more ps p rest)
one_more (q.Index w key ∷ ps) p rest = ap (x.part_index w (key_of key)) (one_more ps p rest)
one_more (q.Property w name ∷ ps) p rest = ap (x.part_property w name) (one_more ps p rest)
one_more (q.Embedded e ∷ ps) p rest = ap (x.part_embedded (expression_of e)) (one_more ps p rest)

pub no_rest : (ps : List (QuotePart Expr)) → parts_before ps x.no_parts ≡ parts_of ps
no_rest [] = refl
no_rest (q.Bytes t ∷ ps) = ap (x.part_bytes t) (no_rest ps)
no_rest (q.Var w ∷ ps) = ap (x.part_var w) (no_rest ps)
no_rest (q.Index w key ∷ ps) = ap (x.part_index w (key_of key)) (no_rest ps)
no_rest (q.Property w name ∷ ps) = ap (x.part_property w name) (no_rest ps)
no_rest (q.Embedded e ∷ ps) = ap (x.part_embedded (expression_of e)) (no_rest ps)

-- a part that was put behind those that are done
pub step_some : (done : List (QuotePart Expr)) (p : QuotePart Expr) (before after whole : QuoteParts ℕ)
    → parts_before done before ≡ whole → before ≡ part_before (Some p) after → parts_before (done ++ p ∷ []) after ≡ whole
step_some done p before after whole f e = one_more done p after ∙ ap (parts_before done) (sym e) ∙ f

-- an expression that is missing
pub step_none : (done : List (QuotePart Expr)) (before after whole : QuoteParts ℕ)
    → parts_before done before ≡ whole → before ≡ part_before None after → parts_before done after ≡ whole
step_none done before after whole f e = ap (parts_before done) (sym e) ∙ f

pub at_end : (done : List (QuotePart Expr)) (left : List (QuotePart (Unit {0}))) (es : Expressions ℕ) (whole : QuoteParts ℕ)
    → left ≡ [] → parts_before done (filled left es) ≡ whole → parts_of done ≡ whole
at_end done left es whole e f = sym (no_rest done) ∙ ap (λ parts. parts_before done (filled parts es)) (sym e) ∙ f

pub ruleset quotes = (one_more, no_rest, step_some, step_none, at_end)
