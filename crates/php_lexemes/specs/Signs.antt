-- What signs and casts are to the grammar. Braces are told apart where the tokens are read in order.
use Rattle.php_lexer.specs.declared.kinds.Sign.{Sign}
use Rattle.php_lexer.specs.declared.kinds.Sign.TheVariants as s
use Rattle.php_lexer.specs.declared.kinds.Cast.{Cast}
use Rattle.php_lexer.specs.declared.kinds.Cast.TheVariants as c
use Rattle.php_tree.specs.declared.expr.ChainOp.TheVariants as op
use Rattle.php_tree.specs.declared.expr.CompareOp.TheVariants as compare
use Rattle.php_tree.specs.declared.expr.AssignOp.TheVariants as assign
use Rattle.php_tree.specs.declared.expr.UnaryOp.TheVariants as unary
use Rattle.php_grammar.specs.declared.token.Kind.TheVariants as k
use Rattle.php_grammar.specs.declared.token.Detail.TheVariants as d
use Rattle.php_lexemes.specs.Words.{Sort}

abbrev pub cast_sort : Cast → Sort
cast_sort c.Int = (k.Prefix, d.Unary unary.ToInt)
cast_sort c.Text = (k.Prefix, d.Unary unary.ToText)
cast_sort c.Bool = (k.Prefix, d.Unary unary.ToBool)
cast_sort c.Array = (k.Prefix, d.Unary unary.ToArray)

abbrev pub sign_sort : Sign → Sort
sign_sort s.Identical = (k.Equality, d.Compare compare.Identical)
sign_sort s.NotIdentical = (k.Equality, d.Compare compare.NotIdentical)
sign_sort s.Spaceship = (k.Equality, d.Compare compare.Order)
sign_sort s.Equal = (k.Equality, d.Compare compare.Equal)
sign_sort s.NotEqual = (k.Equality, d.Compare compare.NotEqual)
sign_sort s.LessGreater = (k.Equality, d.Compare compare.NotEqual)
sign_sort s.LessEqual = (k.Order, d.Compare compare.LessEqual)
sign_sort s.GreaterEqual = (k.Order, d.Compare compare.GreaterEqual)
sign_sort s.AndAnd = (k.AndAnd, d.Chain op.And)
sign_sort s.OrOr = (k.OrOr, d.Chain op.Or)
sign_sort s.Coalesce = (k.Coalesce, d.Only)
sign_sort s.PlusPlus = (k.Step, d.Increment)
sign_sort s.MinusMinus = (k.Step, d.Decrement)
sign_sort s.PlusAssign = (k.AssignOp, d.Assign assign.Add)
sign_sort s.MinusAssign = (k.AssignOp, d.Assign assign.Sub)
sign_sort s.StarAssign = (k.AssignOp, d.Assign assign.Mul)
sign_sort s.SlashAssign = (k.AssignOp, d.Assign assign.Div)
sign_sort s.DotAssign = (k.AssignOp, d.Assign assign.Join)
sign_sort s.PercentAssign = (k.AssignOp, d.Assign assign.Rem)
sign_sort s.DoubleArrow = (k.DoubleArrow, d.Only)
sign_sort s.Arrow = (k.Arrow, d.Only)
sign_sort s.DoubleColon = (k.DoubleColon, d.Only)
sign_sort s.Assign = (k.Assign, d.Only)
sign_sort s.Less = (k.Order, d.Compare compare.Less)
sign_sort s.Greater = (k.Order, d.Compare compare.Greater)
sign_sort s.Not = (k.Not, d.Unary unary.Not)
sign_sort s.Plus = (k.Sign, d.Plus)
sign_sort s.Minus = (k.Sign, d.Minus)
sign_sort s.Star = (k.Product, d.Chain op.Mul)
sign_sort s.Slash = (k.Product, d.Chain op.Div)
sign_sort s.Percent = (k.Product, d.Chain op.Rem)
sign_sort s.Dot = (k.Dot, d.Chain op.Join)
sign_sort s.Question = (k.Question, d.Only)
sign_sort s.Colon = (k.Colon, d.Only)
sign_sort s.Semicolon = (k.Semi, d.Only)
sign_sort s.Comma = (k.Comma, d.Only)
sign_sort s.ParenOpen = (k.ParenOpen, d.Only)
sign_sort s.ParenClose = (k.ParenClose, d.Only)
sign_sort s.BracketOpen = (k.BracketOpen, d.Only)
sign_sort s.BracketClose = (k.BracketClose, d.Only)
sign_sort s.BraceOpen = (k.BraceOpen, d.Only)
sign_sort s.BraceClose = (k.BraceClose, d.Only)
sign_sort s.Ampersand = (k.Amp, d.Only)
sign_sort s.Pipe = (k.Pipe, d.Only)
sign_sort s.At = (k.Prefix, d.Unary unary.Silence)
