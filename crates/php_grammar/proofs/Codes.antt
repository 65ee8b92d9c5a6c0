-- A kind is known by its number.
use Rattle.std.proofs.Common.{◌≡◌, ℕ, List, Option, Some, None, slice_get, refl, ap, sym, ◌∙◌}
use Rattle.php_grammar.specs.declared.token.Kind.{Kind}
use Rattle.php_grammar.specs.declared.token.Kind.TheVariants as k
use Rattle.php_grammar.specs.Kinds.{code, kinds}

kind_at : (j : Kind) → slice_get kinds (code j) ≡ Some j
kind_at k.Word = refl
kind_at k.HintWord = refl
kind_at k.Abstract = refl
kind_at k.And = refl
kind_at k.Array = refl
kind_at k.As = refl
kind_at k.Jump = refl
kind_at k.Case = refl
kind_at k.Catch = refl
kind_at k.Class = refl
kind_at k.Clone = refl
kind_at k.Const = refl
kind_at k.Default = refl
kind_at k.Exit = refl
kind_at k.Do = refl
kind_at k.Echo = refl
kind_at k.Else = refl
kind_at k.ElseIf = refl
kind_at k.Empty = refl
kind_at k.EndFor = refl
kind_at k.EndForeach = refl
kind_at k.EndIf = refl
kind_at k.EndSwitch = refl
kind_at k.EndWhile = refl
kind_at k.Extends = refl
kind_at k.Final = refl
kind_at k.For = refl
kind_at k.Foreach = refl
kind_at k.Function = refl
kind_at k.Global = refl
kind_at k.If = refl
kind_at k.Implements = refl
kind_at k.Include = refl
kind_at k.InstanceOf = refl
kind_at k.Interface = refl
kind_at k.Isset = refl
kind_at k.Removed = refl
kind_at k.New = refl
kind_at k.Or = refl
kind_at k.Print = refl
kind_at k.Visibility = refl
kind_at k.Return = refl
kind_at k.Static = refl
kind_at k.Switch = refl
kind_at k.Throw = refl
kind_at k.Try = refl
kind_at k.Unset = refl
kind_at k.VarWord = refl
kind_at k.While = refl
kind_at k.Xor = refl
kind_at k.LeftOut = refl
kind_at k.Equality = refl
kind_at k.Order = refl
kind_at k.AndAnd = refl
kind_at k.OrOr = refl
kind_at k.Coalesce = refl
kind_at k.Step = refl
kind_at k.AssignOp = refl
kind_at k.Assign = refl
kind_at k.DoubleArrow = refl
kind_at k.Arrow = refl
kind_at k.DoubleColon = refl
kind_at k.Not = refl
kind_at k.Sign = refl
kind_at k.Dot = refl
kind_at k.Product = refl
kind_at k.Question = refl
kind_at k.Colon = refl
kind_at k.Semi = refl
kind_at k.Comma = refl
kind_at k.ParenOpen = refl
kind_at k.ParenClose = refl
kind_at k.BracketOpen = refl
kind_at k.BracketClose = refl
kind_at k.BraceOpen = refl
kind_at k.BraceClose = refl
kind_at k.Amp = refl
kind_at k.Pipe = refl
kind_at k.Prefix = refl
kind_at k.Inline = refl
kind_at k.EchoTag = refl
kind_at k.Var = refl
kind_at k.This = refl
kind_at k.Int = refl
kind_at k.Text = refl
kind_at k.Quote = refl
kind_at k.QuoteOpen = refl
kind_at k.QuoteNext = refl
kind_at k.QuoteClose = refl
kind_at k.End = refl

some_same : {i j : Kind} → Some i ≡ Some j → i ≡ j
some_same e = cc

pub same_kind : (i j : Kind) → code i ≡ code j → i ≡ j
same_kind i j e = some_same (sym (kind_at i) ∙ ap (slice_get kinds) e ∙ kind_at j)
