-- The kinds by number, so that a table may be searched.
use Rattle.std.specs.Prelude.{ℕ, Bool, true, false, List, [], ◌∷◌, ◌==◌, if◌then◌else◌}
use Rattle.php_grammar.specs.declared.token.Kind.{Kind}
use Rattle.php_grammar.specs.declared.token.Kind.TheVariants as k

abbrev pub code : Kind → ℕ
code k.Word = 0
code k.HintWord = 1
code k.Abstract = 2
code k.And = 3
code k.Array = 4
code k.As = 5
code k.Jump = 6
code k.Case = 7
code k.Catch = 8
code k.Class = 9
code k.Clone = 10
code k.Const = 11
code k.Default = 12
code k.Exit = 13
code k.Do = 14
code k.Echo = 15
code k.Else = 16
code k.ElseIf = 17
code k.Empty = 18
code k.EndFor = 19
code k.EndForeach = 20
code k.EndIf = 21
code k.EndSwitch = 22
code k.EndWhile = 23
code k.Extends = 24
code k.Final = 25
code k.For = 26
code k.Foreach = 27
code k.Function = 28
code k.Global = 29
code k.If = 30
code k.Implements = 31
code k.Include = 32
code k.InstanceOf = 33
code k.Interface = 34
code k.Isset = 35
code k.Removed = 36
code k.New = 37
code k.Or = 38
code k.Print = 39
code k.Visibility = 40
code k.Return = 41
code k.Static = 42
code k.Switch = 43
code k.Throw = 44
code k.Try = 45
code k.Unset = 46
code k.VarWord = 47
code k.While = 48
code k.Xor = 49
code k.LeftOut = 50
code k.Equality = 51
code k.Order = 52
code k.AndAnd = 53
code k.OrOr = 54
code k.Coalesce = 55
code k.Step = 56
code k.AssignOp = 57
code k.Assign = 58
code k.DoubleArrow = 59
code k.Arrow = 60
code k.DoubleColon = 61
code k.Not = 62
code k.Sign = 63
code k.Dot = 64
code k.Product = 65
code k.Question = 66
code k.Colon = 67
code k.Semi = 68
code k.Comma = 69
code k.ParenOpen = 70
code k.ParenClose = 71
code k.BracketOpen = 72
code k.BracketClose = 73
code k.BraceOpen = 74
code k.BraceClose = 75
code k.Amp = 76
code k.Pipe = 77
code k.Prefix = 78
code k.Inline = 79
code k.EchoTag = 80
code k.Var = 81
code k.This = 82
code k.Int = 83
code k.Text = 84
code k.Quote = 85
code k.QuoteOpen = 86
code k.QuoteNext = 87
code k.QuoteClose = 88
code k.End = 89

-- all kinds, in the order of their numbers
abbrev pub kinds : List Kind
kinds = k.Word ∷ k.HintWord ∷ k.Abstract ∷ k.And ∷ k.Array ∷ k.As ∷ k.Jump ∷ k.Case ∷ k.Catch ∷ k.Class ∷ k.Clone ∷ k.Const ∷ k.Default ∷ k.Exit ∷ k.Do ∷ k.Echo ∷ k.Else ∷ k.ElseIf ∷ k.Empty ∷ k.EndFor ∷ k.EndForeach ∷ k.EndIf ∷ k.EndSwitch ∷ k.EndWhile ∷ k.Extends ∷ k.Final ∷ k.For ∷ k.Foreach ∷ k.Function ∷ k.Global ∷ k.If ∷ k.Implements ∷ k.Include ∷ k.InstanceOf ∷ k.Interface ∷ k.Isset ∷ k.Removed ∷ k.New ∷ k.Or ∷ k.Print ∷ k.Visibility ∷ k.Return ∷ k.Static ∷ k.Switch ∷ k.Throw ∷ k.Try ∷ k.Unset ∷ k.VarWord ∷ k.While ∷ k.Xor ∷ k.LeftOut ∷ k.Equality ∷ k.Order ∷ k.AndAnd ∷ k.OrOr ∷ k.Coalesce ∷ k.Step ∷ k.AssignOp ∷ k.Assign ∷ k.DoubleArrow ∷ k.Arrow ∷ k.DoubleColon ∷ k.Not ∷ k.Sign ∷ k.Dot ∷ k.Product ∷ k.Question ∷ k.Colon ∷ k.Semi ∷ k.Comma ∷ k.ParenOpen ∷ k.ParenClose ∷ k.BracketOpen ∷ k.BracketClose ∷ k.BraceOpen ∷ k.BraceClose ∷ k.Amp ∷ k.Pipe ∷ k.Prefix ∷ k.Inline ∷ k.EchoTag ∷ k.Var ∷ k.This ∷ k.Int ∷ k.Text ∷ k.Quote ∷ k.QuoteOpen ∷ k.QuoteNext ∷ k.QuoteClose ∷ k.End ∷ []

-- the kinds of words, any of which may name a member
abbrev pub words : List Kind
words = k.Word ∷ k.HintWord ∷ k.Abstract ∷ k.And ∷ k.Array ∷ k.As ∷ k.Jump ∷ k.Case ∷ k.Catch ∷ k.Class ∷ k.Clone ∷ k.Const ∷ k.Default ∷ k.Exit ∷ k.Do ∷ k.Echo ∷ k.Else ∷ k.ElseIf ∷ k.Empty ∷ k.EndFor ∷ k.EndForeach ∷ k.EndIf ∷ k.EndSwitch ∷ k.EndWhile ∷ k.Extends ∷ k.Final ∷ k.For ∷ k.Foreach ∷ k.Function ∷ k.Global ∷ k.If ∷ k.Implements ∷ k.Include ∷ k.InstanceOf ∷ k.Interface ∷ k.Isset ∷ k.Removed ∷ k.New ∷ k.Or ∷ k.Print ∷ k.Visibility ∷ k.Return ∷ k.Static ∷ k.Switch ∷ k.Throw ∷ k.Try ∷ k.Unset ∷ k.VarWord ∷ k.While ∷ k.Xor ∷ k.LeftOut ∷ []

-- one of the kinds has that number
abbrev pub holds : ℕ → List Kind → Bool
holds n [] = false
holds n (k ∷ ks) = if code k == n then true else holds n ks
