-- Which words are reserved, in any case of their letters, by how many letters they have.
use Rattle.std.specs.Prelude.{ℕ, Bool, List, codes, length, ◌==◌, if◌then◌else◌}
use Rattle.std.specs.Str.{str_eq_ignore_ascii_case}
use Rattle.php_tree.specs.declared.decl.Visibility.TheVariants.{Public, Private, Protected}
use Rattle.php_tree.specs.declared.expr.ChainOp.TheVariants as op
use Rattle.php_tree.specs.declared.expr.IncludeKind.TheVariants as i
use Rattle.php_grammar.specs.declared.token.Kind.{Kind}
use Rattle.php_grammar.specs.declared.token.Kind.TheVariants as k
use Rattle.php_grammar.specs.declared.token.Detail.{Detail}
use Rattle.php_grammar.specs.declared.token.Detail.TheVariants as d

-- what a token is to the grammar
abbrev pub Sort : Type 0
Sort = Kind × Detail

abbrev pub is : List ℕ → List ℕ → Bool
is word name = str_eq_ignore_ascii_case word name

abbrev pub plain : Sort
plain = (k.Word, d.Only)

abbrev pub two_letters : List ℕ → Sort
two_letters w =
    if is w (codes "as") then (k.As, d.Only)
    else (if is w (codes "do") then (k.Do, d.Only)
    else (if is w (codes "if") then (k.If, d.Only)
    else (if is w (codes "or") then (k.Or, d.Chain op.LowOr)
    else plain)))

abbrev pub three_letters : List ℕ → Sort
three_letters w =
    if is w (codes "and") then (k.And, d.Chain op.LowAnd)
    else (if is w (codes "die") then (k.Exit, d.Only)
    else (if is w (codes "for") then (k.For, d.Only)
    else (if is w (codes "new") then (k.New, d.Only)
    else (if is w (codes "try") then (k.Try, d.Only)
    else (if is w (codes "use") then (k.LeftOut, d.Only)
    else (if is w (codes "var") then (k.VarWord, d.Only)
    else (if is w (codes "xor") then (k.Xor, d.Chain op.LowXor)
    else plain)))))))

abbrev pub four_letters : List ℕ → Sort
four_letters w =
    if is w (codes "case") then (k.Case, d.Only)
    else (if is w (codes "echo") then (k.Echo, d.Only)
    else (if is w (codes "else") then (k.Else, d.Only)
    else (if is w (codes "eval") then (k.LeftOut, d.Only)
    else (if is w (codes "exit") then (k.Exit, d.Only)
    else (if is w (codes "goto") then (k.LeftOut, d.Only)
    else (if is w (codes "list") then (k.LeftOut, d.Only)
    else plain))))))

abbrev pub five_letters : List ℕ → Sort
five_letters w =
    if is w (codes "array") then (k.Array, d.Only)
    else (if is w (codes "break") then (k.Jump, d.Break)
    else (if is w (codes "catch") then (k.Catch, d.Only)
    else (if is w (codes "class") then (k.Class, d.Only)
    else (if is w (codes "clone") then (k.Clone, d.Only)
    else (if is w (codes "const") then (k.Const, d.Only)
    else (if is w (codes "empty") then (k.Empty, d.Only)
    else (if is w (codes "endif") then (k.EndIf, d.Only)
    else (if is w (codes "final") then (k.Final, d.Only)
    else (if is w (codes "float") then (k.HintWord, d.Only)
    else (if is w (codes "isset") then (k.Isset, d.Only)
    else (if is w (codes "print") then (k.Print, d.Only)
    else (if is w (codes "throw") then (k.Throw, d.Only)
    else (if is w (codes "trait") then (k.LeftOut, d.Only)
    else (if is w (codes "unset") then (k.Unset, d.Only)
    else (if is w (codes "while") then (k.While, d.Only)
    else (if is w (codes "yield") then (k.LeftOut, d.Only)
    else plain))))))))))))))))

abbrev pub six_letters : List ℕ → Sort
six_letters w =
    if is w (codes "elseif") then (k.ElseIf, d.Only)
    else (if is w (codes "endfor") then (k.EndFor, d.Only)
    else (if is w (codes "global") then (k.Global, d.Only)
    else (if is w (codes "object") then (k.HintWord, d.Only)
    else (if is w (codes "public") then (k.Visibility, d.Visible Public)
    else (if is w (codes "return") then (k.Return, d.Only)
    else (if is w (codes "static") then (k.Static, d.Only)
    else (if is w (codes "switch") then (k.Switch, d.Only)
    else plain)))))))

abbrev pub seven_letters : List ℕ → Sort
seven_letters w =
    if is w (codes "declare") then (k.LeftOut, d.Only)
    else (if is w (codes "default") then (k.Default, d.Only)
    else (if is w (codes "extends") then (k.Extends, d.Only)
    else (if is w (codes "finally") then (k.LeftOut, d.Only)
    else (if is w (codes "foreach") then (k.Foreach, d.Only)
    else (if is w (codes "include") then (k.Include, d.Include i.Include)
    else (if is w (codes "private") then (k.Visibility, d.Visible Private)
    else (if is w (codes "require") then (k.Include, d.Include i.Require)
    else plain)))))))

abbrev pub eight_letters : List ℕ → Sort
eight_letters w =
    if is w (codes "abstract") then (k.Abstract, d.Only)
    else (if is w (codes "callable") then (k.LeftOut, d.Only)
    else (if is w (codes "continue") then (k.Jump, d.Continue)
    else (if is w (codes "endwhile") then (k.EndWhile, d.Only)
    else (if is w (codes "function") then (k.Function, d.Only)
    else (if is w (codes "iterable") then (k.HintWord, d.Only)
    else plain)))))

abbrev pub nine_letters : List ℕ → Sort
nine_letters w =
    if is w (codes "__class__") then (k.LeftOut, d.Only)
    else (if is w (codes "__trait__") then (k.LeftOut, d.Only)
    else (if is w (codes "endswitch") then (k.EndSwitch, d.Only)
    else (if is w (codes "insteadof") then (k.LeftOut, d.Only)
    else (if is w (codes "interface") then (k.Interface, d.Only)
    else (if is w (codes "namespace") then (k.LeftOut, d.Only)
    else (if is w (codes "protected") then (k.Visibility, d.Visible Protected)
    else plain))))))

abbrev pub ten_letters : List ℕ → Sort
ten_letters w =
    if is w (codes "__method__") then (k.LeftOut, d.Only)
    else (if is w (codes "enddeclare") then (k.LeftOut, d.Only)
    else (if is w (codes "endforeach") then (k.EndForeach, d.Only)
    else (if is w (codes "implements") then (k.Implements, d.Only)
    else (if is w (codes "instanceof") then (k.InstanceOf, d.Only)
    else plain))))

abbrev pub twelve_letters : List ℕ → Sort
twelve_letters w =
    if is w (codes "__function__") then (k.LeftOut, d.Only)
    else (if is w (codes "include_once") then (k.Include, d.Include i.IncludeOnce)
    else (if is w (codes "less_removed") then (k.Removed, d.Only)
    else (if is w (codes "require_once") then (k.Include, d.Include i.RequireOnce)
    else plain)))

abbrev pub thirteen_letters : List ℕ → Sort
thirteen_letters w =
    if is w (codes "__namespace__") then (k.LeftOut, d.Only)
    else plain

abbrev pub fifteen_letters : List ℕ → Sort
fifteen_letters w =
    if is w (codes "__halt_compiler") then (k.LeftOut, d.Only)
    else plain

-- the sort of a word
unfoldable pub word_sort : List ℕ → Sort
word_sort w =
    let n = length w in
    if n == 2 then two_letters w
    else (if n == 3 then three_letters w
    else (if n == 4 then four_letters w
    else (if n == 5 then five_letters w
    else (if n == 6 then six_letters w
    else (if n == 7 then seven_letters w
    else (if n == 8 then eight_letters w
    else (if n == 9 then nine_letters w
    else (if n == 10 then ten_letters w
    else (if n == 12 then twelve_letters w
    else (if n == 13 then thirteen_letters w
    else (if n == 15 then fifteen_letters w
    else plain)))))))))))
