-- Small programs worked through the definitions: each trace is computed.
use Rattle.std.proofs.Common.{◌≡◌, ℕ, List, [], ◌∷◌, ◌++◌, refl}
use Rattle.std.specs.Prelude.{codes, pos}
use Rattle.php_text_calls.specs.TextCalls.{call_named}
use Rattle.std.specs.declared.option.Option.TheVariants.{Some, None}
use Rattle.app_load.specs.Entries.{Entry, file, function}
use Rattle.app_load.specs.Files.{Tree}
use Rattle.app_load.specs.Parts.{Part, Parts, body, stub}
use Rattle.php_tree.specs.declared.name.FunName.{FunName}
use Rattle.php_tree.specs.declared.expr.ChainOp.TheVariants as chain
use Rattle.php_tree.specs.declared.expr.AssignOp.TheVariants as set
use Rattle.php_tree.specs.declared.expr.IncludeKind.TheVariants as kind
use Rattle.php_tree.specs.declared.file.Span.{Span}
use Rattle.php_tree.specs.Expressions as e
use Rattle.php_tree.specs.Expressions.{Expression, Expressions}
use Rattle.php_tree.specs.Statements as s
use Rattle.php_tree.specs.Statements.{Head, Statement, Statements, Parameter}
use Rattle.php_values.specs.Data.{ArrayData, of_pairs, no_pairs}
use Rattle.php_meaning.specs.declared.fatal.FatalName.TheVariants as name
use Rattle.php_meaning.specs.Events.{Done, Removed, Budget, Fatal, Event, Tick, Enter, Out, Stop}
use Rattle.php_meaning.specs.World.{Name}
use Rattle.php_meaning.specs.Trace.{Input, trace}
use Rattle.php_meaning.specs.RunResult.{RunResult, result_of}

abbrev nothing_given : ArrayData
nothing_given = of_pairs no_pairs 0

abbrev pub index : List ℕ
index = codes "index.php"

abbrev pub input : Input
input = record { script = index; get = nothing_given; post = nothing_given; cookie = nothing_given; request = nothing_given; server = nothing_given }

abbrev pub one : Statement Name → Statements Name
one x = s.statement x s.no_more

abbrev pub only : Expression Name → Expressions Name
only x = e.expression x e.no_more

abbrev pub named : List ℕ → FunName
named t = record { text = t; line = 1 }

abbrev pub head : List ℕ → List (Parameter Name) → Head Name
head t ps = record { name = named t; parameters = ps; gives = None; line = 1 }

abbrev pub declares : List ℕ → List (Parameter Name) → Statement Name
declares t ps = s.function (s.with_body (head t ps) s.no_more (record { from = 0; to = 0 })) 1

abbrev pub calls : List ℕ → Expressions Name → Expression Name
calls t xs = e.call (named t) xs 1

abbrev enters : List ℕ → Event
enters t = Enter (function index t)

-- ---- `f(); function f() { echo 'x'; }`

abbrev called_first : Part → Parts
called_first p = (file index, body (s.statement (s.evaluate (calls (codes "f") e.no_more) 1) (one (declares (codes "f") [])))) ∷ (function index (codes "f"), p) ∷ []

abbrev says_x : Part
says_x = body (one (s.echo (only (e.text (codes "x") 1)) 1))

-- a placeholder costs no tick
removed_at_2 : trace (called_first stub) input 2 ≡ Enter (file index) ∷ Tick ∷ Tick ∷ Stop (Removed (function index (codes "f"))) ∷ []
removed_at_2 = refl

removed_at_1 : trace (called_first stub) input 1 ≡ Enter (file index) ∷ Tick ∷ Stop Budget ∷ []
removed_at_1 = refl

kept_at_2 : trace (called_first says_x) input 2 ≡ Enter (file index) ∷ Tick ∷ Tick ∷ enters (codes "f") ∷ Stop Budget ∷ []
kept_at_2 = refl

kept_at_3 : trace (called_first says_x) input 3 ≡ Enter (file index) ∷ Tick ∷ Tick ∷ enters (codes "f") ∷ Tick ∷ Out (codes "x") ∷ Stop Budget ∷ []
kept_at_3 = refl

kept_at_4 : trace (called_first says_x) input 4 ≡ Enter (file index) ∷ Tick ∷ Tick ∷ enters (codes "f") ∷ Tick ∷ Out (codes "x") ∷ Tick ∷ Stop Done ∷ []
kept_at_4 = refl

-- ---- a file that was removed

removed_file : trace ((file index, stub) ∷ []) input 9 ≡ Stop (Removed (file index)) ∷ []
removed_file = refl

-- ---- `echo include_once 'one.php', ',', include_once 'one.php', ',', include 'no.php', ';'; require 'no.php';`

abbrev once : Expression Name
once = e.included kind.IncludeOnce (e.text (codes "one.php") 1) 1

abbrev included_parts : Parts
included_parts = (
  file index,
  body (s.statement (s.echo (e.expression once (e.expression (e.text (codes ",") 1) (e.expression once (e.expression (e.text (codes ",") 1)
      (e.expression (e.included kind.Include (e.text (codes "no.php") 1) 1) (only (e.text (codes ";") 1))))))) 1)
      (one (s.evaluate (e.included kind.Require (e.text (codes "no.php") 1) 1) 1))),
)
    ∷ (file (codes "one.php"), body (one (s.return (Some (e.text (codes "5") 1)) 1))) ∷ []

includes : result_of (trace included_parts input 100) ≡ record {
  output = codes "5,1,;";
  headers = [];
  status = 200;
  entries = file index ∷ file (codes "one.php") ∷ [];
  end = Fatal name.Missing index 1;
}
includes = refl

-- ---- `$a = 'x'; $b = &$a; $b .= 'y'; echo $a;`

abbrev pub var : List ℕ → Expression Name
var t = e.var t 1

references : result_of (trace ((
  file index,
  body (s.statement (s.evaluate (e.assign (var (codes "a")) set.Set (e.text (codes "x") 1) 1) 1)
      (s.statement (s.evaluate (e.assign_reference (codes "b") (codes "a") 1) 1)
      (s.statement (s.evaluate (e.assign (var (codes "b")) set.Join (e.text (codes "y") 1) 1) 1)
      (one (s.echo (only (var (codes "a"))) 1))))),
) ∷ []) input 100) ≡ record {
  output = codes "xy";
  headers = [];
  status = 200;
  entries = file index ∷ [];
  end = Done;
}
references = refl
