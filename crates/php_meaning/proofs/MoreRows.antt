-- More small programs, each worked through the definitions to what it comes to.
use Rattle.std.proofs.Common.{◌≡◌, ℕ, List, [], ◌∷◌, ◌++◌, Bool, true, false, refl}
use Rattle.std.specs.Prelude.{codes, pos, negsuc}
use Rattle.std.specs.Fmt.{digits}
use Rattle.php_text_calls.specs.TextCalls.{call_named, text_answer}
use Rattle.php_list_calls.specs.ListCalls.{list_answer}
use Rattle.php_values.specs.Convert.{leading_number, is_numeric, normal_number}
use Rattle.std.specs.declared.option.Option.{Option}
use Rattle.std.specs.declared.option.Option.TheVariants.{Some, None}
use Rattle.app_load.specs.Entries.{Entry, file, function}
use Rattle.app_load.specs.Files.{Tree}
use Rattle.app_load.specs.Parts.{Part, Parts, body, stub}
use Rattle.php_tree.specs.declared.name.ConstName.{ConstName}
use Rattle.php_tree.specs.declared.name.ClassName.{ClassName}
use Rattle.php_tree.specs.declared.decl.Hint.{Hint}
use Rattle.php_tree.specs.declared.expr.ChainOp.TheVariants as chain
use Rattle.php_tree.specs.declared.expr.CompareOp.TheVariants as compare
use Rattle.php_tree.specs.declared.expr.AssignOp.TheVariants as set
use Rattle.php_tree.specs.declared.expr.StepOp.TheVariants as step
use Rattle.php_tree.specs.declared.expr.UnaryOp.TheVariants as unary
use Rattle.php_tree.specs.Expressions as e
use Rattle.php_tree.specs.Expressions.{Expression, Expressions}
use Rattle.php_tree.specs.Statements as s
use Rattle.php_tree.specs.Statements.{Head, Statement, Statements, Parameter}
use Rattle.php_meaning.specs.declared.fatal.FatalName.TheVariants as name
use Rattle.php_meaning.specs.Events.{End, Done, Removed, Budget, Fatal, Event}
use Rattle.php_meaning.specs.World.{Name}
use Rattle.php_meaning.specs.Trace.{trace}
use Rattle.php_meaning.specs.RunResult.{RunResult, result_of}
use Rattle.php_meaning.proofs.Rows.{index, input, one, only, named, head, declares, calls, var}

-- what a program comes to: its output and its end
abbrev Comes : Parts → ℕ → List ℕ → End → Type 0
Comes parts budget output end = (result_of (trace parts input budget)).output ≡ output × (result_of (trace parts input budget)).end ≡ end

abbrev script : Tree → Parts
script ss = (file index, body ss) ∷ []

abbrev then : Statement Name → Statements Name → Statements Name
then = s.statement

abbrev int : ℕ → Expression Name
int n = e.int (pos n) 1

abbrev text : List ℕ → Expression Name
text t = e.text t 1

abbrev sets : List ℕ → Expression Name → Statement Name
sets x v = s.evaluate (e.assign (var x) set.Set v 1) 1

abbrev says : Expression Name → Statement Name
says x = s.echo (only x) 1

abbrev at_key : List ℕ → Expression Name → Expression Name
at_key x k = e.post (var x) (e.index k e.no_accesses) 1

abbrev joined : Expression Name → Expression Name → Expression Name
joined x y = e.chain x (e.link chain.Join y e.no_links) 1

abbrev a : List ℕ
a = codes "a"

abbrev b : List ℕ
b = codes "b"

-- `echo "a" . 1 + 2;`
joins_first : Comes (script (one (says (e.chain (text a) (e.link chain.Join (int 1) (e.link chain.Add (int 2) e.no_links)) 1)))) 9 (codes "2") Done
unfolding digits leading_number is_numeric normal_number
joins_first = (refl, refl)

-- `echo 7 % -3, ',', PHP_INT_MIN % -1; echo PHP_INT_MAX + 1;`
abbrev max_int : Expression Name
max_int = e.constant (record { text = codes "PHP_INT_MAX" }) 1

abbrev min_int : Expression Name
min_int = e.constant (record { text = codes "PHP_INT_MIN" }) 1

abbrev minus : ℕ → Expression Name
minus n = e.unary unary.Minus (int n) 1

remainders : Comes (script (then (s.echo (e.expression (e.chain (int 7) (e.link chain.Rem (minus 3) e.no_links) 1) (e.expression (text (codes ",")) (only (e.chain min_int (e.link chain.Rem (minus 1) e.no_links) 1)))) 1)
    (one (says (e.chain max_int (e.link chain.Add (int 1) e.no_links) 1))))) 9 (codes "1,0") (Fatal name.Float index 1)
unfolding digits leading_number is_numeric normal_number
remainders = (refl, refl)

-- `$a = ['x', 'y']; foreach ($a as $b) { $a[] = $b; echo $b; } echo $a[3];`
walks_the_old_array : Comes (script (then (sets a (e.array (e.item (text (codes "x")) (e.item (text (codes "y")) e.no_items)) 1))
    (then (s.foreach (var a) None b (then (s.evaluate (e.assign (e.post (var a) (e.append e.no_accesses) 1) set.Set (var b) 1) 1) (one (says (var b)))) 1)
    (one (says (at_key a (int 3))))))) 50 (codes "xyy") Done
walks_the_old_array = (refl, refl)

-- `$a = 'x'; unset($a); echo isset($a) ? 'y' : 'n';`
unset_variables : Comes (script (then (sets a (text (codes "x"))) (then (s.unset (only (var a)) 1)
    (one (says (e.choice (e.isset (only (var a)) 1) (e.full (text (codes "y")) (text (codes "n")) e.no_branches) 1)))))) 50 (codes "n") Done
unset_variables = (refl, refl)

-- `$a = ['8' => 'x', '08' => 'y', true => 'z', null => 'n']; unset($a[8]); $a[] = 'w'; foreach ($a as $k => $v) echo "$k=$v;";`
keys : Comes (script (then (sets a (e.array (e.pair (text (codes "8")) (text (codes "x")) (e.pair (text (codes "08")) (text (codes "y"))
    (e.pair (e.constant (record { text = codes "true" }) 1) (text (codes "z")) (e.pair (e.constant (record { text = codes "null" }) 1) (text (codes "n")) e.no_items)))) 1))
    (then (s.unset (only (at_key a (int 8))) 1)
    (then (s.evaluate (e.assign (e.post (var a) (e.append e.no_accesses) 1) set.Set (text (codes "w")) 1) 1)
    (one (s.foreach (var a) (Some (codes "k")) (codes "v") (one (says (e.quote (e.part_var (codes "k") (e.part_bytes (codes "=") (e.part_var (codes "v") (e.part_bytes (codes ";") e.no_parts)))) 1))) 1)))))) 50 (codes "08=y;1=z;=n;9=w;") Done
unfolding digits leading_number is_numeric normal_number
keys = (refl, refl)

-- `for ($a = 0; $a < 3; $a++) { switch ($a) { case 1: continue; default: echo $a; } echo 'x'; if ($a == 1) break; }`
loops : Comes (script (one (s.for_loop (only (e.assign (var a) set.Set (int 0) 1)) (only (e.compare (var a) compare.Less (int 3) 1)) (only (e.step step.IncrementAfter (var a) 1))
    (then (s.switch (var a) (s.case (int 1) (one (s.continue (pos 1) 1)) (s.default_case (one (says (var a))) s.no_cases)) 1)
    (then (says (text (codes "x")))
    (one (s.conditional (s.arm (e.compare (var a) compare.Equal (int 1) 1) (one (s.break (pos 1) 1)) s.no_arms) s.no_more 1)))) 1))) 50 (codes "0xx") Done
unfolding digits leading_number is_numeric normal_number
loops = (refl, refl)

abbrev param : List ℕ → Bool → Parameter Name
param x by_reference = record { hint = None; by_reference = by_reference; variable = x; default = None; line = 1 }

abbrev f : List ℕ
f = codes "f"

abbrev with_f : List (Parameter Name) → Tree → Tree → Parts
with_f ps ss main = (file index, body (then (declares f ps) main)) ∷ (function index f, body ss) ∷ []

-- `function f(&$a, $b) { $a = $b; $b = 'z'; static $n = 0; $n++; return $n; } $b = 'y'; echo f($a, $b), f($a, $b), $a, $b;`
references_and_statics : Comes (with_f (param a true ∷ param b false ∷ [])
    (then (sets a (var b)) (then (sets b (text (codes "z"))) (then (s.static_vars ((codes "n", Some (int 0)) ∷ []) 1) (then (s.evaluate (e.step step.IncrementAfter (var (codes "n")) 1) 1) (one (s.return (Some (var (codes "n"))) 1))))))
    (then (sets b (text (codes "y"))) (one (s.echo (e.expression (calls f (e.expression (var a) (only (var b)))) (e.expression (calls f (e.expression (var a) (only (var b)))) (e.expression (var a) (only (var b))))) 1)))) 90 (codes "12yy") Done
unfolding digits leading_number is_numeric normal_number
references_and_statics = (refl, refl)

-- `function f(int $a) { return $a; } echo f('7'); f('x');` throws at the call
abbrev hinted : Parameter Name
hinted = record { hint = Some (record { nullable = false; name = record { text = codes "int"; line = 1 }; line = 1 }); by_reference = false; variable = a; default = None; line = 1 }

hints : Comes (with_f (hinted ∷ []) (one (s.return (Some (var a)) 5)) (then (says (calls f (only (text (codes "7"))))) (one (s.evaluate (calls f (only (text (codes "x")))) 3)))) 50 (codes "7") (Fatal name.Uncaught index 3)
unfolding digits leading_number is_numeric normal_number
hints = (refl, refl)

-- `echo 'b'; g();` and a function that is declared again
unknown : Comes (script (then (says (text b)) (one (s.evaluate (calls (codes "g") e.no_more) 2)))) 50 b (Fatal name.Uncaught index 2)
unknown = (refl, refl)

again : Comes (with_f [] s.no_more (then (s.block (one (declares f [])) 4) s.no_more)) 50 [] (Fatal name.Redeclared index 1)
again = (refl, refl)

-- `echo htmlspecialchars("<a b='c' d=\"e\">&");`
escapes : Comes (script (one (says (calls (codes "htmlspecialchars") (only (text (codes "<a b='c' d=\"e\">&"))))))) 50 (codes "&lt;a b='c' d=&quot;e&quot;&gt;&amp;") Done
unfolding text_answer
escapes = (refl, refl)

-- `$a = 'xyz'; echo $a[0], $a[-1], isset($a[3]) ? 1 : 'n', $b ?? 'd'; $a['k'];`
offsets : Comes (script (then (sets a (text (codes "xyz"))) (then (s.echo (e.expression (at_key a (int 0)) (e.expression (at_key a (minus 1))
    (e.expression (e.choice (e.isset (only (at_key a (int 3))) 1) (e.full (int 1) (text (codes "n")) e.no_branches) 1) (only (e.coalesce (var b) (text (codes "d")) 1))))) 1)
    (one (s.evaluate (at_key a (text (codes "k"))) 2))))) 50 (codes "xznd") (Fatal name.Mistyped index 2)
unfolding digits leading_number is_numeric normal_number
offsets = (refl, refl)

-- `while (true) { $a .= 'x'; }` to the end of its budget
endless : Comes (script (one (s.while_loop (e.constant (record { text = codes "TRUE" }) 1) (one (says (text (codes "x")))) 1))) 8 (codes "xxx") Budget
endless = (refl, refl)

-- `function f() { echo 'a'; f(); } f();`
deep : Comes (with_f [] (then (says (text a)) (one (s.evaluate (calls f e.no_more) 2))) (one (s.evaluate (calls f e.no_more) 1))) 12 (codes "aaa") Budget
deep = (refl, refl)

-- `$a = [1, 2]; foreach ($a as $b) { $a[] = $b; } echo count($a), max($a);`
counts_what_was_added : Comes (script (then (sets a (e.array (e.item (int 1) (e.item (int 2) e.no_items)) 1))
    (then (s.foreach (var a) None b (one (s.evaluate (e.assign (e.post (var a) (e.append e.no_accesses) 1) set.Set (var b) 1) 1)) 1)
    (one (s.echo (e.expression (calls (codes "count") (only (var a))) (only (calls (codes "max") (only (var a))))) 1))))) 50 (codes "42") Done
unfolding list_answer digits
counts_what_was_added = (refl, refl)

-- `$a = [3, 1, 2]; sort($a); echo array_push($a, 9), $a[0], $a[3], array_pop($a), count($a); sort('x');`
changes_a_variable : Comes (script (then (sets a (e.array (e.item (int 3) (e.item (int 1) (e.item (int 2) e.no_items))) 1))
    (then (s.evaluate (calls (codes "sort") (only (var a))) 1)
    (then (s.echo (e.expression (calls (codes "array_push") (e.expression (var a) (only (int 9)))) (e.expression (at_key a (int 0)) (e.expression (at_key a (int 3)) (e.expression (calls (codes "array_pop") (only (var a))) (only (calls (codes "count") (only (var a)))))))) 1)
    (one (s.evaluate (calls (codes "sort") (only (text (codes "x")))) 2)))))) 50 (codes "41993") (Fatal name.Mistyped index 2)
unfolding list_answer digits leading_number is_numeric normal_number
changes_a_variable = (refl, refl)
