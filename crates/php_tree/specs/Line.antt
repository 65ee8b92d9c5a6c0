-- The line of a node: that of its first token, from 1.
use Rattle.std.specs.Prelude.{ℕ}
use Rattle.php_tree.specs.Expressions.{Expression, int, text, quote, var, constant, array, paren, isset, is_empty, exit, exit_with, new, new_var, call, call_var, class_constant, static_call, static_property, class_text, post, chain, print, assign, assign_reference, choice, coalesce, compare, unary, instance_of, instance_of_var, step, cloned, included}
use Rattle.php_tree.specs.Statements as s
use Rattle.php_tree.specs.Statements.{Statement}

abbrev pub line_of : {V : Type 0} → Expression V → ℕ
line_of (int z l) = l
line_of (text t l) = l
line_of (quote ps l) = l
line_of (var v l) = l
line_of (constant n l) = l
line_of (array es l) = l
line_of (paren e l) = l
line_of (isset es l) = l
line_of (is_empty e l) = l
line_of (exit l) = l
line_of (exit_with e l) = l
line_of (new n es l) = l
line_of (new_var v es l) = l
line_of (call n es l) = l
line_of (call_var v es l) = l
line_of (class_constant n m l) = l
line_of (static_call n m es l) = l
line_of (static_property n m l) = l
line_of (class_text n l) = l
line_of (post e es l) = l
line_of (chain e es l) = l
line_of (print e l) = l
line_of (assign e op d l) = l
line_of (assign_reference v w l) = l
line_of (choice e es l) = l
line_of (coalesce e d l) = l
line_of (compare e op d l) = l
line_of (unary op e l) = l
line_of (instance_of e n l) = l
line_of (instance_of_var e v l) = l
line_of (step op e l) = l
line_of (cloned e l) = l
line_of (included k e l) = l

abbrev pub statement_line : {V : Type 0} → Statement V → ℕ
statement_line (s.inline t l) = l
statement_line (s.echo es l) = l
statement_line (s.evaluate e l) = l
statement_line (s.nothing l) = l
statement_line (s.block ss l) = l
statement_line (s.conditional arms ss l) = l
statement_line (s.while_loop e ss l) = l
statement_line (s.do_loop ss e l) = l
statement_line (s.for_loop a b c ss l) = l
statement_line (s.foreach e k v ss l) = l
statement_line (s.switch e arms l) = l
statement_line (s.break n l) = l
statement_line (s.continue n l) = l
statement_line (s.return e l) = l
statement_line (s.global vs l) = l
statement_line (s.static_vars vs l) = l
statement_line (s.unset es l) = l
statement_line (s.throw e l) = l
statement_line (s.try ss cs l) = l
statement_line (s.function f l) = l
statement_line (s.class c l) = l
statement_line (s.constants cs l) = l
statement_line (s.removed k p n l) = l
