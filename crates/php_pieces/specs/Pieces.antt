-- Which value of the grammar a piece of the code stands for.
use Rattle.std.specs.Prelude.{ℕ, List, Option, Some, None, map}
use Rattle.php_grammar.specs.Values as v
use Rattle.php_grammar.specs.Values.{Value}
use Rattle.php_tree.specs.declared.expr.Expr.{Expr}
use Rattle.php_tree.specs.declared.expr.Item.{Item}
use Rattle.php_tree.specs.Expressions.{ArrayItems}
use Rattle.php_tree.specs.ExpressionOf.{expression_of, expressions_of, expression_or_none, items_of, accesses_of, links_of, branches_of}
use Rattle.php_tree.specs.StatementOf.{statement_of, statements_of, arms_of, cases_of, clauses_of, members_of, parameter_of, static_of, constant_of, class_constant_of, property_of}
use Rattle.php_building.specs.Parts.{ending_of, tail_of, const_tail_of, branch_of, step_of, join_of, body_of, core_of}
use Rattle.php_pieces.specs.declared.piece.Piece.{Piece}
use Rattle.php_pieces.specs.declared.piece.Piece.TheVariants as p

-- items that may be absent
abbrev pub items_or_none : Option (List (Item Expr)) → Option (ArrayItems ℕ)
items_or_none None = None
items_or_none (Some es) = Some (items_of es)

abbrev pub value_of : Piece → Value
value_of (p.Leaf t) = v.leaf t.now
value_of (p.Stmt s) = v.stmt_of (statement_of s)
value_of (p.Stmts ss) = v.stmts_of (statements_of ss)
value_of (p.Expr e) = v.expr_of (expression_of e)
value_of (p.Exprs es) = v.exprs_of (expressions_of es)
value_of (p.Begun r js) = v.begun_of (tail_of r) (map join_of js)
value_of (p.Maybe e) = v.maybe_of (expression_or_none e)
value_of (p.Links ls) = v.links_of (links_of ls)
value_of (p.Branches bs) = v.branches_of (branches_of bs)
value_of (p.Branch b) = v.branch_of (branch_of b)
value_of (p.Step s) = v.step_of (step_of s)
value_of (p.Tail r) = v.tail_of (tail_of r)
value_of (p.Ending e) = v.ending_of (ending_of e)
value_of (p.Accesses es) = v.accesses_of (accesses_of es)
value_of (p.Items es) = v.items_of (items_of es)
value_of (p.Array es r) = v.array_of (items_or_none es) (tail_of r)
value_of (p.Static m es) = v.static_of m (accesses_of es)
value_of (p.Named c) = v.named_of (const_tail_of c)
value_of (p.Class name) = v.class_of name
value_of (p.Var w) = v.var_of w
value_of (p.Vars ws) = v.vars_of ws
value_of (p.Second w) = v.second_of w
value_of (p.Statics ws) = v.statics_of (map static_of ws)
value_of (p.Constants cs) = v.constants_of (map constant_of cs)
value_of (p.ClassConstants cs) = v.class_constants_of (map class_constant_of cs)
value_of (p.Properties ps) = v.properties_of (map property_of ps)
value_of (p.Text t) = v.text_of t
value_of (p.Int z) = v.int_of z
value_of (p.Names ns) = v.names_of ns
value_of (p.Parent n) = v.parent_of n
value_of (p.Hint h) = v.hint_of h
value_of (p.Params ps) = v.params_of (map parameter_of ps)
value_of (p.Param a) = v.param_of (parameter_of a)
value_of (p.Amp b) = v.amp_of b
value_of (p.Cases cs) = v.cases_of (cases_of cs)
value_of (p.Clauses cs) = v.clauses_of (clauses_of cs)
value_of (p.Members ms) = v.members_of (members_of ms)
value_of (p.Body b) = v.body_of (body_of b)
value_of (p.IfParts i) = v.if_parts (statements_of i.guarded) (arms_of i.arms) (statements_of i.last)
value_of (p.Modded m) = v.modded_of m.line m.modifiers (core_of m.core)
value_of p.Unit = v.unit_of

-- a stack, the newest first
abbrev pub values_of : List Piece → List Value
values_of = map value_of
