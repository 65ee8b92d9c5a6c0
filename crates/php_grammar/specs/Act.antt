-- What a rule gives of what was read by its symbols, and what an operator makes of its operands.
use Rattle.std.specs.Prelude.{ℕ, ℤ, pos, List, [], ◌∷◌, ◌++◌, Option, Some, None, Bool, true, false}
use Rattle.php_tree.specs.declared.name.FunName.{FunName}
use Rattle.php_tree.specs.declared.name.ConstName.{ConstName}
use Rattle.php_tree.specs.declared.name.ClassName.{ClassName}
use Rattle.php_tree.specs.declared.name.MemberName.{MemberName}
use Rattle.php_tree.specs.declared.decl.Hint.{Hint}
use Rattle.php_tree.specs.declared.decl.Modifiers.{Modifiers}
use Rattle.php_tree.specs.declared.decl.Visibility.{Visibility}
use Rattle.php_tree.specs.declared.decl.ClassKind.TheVariants.{Plain, Abstract, Final, Interface}
use Rattle.php_tree.specs.declared.file.Span.{Span}
use Rattle.php_tree.specs.declared.expr.ChainOp.{ChainOp}
use Rattle.php_tree.specs.declared.expr.ChainOp.TheVariants as chain
use Rattle.php_tree.specs.declared.expr.CompareOp.{CompareOp}
use Rattle.php_tree.specs.declared.expr.CompareOp.TheVariants as compare
use Rattle.php_tree.specs.declared.expr.AssignOp.{AssignOp}
use Rattle.php_tree.specs.declared.expr.AssignOp.TheVariants.{Set}
use Rattle.php_tree.specs.declared.expr.UnaryOp.{UnaryOp}
use Rattle.php_tree.specs.declared.expr.UnaryOp.TheVariants as unary
use Rattle.php_tree.specs.declared.expr.StepOp.{StepOp}
use Rattle.php_tree.specs.declared.expr.StepOp.TheVariants as step
use Rattle.php_tree.specs.declared.expr.IncludeKind.{IncludeKind}
use Rattle.php_tree.specs.declared.expr.IncludeKind.TheVariants as include
use Rattle.php_tree.specs.declared.expr.QuotePart.{QuotePart}
use Rattle.php_tree.specs.declared.expr.QuotePart.TheVariants as q
use Rattle.php_tree.specs.Expressions as x
use Rattle.php_tree.specs.Expressions.{Expression, Expressions, ArrayItems, Accesses, Branches, QuoteParts}
use Rattle.php_tree.specs.ExpressionOf.{key_of}
use Rattle.php_tree.specs.Line.{line_of}
use Rattle.php_tree.specs.Statements as y
use Rattle.php_tree.specs.Statements.{Statement, Statements, Arms, Members, Parameter, Head}
use Rattle.php_grammar.specs.declared.token.Kind.{Kind}
use Rattle.php_grammar.specs.declared.token.Detail.{Detail}
use Rattle.php_grammar.specs.declared.token.Detail.TheVariants as d
use Rattle.php_grammar.specs.Parts as g
use Rattle.php_grammar.specs.Parts.{Part, Rule}
use Rattle.php_grammar.specs.Values.{Lexeme, Ending, First, Tail, ConstTail, Branch, Step, Join, Core, Value, nowhere, sets, refers, steps_by, nothing, arguments, given_to, at_property, at_class, at_member, at_call, only_word, class_form, class_member, array_of_items, whole_branch, short_branch, coalesces, compares, instance_of, instance_of_var, by_links, by_branches, by_step, by_nothing, constants_core, properties_core, function_core, leaf, stmt_of, stmts_of, expr_of, exprs_of, begun_of, maybe_of, links_of, branches_of, branch_of, step_of, tail_of, ending_of, accesses_of, items_of, array_of, static_of, named_of, class_of, var_of, vars_of, second_of, statics_of, constants_of, class_constants_of, properties_of, text_of, int_of, names_of, parent_of, hint_of, params_of, param_of, amp_of, cases_of, clauses_of, members_of, body_of, if_parts, modded_of, unit_of, no_token, empty_tail, no_class, no_parameter, as_token, as_stmt, as_stmts, as_expr, as_exprs, as_maybe, as_links, as_branches, as_branch, as_tail, as_ending, as_accesses, as_items, as_named, as_class, as_vars, as_second, as_statics, as_constants, as_class_constants, as_properties, as_text, as_int, as_names, as_parent, as_hint, as_params, as_param, as_amp, as_cases, as_clauses, as_members, as_body, as_join}

-- ---- which operator a token is

abbrev pub chain_of : Detail → ChainOp
chain_of (d.Chain op) = op
chain_of d.Plus = chain.Add
chain_of d.Minus = chain.Sub
chain_of _ = chain.Join

abbrev pub compare_of : Detail → CompareOp
compare_of (d.Compare op) = op
compare_of _ = compare.Equal

abbrev pub assign_of : Detail → AssignOp
assign_of (d.Assign op) = op
assign_of _ = Set

abbrev pub unary_of : Detail → UnaryOp
unary_of (d.Unary op) = op
unary_of d.Plus = unary.Plus
unary_of d.Minus = unary.Minus
unary_of _ = unary.Not

abbrev pub before_of : Detail → StepOp
before_of d.Decrement = step.DecrementBefore
before_of _ = step.IncrementBefore

abbrev pub after_of : Detail → StepOp
after_of d.Decrement = step.DecrementAfter
after_of _ = step.IncrementAfter

abbrev pub include_of : Detail → IncludeKind
include_of (d.Include kind) = kind
include_of _ = include.Include

abbrev pub visibility_of : Detail → Option Visibility
visibility_of (d.Visible v) = Some v
visibility_of _ = None

-- ---- names, hints, parameters

abbrev pub class_name : Lexeme → ClassName
class_name t = record { text = t.text; line = t.line }

abbrev pub const_name : Lexeme → ConstName
const_name t = record { text = t.text }

abbrev pub fun_name : Lexeme → FunName
fun_name t = record { text = t.text; line = t.line }

abbrev pub member_name : Lexeme → MemberName
member_name t = record { text = t.text; line = t.line }

abbrev pub hint : Bool → ClassName → ℕ → Hint
hint nullable name line = record { nullable = nullable; name = name; line = line }

abbrev pub parameter : Option Hint → Bool → Lexeme → Option (Expression ℕ) → Parameter ℕ
parameter h by t e = record { hint = h; by_reference = by; variable = t.number; default = e; line = t.line }

abbrev pub head_of : Lexeme → List (Parameter ℕ) → Option Hint → ℕ → Head ℕ
head_of name ps h line = record { name = fun_name name; parameters = ps; gives = h; line = line }

-- from the one token to the other
abbrev pub span_of : Lexeme → Lexeme → Span
span_of t u = record { from = t.at; to = u.at }

abbrev pub no_modifiers : Modifiers
no_modifiers = record { visibility = None; is_static = false; is_abstract = false; is_final = false; is_var = false }

abbrev pub core_before : Core → Modifiers → ℕ → Members ℕ → Members ℕ
core_before (constants_core cs) m l ms = y.class_constants cs l ms
core_before (properties_core ps) m l ms = y.properties m ps l ms
core_before (function_core h (Some (ss, at))) m l ms = y.method m (y.with_body h ss at) l ms
core_before (function_core h None) m l ms = y.bodiless m h l ms

abbrev pub mods_in : Value → Modifiers
mods_in (modded_of l m c) = m
mods_in _ = no_modifiers

abbrev pub core_in : Value → Core
core_in (modded_of l m c) = c
core_in _ = constants_core []

abbrev pub line_in : Value → ℕ
line_in (modded_of l m c) = l
line_in _ = 0

-- ---- statements

abbrev pub one : Statement ℕ → Statements ℕ
one s = y.statement s y.no_more

abbrev pub arms_in : Value → Arms ℕ
arms_in (if_parts ss arms last) = arms
arms_in _ = y.no_arms

abbrev pub last_in : Value → Statements ℕ
last_in (if_parts ss arms last) = last
last_in _ = y.no_more

abbrev pub guarded_in : Value → Statements ℕ
guarded_in (if_parts ss arms last) = ss
guarded_in _ = y.no_more

abbrev pub jump : Detail → ℤ → ℕ → Statement ℕ
jump d.Continue n l = y.continue n l
jump _ n l = y.break n l

-- the key and the value of a `foreach`, by its first variable and the one after `=>`
abbrev pub key_of_each : ℕ → Option ℕ → Option ℕ
key_of_each n None = None
key_of_each n (Some v) = Some n

abbrev pub value_of_each : ℕ → Option ℕ → ℕ
value_of_each n None = n
value_of_each n (Some v) = v

-- ---- operands

-- what an operand begins with
pub data Begun : Type 0 where
  word : List ℕ → ℕ → Begun
  variable : ℕ → ℕ → Begun
  new_class : ClassName → ℕ → Begun
  new_variable : ℕ → ℕ → Begun
  given : Expression ℕ → Begun

-- by itself
abbrev pub alone : Begun → Expression ℕ
alone (word w l) = x.constant (record { text = w }) l
alone (variable v l) = x.var v l
alone (new_class n l) = x.new n x.no_more l
alone (new_variable v l) = x.new_var v x.no_more l
alone (given e) = e

-- with arguments
abbrev pub called : Begun → Expressions ℕ → Expression ℕ
called (word w l) es = x.call (record { text = w; line = l }) es l
called (variable v l) es = x.call_var v es l
called (new_class n l) es = x.new n es l
called (new_variable v l) es = x.new_var v es l
called (given e) es = e

-- an `exit` with what is given to it
abbrev pub exited : Expression ℕ → Option (Expression ℕ) → Expression ℕ
exited h (Some e) = x.exit_with e (line_of h)
exited h None = h

abbrev pub posted : Expression ℕ → Accesses ℕ → Expression ℕ
posted h x.no_accesses = h
posted h es = x.post h es (line_of h)

-- the number of a variable
abbrev pub number_of : Expression ℕ → ℕ
number_of (x.var v l) = v
number_of _ = 0

abbrev pub ended : Expression ℕ → Ending → Expression ℕ
ended h nowhere = h
ended h (sets op e) = x.assign h op e (line_of h)
ended h (refers v) = x.assign_reference (number_of h) v (line_of h)
ended h (steps_by op) = x.step op h (line_of h)

-- the accesses and the ending
abbrev pub after : Expression ℕ → Tail → Expression ℕ
after h r = ended (posted h r.accesses) r.ending

abbrev pub class_at : List ℕ → ℕ → ClassName
class_at w l = record { text = w; line = l }

-- what a class and what stands after its `::` are, by themselves
abbrev pub member_of : List ℕ → ℕ → First → Expression ℕ
member_of w l (at_property m) = x.static_property (class_at w l) m l
member_of w l at_class = x.class_text (class_at w l) l
member_of w l (at_member m) = x.class_constant (class_at w l) m l
member_of w l (at_call m es) = x.static_call (class_at w l) m es l
member_of w l _ = x.constant (record { text = w }) l

abbrev pub named : List ℕ → ℕ → Tail → Expression ℕ
named w l r = after (member_of w l r.first) r

-- a head with what stands directly after it
abbrev pub headed : Begun → First → Expression ℕ
headed h (arguments es) = called h es
headed h (given_to e) = exited (alone h) e
headed (word w l) (at_property m) = member_of w l (at_property m)
headed (word w l) at_class = member_of w l at_class
headed (word w l) (at_member m) = member_of w l (at_member m)
headed (word w l) (at_call m es) = member_of w l (at_call m es)
headed h _ = alone h

abbrev pub finished : Begun → Tail → Expression ℕ
finished h r = after (headed h r.first) r

-- an ending, with nothing before it
abbrev pub ends : Ending → Tail
ends e = record { first = nothing; accesses = x.no_accesses; ending = e }

-- an access in front of the others
abbrev pub indexed : Expression ℕ → Tail → Tail
indexed e r = record r { accesses = x.index e r.accesses }

-- a property, or a method where arguments follow
abbrev pub member_access : MemberName → First → Accesses ℕ → Accesses ℕ
member_access m (arguments us) es = x.method m us es
member_access m _ es = x.property m es

abbrev pub accessed : Lexeme → Tail → Tail
accessed t r = record { first = nothing; accesses = member_access (member_name t) r.first r.accesses; ending = r.ending }

-- a member after `::`, with arguments or without
abbrev pub member_first : MemberName → First → First
member_first m (arguments es) = at_call m es
member_first m _ = at_member m

-- a class or a variable after `new`
abbrev pub new_in : Value → ℕ → Begun
new_in (var_of v) l = new_variable v l
new_in n l = new_class (as_class n) l

abbrev pub instance_in : Value → Step
instance_in (var_of v) = instance_of_var v
instance_in n = instance_of (as_class n)

-- `array` with what stands after it
abbrev pub array_or_name : List ℕ → ℕ → Value → Expression ℕ
array_or_name w l (array_of (Some es) r) = finished (given (x.array es l)) r
array_or_name w l (array_of None r) = named w l r
array_or_name w l _ = x.constant (record { text = w }) l

-- a class with what stands after its `::` in a place
abbrev pub static_in : List ℕ → ℕ → Value → Expression ℕ
static_in w l (static_of m es) = posted (x.static_property (class_at w l) m l) es
static_in w l _ = x.constant (record { text = w }) l

abbrev pub const_named : List ℕ → ℕ → ConstTail → Expression ℕ
const_named w l only_word = x.constant (record { text = w }) l
const_named w l class_form = x.class_text (class_at w l) l
const_named w l (class_member m) = x.class_constant (class_at w l) m l
const_named w l (array_of_items es) = x.array es l

abbrev pub branch_before : Branch → Branches ℕ → Branches ℕ
branch_before (whole_branch e d) bs = x.full e d bs
branch_before (short_branch e) bs = x.short e bs

abbrev pub an_item : Expression ℕ → Option (Expression ℕ) → ArrayItems ℕ → ArrayItems ℕ
an_item e None es = x.item e es
an_item e (Some d) es = x.pair e d es

-- the parts of a text, with its embedded expressions in order
abbrev pub filled : List (QuotePart (Unit {0})) → Expressions ℕ → QuoteParts ℕ
filled [] es = x.no_parts
filled (q.Bytes t ∷ ps) es = x.part_bytes t (filled ps es)
filled (q.Var v ∷ ps) es = x.part_var v (filled ps es)
filled (q.Index v key ∷ ps) es = x.part_index v (key_of key) (filled ps es)
filled (q.Property v name ∷ ps) es = x.part_property v name (filled ps es)
filled (q.Embedded u ∷ ps) (x.expression e es) = x.part_embedded e (filled ps es)
filled (q.Embedded u ∷ ps) x.no_more = filled ps x.no_more

-- ---- rules

-- ---- operators

abbrev pub stepped : Expression ℕ → Step → Expression ℕ
stepped h (coalesces e) = x.coalesce h e (line_of h)
stepped h (compares op e) = x.compare h op e (line_of h)
stepped h (instance_of n) = x.instance_of h n (line_of h)
stepped h (instance_of_var v) = x.instance_of_var h v (line_of h)

abbrev pub joined : Expression ℕ → Join → Expression ℕ
joined e (by_links ls) = x.chain e ls (line_of e)
joined e (by_branches bs) = x.choice e bs (line_of e)
joined e (by_step s) = stepped e s
joined e by_nothing = e

abbrev pub joined_all : Expression ℕ → List Join → Expression ℕ
joined_all e [] = e
joined_all e (j ∷ js) = joined_all (joined e j) js

-- a `static` statement: variables, or an expression that begins with the class
abbrev pub static_statement : List ℕ → ℕ → Value → Statement ℕ
static_statement w l (begun_of r js) = y.evaluate (joined_all (named w l r) js) l
static_statement w l r = y.static_vars (as_statics r) l

-- what a part gives of which nothing is read
abbrev pub nothing_of : Part → Value
nothing_of g.stmts = stmts_of y.no_more
nothing_of g.if_rest = if_parts y.no_more y.no_arms y.no_more
nothing_of g.maybe_semi = unit_of
nothing_of g.arms = cases_of y.no_cases
nothing_of g.maybe_int = int_of (pos 1)
nothing_of g.maybe_expr = maybe_of None
nothing_of g.second_var = second_of None
nothing_of g.more_vars = vars_of []
nothing_of g.more_static = statics_of []
nothing_of g.maybe_default = maybe_of None
nothing_of g.more_consts = constants_of []
nothing_of g.maybe_text = text_of None
nothing_of g.more_catches = clauses_of y.no_clauses
nothing_of g.more_caught = names_of []
nothing_of g.params = params_of []
nothing_of g.more_params = params_of []
nothing_of g.maybe_amp = amp_of false
nothing_of g.maybe_hint = hint_of None
nothing_of g.maybe_result = hint_of None
nothing_of g.maybe_parent = parent_of None
nothing_of g.maybe_interfaces = names_of []
nothing_of g.maybe_parents = names_of []
nothing_of g.more_names = names_of []
nothing_of (g.members _) = members_of y.no_members
nothing_of g.more_class_consts = class_constants_of []
nothing_of g.more_properties = properties_of []
nothing_of (g.tail _ _) = tail_of empty_tail
nothing_of g.args = exprs_of x.no_more
nothing_of g.more_args = exprs_of x.no_more
nothing_of (g.items _) = items_of x.no_items
nothing_of (g.arrow_value _) = maybe_of None
nothing_of (g.more_items _) = items_of x.no_items
nothing_of g.more_places = exprs_of x.no_more
nothing_of g.place_tail = accesses_of x.no_accesses
nothing_of g.c_word_tail = named_of only_word
nothing_of (g.operators _ g.choice) = branches_of x.no_branches
nothing_of (g.operators _ _) = links_of x.no_links
nothing_of _ = unit_of

unfoldable pub act : Rule → List Value → Value
act (g.none_of a) [] = nothing_of a
act g.whole (ss ∷ t ∷ []) = stmts_of (as_stmts ss)
act g.some_stmts (s ∷ ss ∷ []) = stmts_of (y.statement (as_stmt s) (as_stmts ss))
act g.inline_text (t ∷ []) = stmt_of (y.inline (as_token t).text (as_token t).line)
act g.echo_tag (t ∷ e ∷ es ∷ u ∷ []) = stmt_of (y.echo (x.expression (as_expr e) (as_exprs es)) (as_token t).line)
act g.echo_word (t ∷ e ∷ es ∷ u ∷ []) = stmt_of (y.echo (x.expression (as_expr e) (as_exprs es)) (as_token t).line)
act g.empty_stmt (t ∷ []) = stmt_of (y.nothing (as_token t).line)
act g.block (t ∷ ss ∷ u ∷ []) = stmt_of (y.block (as_stmts ss) (as_token t).line)
act g.if_stmt (t ∷ u ∷ e ∷ v ∷ b ∷ []) = stmt_of (y.conditional (y.arm (as_expr e) (guarded_in b) (arms_in b)) (last_in b) (as_token t).line)
act g.while_stmt (t ∷ u ∷ e ∷ v ∷ ss ∷ []) = stmt_of (y.while_loop (as_expr e) (as_stmts ss) (as_token t).line)
act g.do_stmt (t ∷ s ∷ u ∷ v ∷ e ∷ w ∷ z ∷ []) = stmt_of (y.do_loop (one (as_stmt s)) (as_expr e) (as_token t).line)
act g.for_stmt (t ∷ u ∷ a ∷ v ∷ b ∷ w ∷ c ∷ z ∷ ss ∷ []) = stmt_of (y.for_loop (as_exprs a) (as_exprs b) (as_exprs c) (as_stmts ss) (as_token t).line)
act g.foreach_stmt (t ∷ u ∷ e ∷ v ∷ w ∷ second ∷ z ∷ ss ∷ []) = stmt_of (y.foreach (as_expr e) (key_of_each (as_token w).number (as_second second)) (value_of_each (as_token w).number (as_second second)) (as_stmts ss) (as_token t).line)
act g.switch_stmt (t ∷ u ∷ e ∷ v ∷ arms ∷ []) = stmt_of (y.switch (as_expr e) (as_cases arms) (as_token t).line)
act g.jump_stmt (t ∷ n ∷ u ∷ []) = stmt_of (jump (as_token t).detail (as_int n) (as_token t).line)
act g.return_stmt (t ∷ e ∷ u ∷ []) = stmt_of (y.return (as_maybe e) (as_token t).line)
act g.global_stmt (t ∷ u ∷ vs ∷ v ∷ []) = stmt_of (y.global ((as_token u).number ∷ (as_vars vs)) (as_token t).line)
act g.static_stmt (t ∷ r ∷ []) = stmt_of (static_statement (as_token t).text (as_token t).line r)
act g.unset_stmt (t ∷ u ∷ e ∷ es ∷ v ∷ w ∷ []) = stmt_of (y.unset (x.expression (as_expr e) (as_exprs es)) (as_token t).line)
act g.throw_stmt (t ∷ e ∷ u ∷ []) = stmt_of (y.throw (as_expr e) (as_token t).line)
act g.try_stmt (t ∷ u ∷ ss ∷ v ∷ cs ∷ []) = stmt_of (y.try (as_stmts ss) (as_clauses cs) (as_token t).line)
act g.function_stmt (t ∷ name ∷ u ∷ ps ∷ v ∷ h ∷ w ∷ ss ∷ z ∷ []) = stmt_of (y.function (y.with_body (head_of (as_token name) (as_params ps) (as_hint h) (as_token t).line) (as_stmts ss) (span_of (as_token w) (as_token z))) (as_token t).line)
act g.abstract_class (t ∷ u ∷ name ∷ p ∷ ns ∷ v ∷ ms ∷ w ∷ []) = stmt_of (y.class (y.with_members Abstract (class_name (as_token name)) (as_parent p) (as_names ns) (as_members ms) (as_token t).line) (as_token t).line)
act g.final_class (t ∷ u ∷ name ∷ p ∷ ns ∷ v ∷ ms ∷ w ∷ []) = stmt_of (y.class (y.with_members Final (class_name (as_token name)) (as_parent p) (as_names ns) (as_members ms) (as_token t).line) (as_token t).line)
act g.plain_class (t ∷ name ∷ p ∷ ns ∷ v ∷ ms ∷ w ∷ []) = stmt_of (y.class (y.with_members Plain (class_name (as_token name)) (as_parent p) (as_names ns) (as_members ms) (as_token t).line) (as_token t).line)
act g.interface_stmt (t ∷ name ∷ ns ∷ v ∷ ms ∷ w ∷ []) = stmt_of (y.class (y.with_members Interface (class_name (as_token name)) None (as_names ns) (as_members ms) (as_token t).line) (as_token t).line)
act g.const_stmt (t ∷ name ∷ u ∷ e ∷ cs ∷ v ∷ []) = stmt_of (y.constants ((const_name (as_token name), (as_expr e)) ∷ (as_constants cs)) (as_token t).line)
act g.removed_stmt (t ∷ u ∷ kind ∷ v ∷ path ∷ name ∷ w ∷ z ∷ []) = stmt_of (y.removed (as_token kind).text (as_token path).text (as_text name) (as_token t).line)
act g.expr_stmt (e ∷ t ∷ []) = stmt_of (y.evaluate (as_expr e) (line_of (as_expr e)))
act g.if_listed (t ∷ ss ∷ r ∷ []) = if_parts (as_stmts ss) (arms_in r) (last_in r)
act g.if_single (s ∷ r ∷ []) = if_parts (one (as_stmt s)) (arms_in r) (last_in r)
act g.else_if (t ∷ u ∷ e ∷ v ∷ s ∷ r ∷ []) = if_parts y.no_more (y.arm (as_expr e) (one (as_stmt s)) (arms_in r)) (last_in r)
act g.else_single (t ∷ s ∷ []) = if_parts y.no_more y.no_arms (one (as_stmt s))
act g.else_if_listed (t ∷ u ∷ e ∷ v ∷ w ∷ ss ∷ r ∷ []) = if_parts y.no_more (y.arm (as_expr e) (as_stmts ss) (arms_in r)) (last_in r)
act g.else_listed (t ∷ u ∷ ss ∷ v ∷ w ∷ []) = if_parts y.no_more y.no_arms (as_stmts ss)
act g.end_if (t ∷ u ∷ []) = if_parts y.no_more y.no_arms y.no_more
act g.while_listed (t ∷ ss ∷ u ∷ v ∷ []) = ss
act g.for_listed (t ∷ ss ∷ u ∷ v ∷ []) = ss
act g.foreach_listed (t ∷ ss ∷ u ∷ v ∷ []) = ss
act g.body_single (s ∷ []) = stmts_of (one (as_stmt s))
act g.switch_braced (t ∷ u ∷ arms ∷ v ∷ []) = arms
act g.switch_listed (t ∷ u ∷ arms ∷ v ∷ w ∷ []) = arms
act g.a_semi (t ∷ []) = unit_of
act g.case_arm (t ∷ e ∷ u ∷ ss ∷ arms ∷ []) = cases_of (y.case (as_expr e) (as_stmts ss) (as_cases arms))
act g.default_arm (t ∷ u ∷ ss ∷ arms ∷ []) = cases_of (y.default_case (as_stmts ss) (as_cases arms))
act g.arm_colon (t ∷ []) = unit_of
act g.arm_semi (t ∷ []) = unit_of
act g.an_int (t ∷ []) = int_of (as_token t).int
act g.an_expr (e ∷ []) = maybe_of (Some (as_expr e))
act g.key_then_value (t ∷ u ∷ []) = second_of (Some (as_token u).number)
act g.next_var (t ∷ u ∷ vs ∷ []) = vars_of ((as_token u).number ∷ (as_vars vs))
act g.static_vars (t ∷ e ∷ vs ∷ u ∷ []) = statics_of (((as_token t).number, (as_maybe e)) ∷ (as_statics vs))
act g.static_expr (b ∷ t ∷ []) = b
act g.next_static (t ∷ u ∷ e ∷ vs ∷ []) = statics_of (((as_token u).number, (as_maybe e)) ∷ (as_statics vs))
act g.a_default (t ∷ e ∷ []) = maybe_of (Some (as_expr e))
act g.next_const (t ∷ name ∷ u ∷ e ∷ cs ∷ []) = constants_of ((const_name (as_token name), (as_expr e)) ∷ (as_constants cs))
act g.next_text (t ∷ u ∷ []) = text_of (Some (as_token u).text)
act g.a_catch (t ∷ u ∷ n ∷ ns ∷ v ∷ w ∷ z ∷ ss ∷ q ∷ cs ∷ []) = clauses_of (y.clause ((as_class n) ∷ (as_names ns)) (as_token v).number (as_stmts ss) (as_clauses cs))
act g.next_caught (t ∷ n ∷ ns ∷ []) = names_of ((as_class n) ∷ (as_names ns))
act g.some_params (p ∷ ps ∷ []) = params_of ((as_param p) ∷ (as_params ps))
act g.next_param (t ∷ p ∷ ps ∷ []) = params_of ((as_param p) ∷ (as_params ps))
act g.a_param (h ∷ by ∷ t ∷ e ∷ []) = param_of (parameter (as_hint h) (as_amp by) (as_token t) (as_maybe e))
act g.an_amp (t ∷ []) = amp_of true
act g.open_hint (t ∷ n ∷ []) = hint_of (Some (hint true (as_class n) (as_token t).line))
act g.hint_word (t ∷ []) = class_of (class_name (as_token t))
act g.hint_static (t ∷ []) = class_of (class_name (as_token t))
act g.hint_array (t ∷ []) = class_of (class_name (as_token t))
act g.plain_hint_word (t ∷ []) = hint_of (Some (hint false (class_name (as_token t)) (as_token t).line))
act g.plain_hint_static (t ∷ []) = hint_of (Some (hint false (class_name (as_token t)) (as_token t).line))
act g.plain_hint_array (t ∷ []) = hint_of (Some (hint false (class_name (as_token t)) (as_token t).line))
act g.a_result (t ∷ r ∷ []) = r
act g.a_plain_word (t ∷ []) = t
act g.a_hint_word (t ∷ []) = t
act g.class_word (t ∷ []) = class_of (class_name (as_token t))
act g.class_hint_word (t ∷ []) = class_of (class_name (as_token t))
act g.class_static (t ∷ []) = class_of (class_name (as_token t))
act g.class_array (t ∷ []) = class_of (class_name (as_token t))
act g.class_var (t ∷ []) = var_of (as_token t).number
act g.class_this (t ∷ []) = var_of (as_token t).number
act g.a_parent (t ∷ n ∷ []) = parent_of (Some (as_class n))
act g.the_interfaces (t ∷ n ∷ ns ∷ []) = names_of ((as_class n) ∷ (as_names ns))
act g.the_parents (t ∷ n ∷ ns ∷ []) = names_of ((as_class n) ∷ (as_names ns))
act g.next_name (t ∷ n ∷ ns ∷ []) = names_of ((as_class n) ∷ (as_names ns))
act (g.some_members _) (m ∷ ms ∷ []) = members_of (core_before (core_in m) (mods_in m) (line_in m) (as_members ms))
act g.const_member (t ∷ name ∷ u ∷ e ∷ cs ∷ v ∷ []) = modded_of (as_token t).line no_modifiers (constants_core ((member_name (as_token name), as_expr e) ∷ as_class_constants cs))
act g.next_class_const (t ∷ name ∷ u ∷ e ∷ cs ∷ []) = class_constants_of ((member_name (as_token name), (as_expr e)) ∷ (as_class_constants cs))
act (g.function_member _) (t ∷ name ∷ u ∷ ps ∷ v ∷ h ∷ b ∷ []) = modded_of (as_token t).line no_modifiers (function_core (head_of (as_token name) (as_params ps) (as_hint h) (as_token t).line) (as_body b))
act g.property_member (t ∷ e ∷ ps ∷ u ∷ []) = modded_of (as_token t).line no_modifiers (properties_core ((member_name (as_token t), as_maybe e) ∷ as_properties ps))
act g.this_member (t ∷ e ∷ ps ∷ u ∷ []) = modded_of (as_token t).line no_modifiers (properties_core ((member_name (as_token t), as_maybe e) ∷ as_properties ps))
act g.next_property (t ∷ name ∷ e ∷ ps ∷ []) = properties_of ((member_name (as_token name), (as_maybe e)) ∷ (as_properties ps))
act g.plain_var (t ∷ []) = t
act g.this_var (t ∷ []) = t
act (g.visible_mod _ _ _ _ _) (t ∷ m ∷ []) = modded_of (as_token t).line (record (mods_in m) { visibility = visibility_of (as_token t).detail }) (core_in m)
act (g.static_mod _ _ _ _ _) (t ∷ m ∷ []) = modded_of (as_token t).line (record (mods_in m) { is_static = true }) (core_in m)
act (g.abstract_mod _ _ _ _ _) (t ∷ m ∷ []) = modded_of (as_token t).line (record (mods_in m) { is_abstract = true }) (core_in m)
act (g.final_mod _ _ _ _ _) (t ∷ m ∷ []) = modded_of (as_token t).line (record (mods_in m) { is_final = true }) (core_in m)
act (g.var_mod _ _ _ _ _) (t ∷ m ∷ []) = modded_of (as_token t).line (record (mods_in m) { is_var = true }) (core_in m)
act g.with_body (t ∷ ss ∷ u ∷ []) = body_of (Some ((as_stmts ss), span_of (as_token t) (as_token u)))
act g.without_body (t ∷ []) = body_of None
act (g.named_word _) (t ∷ []) = t
act g.print_expr (t ∷ e ∷ []) = expr_of (x.print (as_expr e) (as_token t).line)
act g.no_print (e ∷ []) = e
act g.not_expr (t ∷ e ∷ []) = expr_of (x.unary (unary_of (as_token t).detail) (as_expr e) (as_token t).line)
act g.no_not (e ∷ []) = e
act g.sign_expr (t ∷ e ∷ []) = expr_of (x.unary (unary_of (as_token t).detail) (as_expr e) (as_token t).line)
act g.prefix_expr (t ∷ e ∷ []) = expr_of (x.unary (unary_of (as_token t).detail) (as_expr e) (as_token t).line)
act g.step_before (t ∷ e ∷ []) = expr_of (x.step (before_of (as_token t).detail) (as_expr e) (as_token t).line)
act g.no_unary (e ∷ []) = e
act (g.int_prim _) (t ∷ r ∷ []) = expr_of (finished (given (x.int (as_token t).int (as_token t).line)) (as_tail r))
act (g.text_prim _) (t ∷ r ∷ []) = expr_of (finished (given (x.text (as_token t).text (as_token t).line)) (as_tail r))
act (g.quote_prim _) (t ∷ r ∷ []) = expr_of (finished (given (x.quote (filled (as_token t).parts x.no_more) (as_token t).line)) (as_tail r))
act (g.embedding_prim _) (t ∷ e ∷ es ∷ r ∷ []) = expr_of (finished (given (x.quote (filled (as_token t).parts (x.expression (as_expr e) (as_exprs es))) (as_token t).line)) (as_tail r))
act g.quote_next (t ∷ e ∷ es ∷ []) = exprs_of (x.expression (as_expr e) (as_exprs es))
act g.quote_end (t ∷ []) = exprs_of x.no_more
act (g.var_prim _) (t ∷ r ∷ []) = expr_of (finished (variable (as_token t).number (as_token t).line) (as_tail r))
act (g.this_prim _) (t ∷ r ∷ []) = expr_of (finished (variable (as_token t).number (as_token t).line) (as_tail r))
act (g.word_prim _) (t ∷ r ∷ []) = expr_of (finished (word (as_token t).text (as_token t).line) (as_tail r))
act (g.hint_word_prim _) (t ∷ r ∷ []) = expr_of (finished (word (as_token t).text (as_token t).line) (as_tail r))
act (g.static_prim _) (t ∷ u ∷ c ∷ []) = expr_of (named (as_token t).text (as_token t).line (as_tail c))
act (g.array_prim _) (t ∷ r ∷ []) = expr_of (array_or_name (as_token t).text (as_token t).line r)
act (g.array_items _) (t ∷ es ∷ u ∷ r ∷ []) = array_of (Some (as_items es)) (as_tail r)
act (g.array_name _) (t ∷ c ∷ []) = array_of None (as_tail c)
act (g.bracket_prim _) (t ∷ es ∷ u ∷ r ∷ []) = expr_of (finished (given (x.array (as_items es) (as_token t).line)) (as_tail r))
act (g.paren_prim _) (t ∷ e ∷ u ∷ r ∷ []) = expr_of (finished (given (x.paren (as_expr e) (as_token t).line)) (as_tail r))
act (g.isset_prim _) (t ∷ u ∷ e ∷ es ∷ v ∷ r ∷ []) = expr_of (finished (given (x.isset (x.expression (as_expr e) (as_exprs es)) (as_token t).line)) (as_tail r))
act (g.empty_prim _) (t ∷ u ∷ e ∷ v ∷ r ∷ []) = expr_of (finished (given (x.is_empty (as_expr e) (as_token t).line)) (as_tail r))
act (g.exit_prim _) (t ∷ r ∷ []) = expr_of (finished (given (x.exit (as_token t).line)) (as_tail r))
act (g.new_prim _) (t ∷ n ∷ r ∷ []) = expr_of (finished (new_in n (as_token t).line) (as_tail r))
act g.clone_prim (t ∷ e ∷ []) = expr_of (x.cloned (as_expr e) (as_token t).line)
act g.include_prim (t ∷ e ∷ []) = expr_of (x.included (include_of (as_token t).detail) (as_expr e) (as_token t).line)
act (g.static_property _) (t ∷ r ∷ []) = tail_of (record (as_tail r) { first = at_property (member_name (as_token t)) })
act (g.static_property_this _) (t ∷ r ∷ []) = tail_of (record (as_tail r) { first = at_property (member_name (as_token t)) })
act (g.class_form _) (t ∷ r ∷ []) = tail_of (record (as_tail r) { first = at_class })
act (g.static_member _ _) (t ∷ r ∷ []) = tail_of (record (as_tail r) { first = member_first (member_name (as_token t)) (as_tail r).first })
act (g.open_index _ _) (t ∷ r ∷ []) = r
act (g.arrow _ _) (t ∷ r ∷ []) = r
act (g.call_args _) (t ∷ es ∷ u ∷ r ∷ []) = tail_of (record (as_tail r) { first = arguments (as_exprs es) })
act (g.exit_args _) (t ∷ e ∷ u ∷ r ∷ []) = tail_of (record (as_tail r) { first = given_to (as_maybe e) })
act (g.colons _) (t ∷ r ∷ []) = r
act g.assign_var (t ∷ e ∷ []) = tail_of (ends (as_ending e))
act g.assign_place (t ∷ e ∷ []) = tail_of (ends (sets (assign_of (as_token t).detail) (as_expr e)))
act g.assign_op (t ∷ e ∷ []) = tail_of (ends (sets (assign_of (as_token t).detail) (as_expr e)))
act g.step_after (t ∷ []) = tail_of (ends (steps_by (after_of (as_token t).detail)))
act g.appended (t ∷ e ∷ []) = tail_of (record { first = nothing; accesses = x.append x.no_accesses; ending = as_ending e })
act (g.at_index_place _) (e ∷ t ∷ r ∷ []) = tail_of (indexed (as_expr e) (as_tail r))
act (g.at_index_other _) (e ∷ t ∷ r ∷ []) = tail_of (indexed (as_expr e) (as_tail r))
act g.only_assign (t ∷ e ∷ []) = ending_of (sets (assign_of (as_token t).detail) (as_expr e))
act g.only_assign_op (t ∷ e ∷ []) = ending_of (sets (assign_of (as_token t).detail) (as_expr e))
act g.reference (t ∷ u ∷ []) = ending_of (refers (as_token u).number)
act g.a_value (e ∷ []) = ending_of (sets Set (as_expr e))
act (g.place_member _ _) (t ∷ r ∷ []) = tail_of (accessed (as_token t) (as_tail r))
act (g.other_member _ _) (t ∷ r ∷ []) = tail_of (accessed (as_token t) (as_tail r))
act g.some_args (e ∷ es ∷ []) = exprs_of (x.expression (as_expr e) (as_exprs es))
act g.next_arg (t ∷ e ∷ es ∷ []) = exprs_of (x.expression (as_expr e) (as_exprs es))
act (g.some_items _) (e ∷ d ∷ es ∷ []) = items_of (an_item (as_expr e) (as_maybe d) (as_items es))
act g.item_full (e ∷ []) = e
act g.item_const (e ∷ []) = e
act (g.paired _) (t ∷ e ∷ []) = maybe_of (Some (as_expr e))
act (g.next_item _) (t ∷ r ∷ []) = r
act g.next_place (t ∷ e ∷ es ∷ []) = exprs_of (x.expression (as_expr e) (as_exprs es))
act g.var_place (t ∷ es ∷ []) = expr_of (posted (x.var (as_token t).number (as_token t).line) (as_accesses es))
act g.this_place (t ∷ es ∷ []) = expr_of (posted (x.var (as_token t).number (as_token t).line) (as_accesses es))
act g.word_place (t ∷ u ∷ r ∷ []) = expr_of (static_in (as_token t).text (as_token t).line r)
act g.hint_word_place (t ∷ u ∷ r ∷ []) = expr_of (static_in (as_token t).text (as_token t).line r)
act g.static_named_place (t ∷ u ∷ r ∷ []) = expr_of (static_in (as_token t).text (as_token t).line r)
act g.array_named_place (t ∷ u ∷ r ∷ []) = expr_of (static_in (as_token t).text (as_token t).line r)
act g.this_step_place (t ∷ es ∷ []) = expr_of (posted (x.var (as_token t).number (as_token t).line) (as_accesses es))
act g.var_static_place (t ∷ es ∷ []) = static_of (member_name (as_token t)) (as_accesses es)
act g.this_static_place (t ∷ es ∷ []) = static_of (member_name (as_token t)) (as_accesses es)
act g.place_index (t ∷ e ∷ u ∷ es ∷ []) = accesses_of (x.index (as_expr e) (as_accesses es))
act g.place_arrow (t ∷ r ∷ []) = r
act (g.place_named _) (t ∷ es ∷ []) = accesses_of (x.property (member_name (as_token t)) (as_accesses es))
act g.c_not_expr (t ∷ e ∷ []) = expr_of (x.unary (unary_of (as_token t).detail) (as_expr e) (as_token t).line)
act g.c_no_not (e ∷ []) = e
act g.c_sign_expr (t ∷ e ∷ []) = expr_of (x.unary (unary_of (as_token t).detail) (as_expr e) (as_token t).line)
act g.c_no_sign (e ∷ []) = e
act g.c_int (t ∷ []) = expr_of (x.int (as_token t).int (as_token t).line)
act g.c_text (t ∷ []) = expr_of (x.text (as_token t).text (as_token t).line)
act g.c_word (t ∷ r ∷ []) = expr_of (const_named (as_token t).text (as_token t).line (as_named r))
act g.c_hint_word (t ∷ r ∷ []) = expr_of (const_named (as_token t).text (as_token t).line (as_named r))
act g.c_static (t ∷ u ∷ r ∷ []) = expr_of (const_named (as_token t).text (as_token t).line (as_named r))
act g.c_array (t ∷ r ∷ []) = expr_of (const_named (as_token t).text (as_token t).line (as_named r))
act g.c_bracket (t ∷ es ∷ u ∷ []) = expr_of (x.array (as_items es) (as_token t).line)
act g.c_colons (t ∷ r ∷ []) = r
act g.c_class_form (t ∷ []) = named_of class_form
act (g.c_named _) (t ∷ []) = named_of (class_member (member_name (as_token t)))
act g.c_array_items (t ∷ es ∷ u ∷ []) = named_of (array_of_items (as_items es))
act g.c_array_name (t ∷ r ∷ []) = r
act g.begun_static (t ∷ c ∷ []) = begun_of (as_tail c) []
act g.ternary (t ∷ b ∷ bs ∷ []) = branches_of (branch_before (as_branch b) (as_branches bs))
act g.c_ternary (t ∷ b ∷ bs ∷ []) = branches_of (branch_before (as_branch b) (as_branches bs))
act g.short_choice (t ∷ e ∷ []) = branch_of (short_branch (as_expr e))
act g.full_choice (e ∷ t ∷ d ∷ []) = branch_of (whole_branch (as_expr e) (as_expr d))
act g.c_short_choice (t ∷ e ∷ []) = branch_of (short_branch (as_expr e))
act g.c_full_choice (e ∷ t ∷ d ∷ []) = branch_of (whole_branch (as_expr e) (as_expr d))
act g.coalesced (t ∷ e ∷ []) = step_of (coalesces (as_expr e))
act g.equality_step (t ∷ e ∷ []) = step_of (compares (compare_of (as_token t).detail) (as_expr e))
act g.order_step (t ∷ e ∷ []) = step_of (compares (compare_of (as_token t).detail) (as_expr e))
act g.instance_step (t ∷ n ∷ []) = step_of (instance_in n)
act g.or_step (t ∷ e ∷ ls ∷ []) = links_of (x.link (chain_of (as_token t).detail) (as_expr e) (as_links ls))
act g.xor_step (t ∷ e ∷ ls ∷ []) = links_of (x.link (chain_of (as_token t).detail) (as_expr e) (as_links ls))
act g.and_step (t ∷ e ∷ ls ∷ []) = links_of (x.link (chain_of (as_token t).detail) (as_expr e) (as_links ls))
act g.either_step (t ∷ e ∷ ls ∷ []) = links_of (x.link (chain_of (as_token t).detail) (as_expr e) (as_links ls))
act g.both_step (t ∷ e ∷ ls ∷ []) = links_of (x.link (chain_of (as_token t).detail) (as_expr e) (as_links ls))
act g.sign_step (t ∷ e ∷ ls ∷ []) = links_of (x.link (chain_of (as_token t).detail) (as_expr e) (as_links ls))
act g.dot_step (t ∷ e ∷ ls ∷ []) = links_of (x.link (chain_of (as_token t).detail) (as_expr e) (as_links ls))
act g.product_step (t ∷ e ∷ ls ∷ []) = links_of (x.link (chain_of (as_token t).detail) (as_expr e) (as_links ls))
act g.c_sign_step (t ∷ e ∷ ls ∷ []) = links_of (x.link (chain_of (as_token t).detail) (as_expr e) (as_links ls))
act g.c_dot_step (t ∷ e ∷ ls ∷ []) = links_of (x.link (chain_of (as_token t).detail) (as_expr e) (as_links ls))
act g.c_product_step (t ∷ e ∷ ls ∷ []) = links_of (x.link (chain_of (as_token t).detail) (as_expr e) (as_links ls))
act _ _ = unit_of

-- a first operand with what its level goes on with: one node
abbrev pub link : Value → Value → Value
link (expr_of e) v = expr_of (joined e (as_join v))
link (begun_of r js) v = begun_of r (js ++ as_join v ∷ [])
link _ _ = unit_of
