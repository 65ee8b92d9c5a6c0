-- What the parts of the code stand for.
use Rattle.std.specs.Prelude.{ℕ, List, Option, Some, None, map}
use Rattle.php_grammar.specs.Values as v
use Rattle.php_tree.specs.Statements.{Statements}
use Rattle.php_tree.specs.declared.file.Span.{Span}
use Rattle.php_tree.specs.declared.expr.Expr.{Expr}
use Rattle.php_tree.specs.declared.expr.Branch.{Branch}
use Rattle.php_tree.specs.declared.expr.Branch.TheVariants as b
use Rattle.php_tree.specs.ExpressionOf.{expression_of, expressions_of, items_of, accesses_of, links_of, branches_of, expression_or_none}
use Rattle.php_tree.specs.StatementOf.{statement_of, statements_of, arms_of, cases_of, clauses_of, members_of, parameter_of, head_of, static_of, constant_of, class_constant_of, property_of}
use Rattle.php_building.specs.declared.part.Ending.{Ending}
use Rattle.php_building.specs.declared.part.Ending.TheVariants as e
use Rattle.php_building.specs.declared.part.First.{First}
use Rattle.php_building.specs.declared.part.First.TheVariants as f
use Rattle.php_building.specs.declared.part.Tail.{Tail}
use Rattle.php_building.specs.declared.part.ConstTail.{ConstTail}
use Rattle.php_building.specs.declared.part.ConstTail.TheVariants as c
use Rattle.php_building.specs.declared.part.Step.{Step}
use Rattle.php_building.specs.declared.part.Step.TheVariants as s
use Rattle.php_building.specs.declared.part.Join.{Join}
use Rattle.php_building.specs.declared.part.Join.TheVariants as j
use Rattle.php_building.specs.declared.part.Body.{Body}
use Rattle.php_building.specs.declared.part.Core.{Core}
use Rattle.php_building.specs.declared.part.Core.TheVariants as m

abbrev pub ending_of : Ending → v.Ending
ending_of e.Nowhere = v.nowhere
ending_of (e.Sets op d) = v.sets op (expression_of d)
ending_of (e.Refers w) = v.refers w
ending_of (e.StepsBy op) = v.steps_by op

abbrev pub first_of : First → v.First
first_of f.Nothing = v.nothing
first_of (f.Arguments es) = v.arguments (expressions_of es)
first_of (f.GivenTo d) = v.given_to (expression_or_none d)
first_of (f.AtProperty name) = v.at_property name
first_of f.AtClass = v.at_class
first_of (f.AtMember name) = v.at_member name
first_of (f.AtCall name es) = v.at_call name (expressions_of es)

abbrev pub tail_of : Tail → v.Tail
tail_of t = record { first = first_of t.first; accesses = accesses_of t.accesses; ending = ending_of t.ending }

abbrev pub const_tail_of : ConstTail → v.ConstTail
const_tail_of c.OnlyWord = v.only_word
const_tail_of c.ClassForm = v.class_form
const_tail_of (c.ClassMember name) = v.class_member name
const_tail_of (c.ArrayOfItems es) = v.array_of_items (items_of es)

abbrev pub branch_of : Branch Expr → v.Branch
branch_of (b.Full d x) = v.whole_branch (expression_of d) (expression_of x)
branch_of (b.Short x) = v.short_branch (expression_of x)

abbrev pub step_of : Step → v.Step
step_of (s.Coalesces d) = v.coalesces (expression_of d)
step_of (s.Compares op d) = v.compares op (expression_of d)
step_of (s.InstanceOf name) = v.instance_of name
step_of (s.InstanceOfVar w) = v.instance_of_var w

abbrev pub join_of : Join → v.Join
join_of (j.ByLinks ls) = v.by_links (links_of ls)
join_of (j.ByBranches bs) = v.by_branches (branches_of bs)
join_of (j.ByStep st) = v.by_step (step_of st)
join_of j.ByNothing = v.by_nothing

abbrev pub body_of : Option Body → Option (Statements ℕ × Span)
body_of None = None
body_of (Some body) = Some (statements_of body.stmts, body.span)

abbrev pub core_of : Core → v.Core
core_of (m.Constants cs) = v.constants_core (map class_constant_of cs)
core_of (m.Properties ps) = v.properties_core (map property_of ps)
core_of (m.Function h body) = v.function_core (head_of h) (body_of body)
