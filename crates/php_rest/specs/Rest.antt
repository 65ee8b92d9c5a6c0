-- What is left of a run, from what the machine holds: each frame is what its definition says that follows a part.
use Rattle.std.specs.Prelude.{◌+◌, List, [], ◌∷◌, ◌++◌, Some, length, drop, not, pos, false, codes, if◌then◌else◌}
use Rattle.order_map.specs.declared.key.Key.{Key}
use Rattle.php_tree.specs.declared.expr.Expr.{Expr}
use Rattle.php_tree.specs.Statements.{Statements, Cases}
use Rattle.php_tree.specs.Renamed.{renamed_var}
use Rattle.php_values.specs.declared.value.Value.{Value}
use Rattle.php_values.specs.Data.{Data, truth, int, null, data_of, data_pairs}
use Rattle.php_values.specs.Convert.{truth_of}
use Rattle.php_values.specs.Compare.{loose_equal}
use Rattle.php_world.specs.Naming.{Naming}
use Rattle.php_world.specs.Steps.{Step, at, next}
use Rattle.php_world.specs.View.{path_of}
use Rattle.php_world.specs.declared.reading.Reading.TheVariants.{Plain, Quiet}
use Rattle.php_meaning.specs.Events.{Done}
use Rattle.php_meaning.specs.World.{Name, at_line}
use Rattle.php_meaning.specs.Course as meaning
use Rattle.php_meaning.specs.Course.{Course, Stops, Ticks, Enters, Turns, While, Do, For, Signal, Gives, Normal, Returned, Breaks, Continues, Then, Does, give, hand, on_value, then_do}
use Rattle.php_meaning.specs.Refusals.{fatal, answered, value_refused, throws, plain_error}
use Rattle.php_meaning.specs.Operators.{as_text, put_out, right_of, compare_right, before_value}
use Rattle.php_meaning.specs.Constants.{with_element}
use Rattle.php_meaning.specs.Calls as calls
use Rattle.php_meaning.specs.Calls.{passed, passings, back}
use Rattle.php_meaning.specs.Apply.{apply, named_call}
use Rattle.php_meaning.specs.Stores.{indexed, assign_value, step_value, unset_at, include_text, file_back}
use Rattle.php_meaning.specs.Expressions.{read, steps, arguments, parts, items, accessed, links, branches, all_set, exit_value, unless_null, and_set, with_text}
use Rattle.php_meaning.specs.Statements.{looped, switched, choose, each_of, each_pair, return_with, echoes, last_of, all_unset, statement, statements, arms, cases, bodies, default_of, tested, on_test, file_statements}
use Rattle.php_rest.specs.Named.{named, all_named, parts_named, items_named, accesses_named, links_named, branches_named, stmt_named, block_named, arms_named, cases_named}
use Rattle.php_rest.specs.Pairs.{pairs_left}
use Rattle.php_rest.specs.Tails.{left_in}
use Rattle.php_rest.specs.Views.{entry_of, function_named, callee_named, arguments_named, context_of, position_of}
use Rattle.php_rest.specs.declared.turns.Loop.{Loop}
use Rattle.php_rest.specs.declared.turns.Loop.TheVariants as loop
use Rattle.php_rest.specs.declared.turns.Each.{Each}
use Rattle.php_rest.specs.declared.now.Printed.{Printed}
use Rattle.php_rest.specs.declared.now.Printed.TheVariants.{Nothing, One, End}
use Rattle.php_rest.specs.declared.now.Ending.{Ending}
use Rattle.php_rest.specs.declared.now.Ending.TheVariants as ending
use Rattle.php_rest.specs.declared.now.Now.{Now}
use Rattle.php_rest.specs.declared.now.Now.TheVariants as now
use Rattle.php_rest.specs.declared.expr_frame.ExprFrame.{ExprFrame}
use Rattle.php_rest.specs.declared.expr_frame.ExprFrame.TheVariants as f
use Rattle.php_rest.specs.declared.place_frame.Target.{Target}
use Rattle.php_rest.specs.declared.place_frame.Target.TheVariants as target
use Rattle.php_rest.specs.declared.place_frame.PlaceFrame.{PlaceFrame}
use Rattle.php_rest.specs.declared.place_frame.PlaceFrame.TheVariants as p
use Rattle.php_rest.specs.declared.stmt_frame.StmtFrame.{StmtFrame}
use Rattle.php_rest.specs.declared.stmt_frame.StmtFrame.TheVariants as b
use Rattle.php_rest.specs.declared.call_frame.CallFrame.{CallFrame}
use Rattle.php_rest.specs.declared.call_frame.CallFrame.TheVariants as c
use Rattle.php_rest.specs.declared.frame.Frame.{Frame}
use Rattle.php_rest.specs.declared.frame.Frame.TheVariants.{OfExpr, OfPlace, OfStmt, OfCall}

-- ---- loops

abbrev pub loop_named : Naming → Loop → meaning.Loop
loop_named t (loop.While x ss l) = While (named t x.now) (block_named t ss.now) l
loop_named t (loop.Do ss x l) = Do (block_named t ss.now) (named t x.now) l
loop_named t (loop.For ys zs ss l) = For (all_named t ys.now) (all_named t zs.now) (block_named t ss.now) l

-- after the test of a loop
abbrev pub loop_tested : meaning.Loop → Data → Does
loop_tested (While x ss l) d = tested (statements ss) (Turns (While x ss l)) d
loop_tested (Do ss x l) d = on_test (Turns (Do ss x l)) d
loop_tested (For ys zs ss l) d = tested (statements ss) (λ v j. last_of zs null (λ e. Turns (For ys zs ss l)) (at_line l v) j) d

-- after the body of a loop, unless it was left
abbrev pub loop_again : meaning.Loop → Does
loop_again (While x ss l) w k = Turns (While x ss l) w k
loop_again (Do ss x l) w k = read Plain x (at_line l w) (on_value (on_test (Turns (Do ss x l))) k)
loop_again (For ys zs ss l) w k = last_of zs null (λ d. Turns (For ys zs ss l)) (at_line l w) k

-- what a `foreach` does with an array
abbrev pub each_data : Naming → Each → Data → Does
each_data t e d = each_of (renamed_var t.name e.key) (t.name e.element) (statements (block_named t e.body.now)) d

-- the turns of a `foreach` for the pairs that are left
abbrev pub each_left : Naming → Each → List (Key × Value) → Does
each_left t e ps = each_pair (renamed_var t.name e.key) (t.name e.element) (statements (block_named t e.body.now)) (data_pairs ps)

-- ---- what comes next

-- what comes once bytes were put out
abbrev pub once_printed : Printed → Does
once_printed Nothing = hand Normal
once_printed One = give (int (pos 1))
once_printed End = λ w k. Stops Done w

-- how a statement ended
abbrev pub signal_of : Ending → Signal
signal_of ending.Normal = Normal
signal_of (ending.Returned value) = Returned (data_of value)
signal_of (ending.Breaks n) = Breaks n
signal_of (ending.Continues n) = Continues n

-- what comes next
abbrev pub next_of : Naming → Now → Does
next_of t (now.Evaluate e) = read Plain (named t e.now)
next_of t (now.Probe e) = read Quiet (named t e.now)
next_of t (now.Node how e) = read how (named t e.now)
next_of t (now.Give v) = give (data_of v)
next_of t (now.End e) = hand (signal_of e)
next_of t (now.Print text behind) = put_out text (once_printed behind)
next_of t now.Exit = λ w k. Stops Done w
next_of t (now.Fail why) = fatal why
next_of t (now.FailAfterTick why) = λ w k. Ticks w (fatal why w k)
next_of t (now.Block ss) = statements (block_named t (left_in ss))
next_of t (now.OfFile ss) = file_statements (block_named t (left_in ss))
next_of t (now.PassBy ss) = λ w k. Ticks w (file_statements (block_named t (left_in ss)) w k)
next_of t (now.Run x) = statement (stmt_named t x.now)
next_of t (now.Turn l) = Turns (loop_named t l)
next_of t (now.Each e turns) = each_left t e (pairs_left turns)
next_of t (now.Enter o) = λ w k. Enters (entry_of o) w k
next_of t (now.CallNamed name args) = named_call (λ c. apply c (arguments_named t args)) name

-- what a frame of an expression does with what it is given
abbrev pub after_expr : Naming → ExprFrame → Then → Then
after_expr t (f.Links more) k = on_value (links (links_named t more.now)) k
after_expr t (f.RightOf op a more) k = right_of op (data_of a) (links (links_named t more.now)) k
after_expr t (f.CompareWith op e) k = on_value (λ d v j. read Plain (named t e.now) v (compare_right op d j)) k
after_expr t (f.CompareRight op a) k = compare_right op (data_of a) k
after_expr t (f.Before op) k = on_value (before_value op) k
after_expr t (f.Branches more) k = on_value (branches (branches_named t more.now)) k
after_expr t (f.UnlessNull e) k = on_value (unless_null (read Plain (named t e.now))) k
after_expr t f.IsEmpty k = on_value (λ d. give (truth (not (truth_of d)))) k
after_expr t (f.AllSet more) k = on_value (and_set (all_set (all_named t more.now))) k
after_expr t f.ExitWith k = on_value exit_value k
after_expr t f.PrintOf k = on_value (as_text (λ text. put_out text (give (int (pos 1))))) k
after_expr t f.InstanceOf k = on_value (λ d. give (truth false)) k
after_expr t f.CloneOf k = on_value (λ d. throws plain_error (codes "Not an object")) k
after_expr t (f.Quoted so_far more) k = on_value (with_text so_far (parts (parts_named t more.now))) k
after_expr t (f.ItemOf a more) k = on_value (λ d. with_element (data_of a) next d (items (items_named t more.now))) k
after_expr t (f.KeyOf a e more) k = on_value (λ i v j. read Plain (named t e.now) v (on_value (λ d. with_element (data_of a) (at i) d (items (items_named t more.now))) j)) k
after_expr t (f.PairOf a i more) k = on_value (λ d. with_element (data_of a) (at (data_of i)) d (items (items_named t more.now))) k
after_expr t (f.Accessed how more) k = on_value (accessed how (accesses_named t more.now)) k
after_expr t (f.IndexOf how d more) k = indexed how (data_of d) (accessed how (accesses_named t more.now)) k

-- what is done with a path of keys
abbrev pub used : Naming → Target → List Step → Does
used t (target.Assign x op e) path = λ w k. read Plain (named t e.now) w (on_value (assign_value (t.name x) path op) k)
used t (target.Step x op) path = step_value (t.name x) path op
used t (target.Unset x es) path = unset_at (t.name x) path (all_unset (all_named t (left_in es)))

-- what a frame of a node that writes a variable does with what it is given
abbrev pub after_place : Naming → PlaceFrame → Then → Then
after_place t (p.KeyIn path more target) k = on_value (λ d. steps (accesses_named t (left_in more)) (path_of path ++ at d ∷ []) (used t target)) k
after_place t (p.KeysBehind path more target) k = then_do (steps (accesses_named t (left_in more)) (path_of path) (used t target)) k
after_place t (p.AssignTo x path op) k = on_value (assign_value (t.name x) (path_of path) op) k

-- the arm of a `switch` whose value is equal, and all that follows it; else the arms behind it, and else the default
abbrev pub on_case : Data → Statements Name → Cases Name → Cases Name → Data → Does
on_case d ss cs all c = answered value_refused (λ same v j. if same then statements ss v (then_do (bodies cs) j) else cases cs (default_of all) d v j) (loose_equal d c)

-- what a frame of a statement does with what it is given
abbrev pub after_stmt : Naming → StmtFrame → Then → Then
after_stmt t (b.Then ss) k = then_do (statements (block_named t (left_in ss))) k
after_stmt t (b.ThenOfFile ss) k = then_do (file_statements (block_named t (left_in ss))) k
after_stmt t (b.EchoOf es) k = on_value (as_text (λ text. put_out text (echoes (all_named t (left_in es))))) k
after_stmt t (b.ThenEcho es) k = then_do (echoes (all_named t (left_in es))) k
after_stmt t b.Discard k = on_value (λ d. hand Normal) k
after_stmt t (b.Choose ss xs others) k = on_value (choose (statements (block_named t ss.now)) (arms (arms_named t (left_in xs)) (statements (block_named t others.now)))) k
after_stmt t (b.Test l) k = on_value (loop_tested (loop_named t l)) k
after_stmt t (b.Body l) k = looped (loop_again (loop_named t l)) k
after_stmt t (b.ForList es l) k = on_value (λ d. last_of (all_named t (left_in es)) d (λ e. Turns (loop_named t l))) k
after_stmt t (b.ForTest es l) k = on_value (λ d. last_of (all_named t (left_in es)) d (loop_tested (loop_named t l))) k
after_stmt t (b.EachOf e) k = on_value (each_data t e) k
after_stmt t (b.EachBody e turns) k = looped (each_left t e (pairs_left turns)) k
after_stmt t (b.SwitchOf cs) k = on_value (λ d v j. cases (cases_named t cs.now) (default_of (cases_named t cs.now)) d v (switched j)) k
after_stmt t (b.CaseOf d ss cs all) k = on_value (on_case (data_of d) (block_named t ss.now) (cases_named t (left_in cs)) (cases_named t all.now)) k
after_stmt t (b.Bodies cs) k = then_do (bodies (cases_named t (left_in cs))) k
after_stmt t b.InSwitch k = switched k
after_stmt t (b.ThenUnset es) k = then_do (all_unset (all_named t (left_in es))) k
after_stmt t b.ReturnOf k = on_value (λ d. return_with (Some d)) k
after_stmt t b.ThrowOf k = on_value (λ d. throws plain_error (codes "Not throwable")) k

-- the arguments of a call behind one that has a value
abbrev pub more_arguments : Naming → calls.Callee → List calls.Argument → List Expr → Data → Does
more_arguments t c so_far es d = arguments (all_named t es) (drop (length so_far + 1) (passings c)) (so_far ++ passed d ∷ []) (apply c)

-- what a frame of a call or an include does with what it is given
abbrev pub after_call : Naming → CallFrame → Then → Then
after_call t (c.ArgumentOf f so_far es) k = on_value (more_arguments t (callee_named t f) (arguments_named t so_far) (left_in es)) k
after_call t (c.IncludeOf kind) k = on_value (as_text (include_text kind)) k
after_call t (c.Caller f caller) k = back (function_named t f) (context_of caller) (position_of caller) k
after_call t (c.Includer includer) k = file_back (context_of includer) (position_of includer) k

-- what a frame does with what it is given
abbrev pub after : Naming → Frame → Then → Then
after t (OfExpr f) k = after_expr t f k
after t (OfPlace f) k = after_place t f k
after t (OfStmt f) k = after_stmt t f k
after t (OfCall f) k = after_call t f k

-- what frames do with what they are given, the newest first, before what is left below them
abbrev pub rest : Naming → List Frame → Then → Then
rest t [] k = k
rest t (f ∷ fs) k = after t f (rest t fs k)
