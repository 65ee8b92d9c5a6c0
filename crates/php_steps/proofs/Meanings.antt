-- What each node of the code means, with the names of its variables.
use Rattle.std.proofs.Common.{◌≡◌, ℕ, ℤ, List, [], ap, pos, not}
use Rattle.std.specs.Prelude.{codes, true, false}
use Rattle.php_tree.specs.declared.name.ClassName.{ClassName}
use Rattle.php_tree.specs.declared.name.MemberName.{MemberName}
use Rattle.php_tree.specs.declared.expr.ChainOp.{ChainOp}
use Rattle.php_tree.specs.declared.expr.CompareOp.{CompareOp}
use Rattle.php_tree.specs.declared.expr.UnaryOp.{UnaryOp}
use Rattle.php_tree.specs.declared.expr.QuotePart.{QuotePart}
use Rattle.php_tree.specs.declared.expr.Item.{Item}
use Rattle.php_tree.specs.declared.expr.Branch.{Branch}
use Rattle.php_tree.specs.declared.expr.Access.{Access}
use Rattle.php_tree.specs.declared.expr.Expr.{Expr}
use Rattle.php_tree.specs.declared.expr.Expr.TheVariants as x
use Rattle.php_tree.specs.ExpressionOf.{expression_of}
use Rattle.php_tree.specs.Renamed.{renamed}
use Rattle.php_tree.proofs.Expressions as seen
use Rattle.php_values.specs.Data.{Data, int, bytes, truth}
use Rattle.php_values.specs.Convert.{truth_of}
use Rattle.php_world.specs.Naming.{Naming}
use Rattle.php_world.specs.Variables.{value_of}
use Rattle.php_world.specs.declared.reading.Reading.{Reading}
use Rattle.php_world.specs.declared.reading.Reading.TheVariants.{Plain, Quiet}
use Rattle.php_meaning.specs.Events.{Done}
use Rattle.php_meaning.specs.World.{World}
use Rattle.php_meaning.specs.Course.{Stops, Ticks, Then, give, on_value}
use Rattle.php_meaning.specs.Refusals.{throws, plain_error, fatal}
use Rattle.php_meaning.specs.Operators.{as_text, put_out, before_value, compare_right}
use Rattle.php_meaning.specs.Constants.{no_elements}
use Rattle.php_meaning.specs.Expressions.{read, parts, items, links, branches, all_set, exit_value, unless_null}
use Rattle.php_meaning.specs.declared.fatal.FatalName.TheVariants as name
use Rattle.php_rest.specs.Named.{named, all_named, parts_named, items_named, links_named, branches_named}

pub read-Int : (t : Naming) (how : Reading) (n : ℤ) (l : ℕ) (w : World) (k : Then) → read how (named t (x.Int n l)) w k ≡ give (int n) w k
read-Int t how n l w k = ap (λ e. read how (renamed t.name e) w k) (seen.expression_of-Int n l)

pub read-Text : (t : Naming) (how : Reading) (s : List ℕ) (l : ℕ) (w : World) (k : Then) → read how (named t (x.Text s l)) w k ≡ give (bytes s) w k
read-Text t how s l w k = ap (λ e. read how (renamed t.name e) w k) (seen.expression_of-Text s l)

pub read-Quote : (t : Naming) (how : Reading) (ps : List (QuotePart Expr)) (l : ℕ) (w : World) (k : Then) → read how (named t (x.Quote ps l)) w k ≡ parts (parts_named t ps) [] w k
read-Quote t how ps l w k = ap (λ e. read how (renamed t.name e) w k) (seen.expression_of-Quote ps l)

pub read-Var : (t : Naming) (how : Reading) (v l : ℕ) (w : World) (k : Then) → read how (named t (x.Var v l)) w k ≡ give (value_of (t.name v) w.vars) w k
read-Var t how v l w k = ap (λ e. read how (renamed t.name e) w k) (seen.expression_of-Var v l)

pub read-Array : (t : Naming) (how : Reading) (es : List (Item Expr)) (l : ℕ) (w : World) (k : Then) → read how (named t (x.Array es l)) w k ≡ items (items_named t es) no_elements w k
read-Array t how es l w k = ap (λ e. read how (renamed t.name e) w k) (seen.expression_of-Array es l)

pub read-Paren : (t : Naming) (how : Reading) (e : Expr) (l : ℕ) (w : World) (k : Then) → read how (named t (x.Paren e l)) w k ≡ read Plain (named t e) w k
read-Paren t how e l w k = ap (λ e. read how (renamed t.name e) w k) (seen.expression_of-Paren e l)

pub read-Isset : (t : Naming) (how : Reading) (es : List Expr) (l : ℕ) (w : World) (k : Then) → read how (named t (x.Isset es l)) w k ≡ all_set (all_named t es) w k
read-Isset t how es l w k = ap (λ e. read how (renamed t.name e) w k) (seen.expression_of-Isset es l)

pub read-Empty : (t : Naming) (how : Reading) (e : Expr) (l : ℕ) (w : World) (k : Then) → read how (named t (x.Empty e l)) w k ≡ read Quiet (named t e) w (on_value (λ d. give (truth (not (truth_of d)))) k)
read-Empty t how e l w k = ap (λ e. read how (renamed t.name e) w k) (seen.expression_of-Empty e l)

pub read-Exit : (t : Naming) (how : Reading) (l : ℕ) (w : World) (k : Then) → read how (named t (x.Exit l)) w k ≡ Stops Done w
read-Exit t how l w k = ap (λ e. read how (renamed t.name e) w k) (seen.expression_of-Exit l)

pub read-ExitWith : (t : Naming) (how : Reading) (e : Expr) (l : ℕ) (w : World) (k : Then) → read how (named t (x.ExitWith e l)) w k ≡ read Plain (named t e) w (on_value exit_value k)
read-ExitWith t how e l w k = ap (λ e. read how (renamed t.name e) w k) (seen.expression_of-ExitWith e l)

pub read-New : (t : Naming) (how : Reading) (c : ClassName) (es : List Expr) (l : ℕ) (w : World) (k : Then) → read how (named t (x.New c es l)) w k ≡ Ticks w (fatal name.Uncaught w k)
read-New t how c es l w k = ap (λ e. read how (renamed t.name e) w k) (seen.expression_of-New c es l)

pub read-NewVar : (t : Naming) (how : Reading) (v : ℕ) (es : List Expr) (l : ℕ) (w : World) (k : Then) → read how (named t (x.NewVar v es l)) w k ≡ Ticks w (fatal name.Uncaught w k)
read-NewVar t how v es l w k = ap (λ e. read how (renamed t.name e) w k) (seen.expression_of-NewVar v es l)

pub read-ClassConstant : (t : Naming) (how : Reading) (c : ClassName) (m : MemberName) (l : ℕ) (w : World) (k : Then) → read how (named t (x.ClassConstant c m l)) w k ≡ fatal name.Uncaught w k
read-ClassConstant t how c m l w k = ap (λ e. read how (renamed t.name e) w k) (seen.expression_of-ClassConstant c m l)

pub read-StaticCall : (t : Naming) (how : Reading) (c : ClassName) (m : MemberName) (es : List Expr) (l : ℕ) (w : World) (k : Then) → read how (named t (x.StaticCall c m es l)) w k ≡ Ticks w (fatal name.Uncaught w k)
read-StaticCall t how c m es l w k = ap (λ e. read how (renamed t.name e) w k) (seen.expression_of-StaticCall c m es l)

pub read-StaticProperty : (t : Naming) (how : Reading) (c : ClassName) (m : MemberName) (l : ℕ) (w : World) (k : Then) → read how (named t (x.StaticProperty c m l)) w k ≡ fatal name.Uncaught w k
read-StaticProperty t how c m l w k = ap (λ e. read how (renamed t.name e) w k) (seen.expression_of-StaticProperty c m l)

pub read-ClassText : (t : Naming) (how : Reading) (c : ClassName) (l : ℕ) (w : World) (k : Then) → read how (named t (x.ClassText c l)) w k ≡ fatal name.Uncaught w k
read-ClassText t how c l w k = ap (λ e. read how (renamed t.name e) w k) (seen.expression_of-ClassText c l)

pub read-Chain : (t : Naming) (how : Reading) (e : Expr) (es : List (ChainOp × Expr)) (l : ℕ) (w : World) (k : Then) → read how (named t (x.Chain e es l)) w k ≡ read Plain (named t e) w (on_value (links (links_named t es)) k)
read-Chain t how e es l w k = ap (λ e. read how (renamed t.name e) w k) (seen.expression_of-Chain e es l)

pub read-Print : (t : Naming) (how : Reading) (e : Expr) (l : ℕ) (w : World) (k : Then) → read how (named t (x.Print e l)) w k ≡ read Plain (named t e) w (on_value (as_text (λ text. put_out text (give (int (pos 1))))) k)
read-Print t how e l w k = ap (λ e. read how (renamed t.name e) w k) (seen.expression_of-Print e l)

pub read-Choice : (t : Naming) (how : Reading) (e : Expr) (es : List (Branch Expr)) (l : ℕ) (w : World) (k : Then) → read how (named t (x.Choice e es l)) w k ≡ read Plain (named t e) w (on_value (branches (branches_named t es)) k)
read-Choice t how e es l w k = ap (λ e. read how (renamed t.name e) w k) (seen.expression_of-Choice e es l)

pub read-Coalesce : (t : Naming) (how : Reading) (e d : Expr) (l : ℕ) (w : World) (k : Then) → read how (named t (x.Coalesce e d l)) w k ≡ read Quiet (named t e) w (on_value (unless_null (read Plain (named t d))) k)
read-Coalesce t how e d l w k = ap (λ e. read how (renamed t.name e) w k) (seen.expression_of-Coalesce e d l)

pub read-Compare : (t : Naming) (how : Reading) (e : Expr) (op : CompareOp) (d : Expr) (l : ℕ) (w : World) (k : Then) → read how (named t (x.Compare e op d l)) w k ≡ read Plain (named t e) w (on_value (λ a v j. read Plain (named t d) v (compare_right op a j)) k)
read-Compare t how e op d l w k = ap (λ e. read how (renamed t.name e) w k) (seen.expression_of-Compare e op d l)

pub read-Unary : (t : Naming) (how : Reading) (op : UnaryOp) (e : Expr) (l : ℕ) (w : World) (k : Then) → read how (named t (x.Unary op e l)) w k ≡ read Plain (named t e) w (on_value (before_value op) k)
read-Unary t how op e l w k = ap (λ e. read how (renamed t.name e) w k) (seen.expression_of-Unary op e l)

pub read-InstanceOf : (t : Naming) (how : Reading) (e : Expr) (c : ClassName) (l : ℕ) (w : World) (k : Then) → read how (named t (x.InstanceOf e c l)) w k ≡ read Plain (named t e) w (on_value (λ d. give (truth false)) k)
read-InstanceOf t how e c l w k = ap (λ e. read how (renamed t.name e) w k) (seen.expression_of-InstanceOf e c l)

pub read-InstanceOfVar : (t : Naming) (how : Reading) (e : Expr) (v l : ℕ) (w : World) (k : Then) → read how (named t (x.InstanceOfVar e v l)) w k ≡ read Plain (named t e) w (on_value (λ d. give (truth false)) k)
read-InstanceOfVar t how e v l w k = ap (λ e. read how (renamed t.name e) w k) (seen.expression_of-InstanceOfVar e v l)

pub read-Clone : (t : Naming) (how : Reading) (e : Expr) (l : ℕ) (w : World) (k : Then) → read how (named t (x.Clone e l)) w k ≡ read Plain (named t e) w (on_value (λ d. throws plain_error (codes "Not an object")) k)
read-Clone t how e l w k = ap (λ e. read how (renamed t.name e) w k) (seen.expression_of-Clone e l)

pub ruleset reads = (read-Int, read-Text, read-Quote, read-Var, read-Array, read-Paren, read-Isset, read-Empty, read-Exit, read-ExitWith, read-New, read-NewVar, read-ClassConstant, read-StaticCall, read-StaticProperty, read-ClassText, read-Chain, read-Print, read-Choice, read-Coalesce, read-Compare, read-Unary, read-InstanceOf, read-InstanceOfVar, read-Clone)
