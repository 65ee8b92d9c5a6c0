-- What a token says, and what is made of what was read.
use Rattle.std.specs.Prelude.{ℕ, ℤ, pos, List, [], ◌∷◌, Option, Some, None, Bool, true, false}
use Rattle.php_tree.specs.declared.name.FunName.{FunName}
use Rattle.php_tree.specs.declared.name.ConstName.{ConstName}
use Rattle.php_tree.specs.declared.name.ClassName.{ClassName}
use Rattle.php_tree.specs.declared.name.MemberName.{MemberName}
use Rattle.php_tree.specs.declared.decl.Hint.{Hint}
use Rattle.php_tree.specs.declared.decl.Modifiers.{Modifiers}
use Rattle.php_tree.specs.declared.file.Span.{Span}
use Rattle.php_tree.specs.declared.expr.AssignOp.{AssignOp}
use Rattle.php_tree.specs.declared.expr.StepOp.{StepOp}
use Rattle.php_tree.specs.declared.expr.QuotePart.{QuotePart}
use Rattle.php_tree.specs.declared.expr.CompareOp.{CompareOp}
use Rattle.php_tree.specs.Expressions as x
use Rattle.php_tree.specs.Expressions.{Expression, Expressions, ArrayItems, Accesses, Links, Branches}
use Rattle.php_tree.specs.Statements as y
use Rattle.php_tree.specs.Statements.{Statement, Statements, Arms, Cases, Clauses, Members, Parameter, Head}
use Rattle.php_grammar.specs.declared.token.Kind.{Kind}
use Rattle.php_grammar.specs.declared.token.Kind.TheVariants.{End}
use Rattle.php_grammar.specs.declared.token.Detail.{Detail}
pub use Rattle.php_grammar.specs.declared.lexeme.Lexeme.{Lexeme}
use Rattle.php_grammar.specs.declared.token.Detail.TheVariants.{Only}

-- how an operand ends that began as a place
pub data Ending : Type 0 where
  nowhere : Ending
  sets : AssignOp → Expression ℕ → Ending
  refers : ℕ → Ending
  steps_by : StepOp → Ending

-- what stands directly after the head of an operand; after a class and `::` a property, `class` or another member
pub data First : Type 0 where
  nothing : First
  arguments : Expressions ℕ → First
  given_to : Option (Expression ℕ) → First
  at_property : MemberName → First
  at_class : First
  at_member : MemberName → First
  at_call : MemberName → Expressions ℕ → First

-- what stands after the head of an operand
pub record Tail : Type 0 where
  pub first : First
  pub accesses : Accesses ℕ
  pub ending : Ending

-- what stands after a word in a constant expression: nothing, `::class`, `::` and a name, or the items of `array(..)`
pub data ConstTail : Type 0 where
  only_word : ConstTail
  class_form : ConstTail
  class_member : MemberName → ConstTail
  array_of_items : ArrayItems ℕ → ConstTail

-- what stands after one `?`
pub data Branch : Type 0 where
  whole_branch : Expression ℕ → Expression ℕ → Branch
  short_branch : Expression ℕ → Branch

-- an operator of a level that does not go on, with what stands after it
pub data Step : Type 0 where
  coalesces : Expression ℕ → Step
  compares : CompareOp → Expression ℕ → Step
  instance_of : ClassName → Step
  instance_of_var : ℕ → Step

-- what a level goes on with
pub data Join : Type 0 where
  by_links : Links ℕ → Join
  by_branches : Branches ℕ → Join
  by_step : Step → Join
  by_nothing : Join

-- a member without its modifiers
pub data Core : Type 0 where
  constants_core : List (MemberName × Expression ℕ) → Core
  properties_core : List (MemberName × Option (Expression ℕ)) → Core
  function_core : Head ℕ → Option (Statements ℕ × Span) → Core

-- ---- what is read, as a value

pub data Value : Type 0 where
  leaf : Lexeme → Value
  stmt_of : (Statement ℕ) → Value
  stmts_of : (Statements ℕ) → Value
  expr_of : (Expression ℕ) → Value
  exprs_of : (Expressions ℕ) → Value
  -- a class and what goes on with it, whose first token is not known yet
  begun_of : Tail → List Join → Value
  maybe_of : (Option (Expression ℕ)) → Value
  links_of : (Links ℕ) → Value
  branches_of : (Branches ℕ) → Value
  branch_of : Branch → Value
  step_of : Step → Value
  tail_of : Tail → Value
  ending_of : Ending → Value
  accesses_of : (Accesses ℕ) → Value
  items_of : (ArrayItems ℕ) → Value
  -- what stands after the word `array`: items, or `::`; and what goes on with it
  array_of : Option (ArrayItems ℕ) → Tail → Value
  -- what stands after a class and `::` in a place
  static_of : MemberName → Accesses ℕ → Value
  named_of : ConstTail → Value
  class_of : ClassName → Value
  var_of : ℕ → Value
  vars_of : (List ℕ) → Value
  second_of : (Option ℕ) → Value
  statics_of : (List (ℕ × Option (Expression ℕ))) → Value
  constants_of : (List (ConstName × Expression ℕ)) → Value
  class_constants_of : (List (MemberName × Expression ℕ)) → Value
  properties_of : (List (MemberName × Option (Expression ℕ))) → Value
  text_of : (Option (List ℕ)) → Value
  int_of : ℤ → Value
  names_of : (List ClassName) → Value
  parent_of : (Option ClassName) → Value
  hint_of : (Option Hint) → Value
  params_of : (List (Parameter ℕ)) → Value
  param_of : (Parameter ℕ) → Value
  amp_of : Bool → Value
  cases_of : (Cases ℕ) → Value
  clauses_of : (Clauses ℕ) → Value
  members_of : (Members ℕ) → Value
  body_of : (Option (Statements ℕ × Span)) → Value
  -- what an `if` guards, its further arms, and what stands after its `else`
  if_parts : (Statements ℕ) → (Arms ℕ) → (Statements ℕ) → Value
  -- a member with its modifiers: the line of its first token, and the rest
  modded_of : ℕ → Modifiers → Core → Value
  unit_of : Value

-- ---- what a value holds, where it is of that kind; else something empty

abbrev pub no_token : Lexeme
no_token = record { kind = End; detail = Only; at = 0; line = 0; number = 0; int = pos 0; text = []; parts = [] }

abbrev pub empty_tail : Tail
empty_tail = record { first = nothing; accesses = x.no_accesses; ending = nowhere }

abbrev pub no_class : ClassName
no_class = record { text = []; line = 0 }

abbrev pub no_parameter : Parameter ℕ
no_parameter = record { hint = None; by_reference = false; variable = 0; default = None; line = 0 }

abbrev pub as_token : Value → Lexeme
as_token (leaf a) = a
as_token _ = no_token

abbrev pub as_stmt : Value → Statement ℕ
as_stmt (stmt_of a) = a
as_stmt _ = (y.nothing 0)

abbrev pub as_stmts : Value → Statements ℕ
as_stmts (stmts_of a) = a
as_stmts _ = y.no_more

abbrev pub as_expr : Value → Expression ℕ
as_expr (expr_of a) = a
as_expr _ = (x.exit 0)

abbrev pub as_exprs : Value → Expressions ℕ
as_exprs (exprs_of a) = a
as_exprs _ = x.no_more

abbrev pub as_maybe : Value → Option (Expression ℕ)
as_maybe (maybe_of a) = a
as_maybe _ = None

abbrev pub as_links : Value → Links ℕ
as_links (links_of a) = a
as_links _ = x.no_links

abbrev pub as_branches : Value → Branches ℕ
as_branches (branches_of a) = a
as_branches _ = x.no_branches

abbrev pub as_branch : Value → Branch
as_branch (branch_of a) = a
as_branch _ = (short_branch (x.exit 0))

abbrev pub as_tail : Value → Tail
as_tail (tail_of a) = a
as_tail _ = empty_tail

abbrev pub as_ending : Value → Ending
as_ending (ending_of a) = a
as_ending _ = nowhere

abbrev pub as_accesses : Value → Accesses ℕ
as_accesses (accesses_of a) = a
as_accesses _ = x.no_accesses

abbrev pub as_items : Value → ArrayItems ℕ
as_items (items_of a) = a
as_items _ = x.no_items

abbrev pub as_named : Value → ConstTail
as_named (named_of a) = a
as_named _ = only_word

abbrev pub as_class : Value → ClassName
as_class (class_of a) = a
as_class _ = no_class

abbrev pub as_vars : Value → List ℕ
as_vars (vars_of a) = a
as_vars _ = []

abbrev pub as_second : Value → Option ℕ
as_second (second_of a) = a
as_second _ = None

abbrev pub as_statics : Value → List (ℕ × Option (Expression ℕ))
as_statics (statics_of a) = a
as_statics _ = []

abbrev pub as_constants : Value → List (ConstName × Expression ℕ)
as_constants (constants_of a) = a
as_constants _ = []

abbrev pub as_class_constants : Value → List (MemberName × Expression ℕ)
as_class_constants (class_constants_of a) = a
as_class_constants _ = []

abbrev pub as_properties : Value → List (MemberName × Option (Expression ℕ))
as_properties (properties_of a) = a
as_properties _ = []

abbrev pub as_text : Value → Option (List ℕ)
as_text (text_of a) = a
as_text _ = None

abbrev pub as_int : Value → ℤ
as_int (int_of a) = a
as_int _ = (pos 0)

abbrev pub as_names : Value → List ClassName
as_names (names_of a) = a
as_names _ = []

abbrev pub as_parent : Value → Option ClassName
as_parent (parent_of a) = a
as_parent _ = None

abbrev pub as_hint : Value → Option Hint
as_hint (hint_of a) = a
as_hint _ = None

abbrev pub as_params : Value → List (Parameter ℕ)
as_params (params_of a) = a
as_params _ = []

abbrev pub as_param : Value → Parameter ℕ
as_param (param_of a) = a
as_param _ = no_parameter

abbrev pub as_amp : Value → Bool
as_amp (amp_of a) = a
as_amp _ = false

abbrev pub as_cases : Value → Cases ℕ
as_cases (cases_of a) = a
as_cases _ = y.no_cases

abbrev pub as_clauses : Value → Clauses ℕ
as_clauses (clauses_of a) = a
as_clauses _ = y.no_clauses

abbrev pub as_members : Value → Members ℕ
as_members (members_of a) = a
as_members _ = y.no_members

abbrev pub as_body : Value → Option (Statements ℕ × Span)
as_body (body_of a) = a
as_body _ = None

-- ---- operators that go on

abbrev pub as_join : Value → Join
as_join (links_of ls) = by_links ls
as_join (branches_of bs) = by_branches bs
as_join (step_of s) = by_step s
as_join _ = by_nothing
