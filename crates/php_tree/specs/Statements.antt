-- Statements as plain data. A variable stands as a `V`: its number in the file's list of names, or its name.
use Rattle.std.specs.Prelude.{ℕ, ℤ, Bool, List, Option}
use Rattle.php_tree.specs.declared.name.FunName.{FunName}
use Rattle.php_tree.specs.declared.name.ConstName.{ConstName}
use Rattle.php_tree.specs.declared.name.ClassName.{ClassName}
use Rattle.php_tree.specs.declared.name.MemberName.{MemberName}
use Rattle.php_tree.specs.declared.decl.Hint.{Hint}
use Rattle.php_tree.specs.declared.decl.Modifiers.{Modifiers}
use Rattle.php_tree.specs.declared.decl.ClassKind.{ClassKind}
use Rattle.php_tree.specs.declared.file.Span.{Span}
use Rattle.php_tree.specs.Expressions.{Expression, Expressions}

pub record Parameter (V : Type 0) : Type 0 where
  pub hint : Option Hint
  pub by_reference : Bool
  pub variable : V
  pub default : Option (Expression V)
  pub line : ℕ

-- what a function or method says before its body
pub record Head (V : Type 0) : Type 0 where
  pub name : FunName
  pub parameters : List (Parameter V)
  pub gives : Option Hint
  pub line : ℕ

-- The last field of a statement is its line.
mutual
  pub data Statement (V : Type 0) : Type 0 where
    inline : List ℕ → ℕ → Statement V
    echo : Expressions V → ℕ → Statement V
    evaluate : Expression V → ℕ → Statement V
    nothing : ℕ → Statement V
    block : Statements V → ℕ → Statement V
    conditional : Arms V → Statements V → ℕ → Statement V
    while_loop : Expression V → Statements V → ℕ → Statement V
    do_loop : Statements V → Expression V → ℕ → Statement V
    for_loop : Expressions V → Expressions V → Expressions V → Statements V → ℕ → Statement V
    foreach : Expression V → Option V → V → Statements V → ℕ → Statement V
    switch : Expression V → Cases V → ℕ → Statement V
    break : ℤ → ℕ → Statement V
    continue : ℤ → ℕ → Statement V
    return : Option (Expression V) → ℕ → Statement V
    global : List V → ℕ → Statement V
    static_vars : List (V × Option (Expression V)) → ℕ → Statement V
    unset : Expressions V → ℕ → Statement V
    throw : Expression V → ℕ → Statement V
    try : Statements V → Clauses V → ℕ → Statement V
    function : Function V → ℕ → Statement V
    class : Class V → ℕ → Statement V
    constants : List (ConstName × Expression V) → ℕ → Statement V
    removed : List ℕ → List ℕ → Option (List ℕ) → ℕ → Statement V

  pub data Statements (V : Type 0) : Type 0 where
    no_more : Statements V
    statement : Statement V → Statements V → Statements V

  -- the tests of an `if` with what they guard
  pub data Arms (V : Type 0) : Type 0 where
    no_arms : Arms V
    arm : Expression V → Statements V → Arms V → Arms V

  -- the arms of a `switch`
  pub data Cases (V : Type 0) : Type 0 where
    no_cases : Cases V
    case : Expression V → Statements V → Cases V → Cases V
    default_case : Statements V → Cases V → Cases V

  -- what a `try` catches
  pub data Clauses (V : Type 0) : Type 0 where
    no_clauses : Clauses V
    clause : List ClassName → V → Statements V → Clauses V → Clauses V

  -- a function or method with its body and the body's places
  pub data Function (V : Type 0) : Type 0 where
    with_body : Head V → Statements V → Span → Function V

  -- a class or interface: its kind, name, parent, interfaces, members and line
  pub data Class (V : Type 0) : Type 0 where
    with_members : ClassKind → ClassName → Option ClassName → List ClassName → Members V → ℕ → Class V

  pub data Members (V : Type 0) : Type 0 where
    no_members : Members V
    class_constants : List (MemberName × Expression V) → ℕ → Members V → Members V
    properties : Modifiers → List (MemberName × Option (Expression V)) → ℕ → Members V → Members V
    method : Modifiers → Function V → ℕ → Members V → Members V
    bodiless : Modifiers → Head V → ℕ → Members V → Members V
