-- Expressions as plain data. A variable stands as a `V`: its number in the file's list of names, or its name.
use Rattle.std.specs.Prelude.{ℕ, ℤ, List}
use Rattle.php_tree.specs.declared.name.FunName.{FunName}
use Rattle.php_tree.specs.declared.name.ConstName.{ConstName}
use Rattle.php_tree.specs.declared.name.ClassName.{ClassName}
use Rattle.php_tree.specs.declared.name.MemberName.{MemberName}
use Rattle.php_tree.specs.declared.expr.ChainOp.{ChainOp}
use Rattle.php_tree.specs.declared.expr.CompareOp.{CompareOp}
use Rattle.php_tree.specs.declared.expr.AssignOp.{AssignOp}
use Rattle.php_tree.specs.declared.expr.UnaryOp.{UnaryOp}
use Rattle.php_tree.specs.declared.expr.StepOp.{StepOp}
use Rattle.php_tree.specs.declared.expr.IncludeKind.{IncludeKind}

-- the key of `$v[k]` in a text
pub data Key (V : Type 0) : Type 0 where
  key_int : ℤ → Key V
  key_text : List ℕ → Key V
  key_var : V → Key V

-- The last field of an expression is its line.
mutual
  pub data Expression (V : Type 0) : Type 0 where
    int : ℤ → ℕ → Expression V
    text : List ℕ → ℕ → Expression V
    quote : QuoteParts V → ℕ → Expression V
    var : V → ℕ → Expression V
    constant : ConstName → ℕ → Expression V
    array : ArrayItems V → ℕ → Expression V
    paren : Expression V → ℕ → Expression V
    isset : Expressions V → ℕ → Expression V
    is_empty : Expression V → ℕ → Expression V
    exit : ℕ → Expression V
    exit_with : Expression V → ℕ → Expression V
    new : ClassName → Expressions V → ℕ → Expression V
    new_var : V → Expressions V → ℕ → Expression V
    call : FunName → Expressions V → ℕ → Expression V
    call_var : V → Expressions V → ℕ → Expression V
    class_constant : ClassName → MemberName → ℕ → Expression V
    static_call : ClassName → MemberName → Expressions V → ℕ → Expression V
    static_property : ClassName → MemberName → ℕ → Expression V
    class_text : ClassName → ℕ → Expression V
    post : Expression V → Accesses V → ℕ → Expression V
    chain : Expression V → Links V → ℕ → Expression V
    print : Expression V → ℕ → Expression V
    assign : Expression V → AssignOp → Expression V → ℕ → Expression V
    assign_reference : V → V → ℕ → Expression V
    choice : Expression V → Branches V → ℕ → Expression V
    coalesce : Expression V → Expression V → ℕ → Expression V
    compare : Expression V → CompareOp → Expression V → ℕ → Expression V
    unary : UnaryOp → Expression V → ℕ → Expression V
    instance_of : Expression V → ClassName → ℕ → Expression V
    instance_of_var : Expression V → V → ℕ → Expression V
    step : StepOp → Expression V → ℕ → Expression V
    cloned : Expression V → ℕ → Expression V
    included : IncludeKind → Expression V → ℕ → Expression V

  pub data Expressions (V : Type 0) : Type 0 where
    no_more : Expressions V
    expression : Expression V → Expressions V → Expressions V

  -- the parts of a text with interpolation
  pub data QuoteParts (V : Type 0) : Type 0 where
    no_parts : QuoteParts V
    part_bytes : List ℕ → QuoteParts V → QuoteParts V
    part_var : V → QuoteParts V → QuoteParts V
    part_index : V → Key V → QuoteParts V → QuoteParts V
    part_property : V → MemberName → QuoteParts V → QuoteParts V
    part_embedded : Expression V → QuoteParts V → QuoteParts V

  pub data ArrayItems (V : Type 0) : Type 0 where
    no_items : ArrayItems V
    item : Expression V → ArrayItems V → ArrayItems V
    pair : Expression V → Expression V → ArrayItems V → ArrayItems V

  -- what stands after the head of a post
  pub data Accesses (V : Type 0) : Type 0 where
    no_accesses : Accesses V
    index : Expression V → Accesses V → Accesses V
    append : Accesses V → Accesses V
    property : MemberName → Accesses V → Accesses V
    method : MemberName → Expressions V → Accesses V → Accesses V

  -- the operators of a chain, each with the operand after it
  pub data Links (V : Type 0) : Type 0 where
    no_links : Links V
    link : ChainOp → Expression V → Links V → Links V

  -- what stands after each `?` and its `:`, or after each `?:`
  pub data Branches (V : Type 0) : Type 0 where
    no_branches : Branches V
    full : Expression V → Expression V → Branches V → Branches V
    short : Expression V → Branches V → Branches V
