-- Places: what can be written to, unset or stepped.
use Rattle.std.specs.Prelude.{Bool, true, false, ◌&&◌}
use Rattle.php_tree.specs.Expressions.{Expression, var, static_property, post, Accesses, no_accesses, index, append, property, method}

-- a variable, or a static property
abbrev pub is_root : {V : Type 0} → Expression V → Bool
is_root (var v l) = true
is_root (static_property n m l) = true
is_root _ = false

-- indexes and properties alone
abbrev pub only_steps : {V : Type 0} → Accesses V → Bool
only_steps no_accesses = true
only_steps (index e es) = only_steps es
only_steps (append es) = false
only_steps (property n es) = only_steps es
only_steps (method n us es) = false

-- indexes and properties, and at the end possibly `[ ]`
abbrev pub only_steps_then_append : {V : Type 0} → Accesses V → Bool
only_steps_then_append no_accesses = true
only_steps_then_append (index e es) = only_steps_then_append es
only_steps_then_append (append no_accesses) = true
only_steps_then_append (append es) = false
only_steps_then_append (property n es) = only_steps_then_append es
only_steps_then_append (method n us es) = false

-- a variable or a static property, and then indexes and properties
abbrev pub is_place : {V : Type 0} → Expression V → Bool
is_place (post e es l) = is_root e && only_steps es
is_place e = is_root e

-- what may stand on the left side of an assignment
abbrev pub is_target : {V : Type 0} → Expression V → Bool
is_target (post e es l) = is_root e && only_steps_then_append es
is_target e = is_root e
