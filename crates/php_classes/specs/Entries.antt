-- The names that a declaration of a class declares, in text order.
use Rattle.std.specs.Prelude.{Bool, true, false, if◌then◌else◌, List, [], ◌∷◌, ◌++◌, map, Option}
use Rattle.std.specs.Option.{unwrap_or}
use Rattle.php_tree.specs.declared.name.FunName.{FunName}
use Rattle.php_tree.specs.declared.name.MemberName.{MemberName}
use Rattle.php_tree.specs.declared.decl.Modifiers.{Modifiers}
use Rattle.php_tree.specs.declared.decl.Visibility.{Visibility}
use Rattle.php_tree.specs.declared.decl.Visibility.TheVariants.{Public}
use Rattle.php_tree.specs.Expressions.{Expression}
use Rattle.php_tree.specs.Statements.{Function, with_body, Members, no_members, class_constants, properties, method, bodiless}
use Rattle.php_classes.specs.declared.class.MemberEntry.{MemberEntry}
use Rattle.php_classes.specs.declared.class.MemberKind.{MemberKind}
use Rattle.php_classes.specs.declared.class.MemberKind.TheVariants.{Method, Constant, StaticProperty, Property}

-- public where no visibility is said
abbrev pub visibility_of : Modifiers → Visibility
visibility_of modifiers = unwrap_or modifiers.visibility Public

abbrev pub property_kind : Modifiers → MemberKind
property_kind modifiers = if modifiers.is_static then StaticProperty else Property

abbrev pub constant_entry : {V : Type 0} → MemberName × Expression V → MemberEntry
constant_entry c = record { kind = Constant; name = c.0.text; visibility = Public; has_body = false }

abbrev pub property_entry : {V : Type 0} → Modifiers → MemberName × Option (Expression V) → MemberEntry
property_entry modifiers p =
    record { kind = property_kind modifiers; name = p.0.text; visibility = visibility_of modifiers; has_body = false }

abbrev pub method_entry : Modifiers → Bool → FunName → MemberEntry
method_entry modifiers has_body name =
    record { kind = Method; name = name.text; visibility = visibility_of modifiers; has_body = has_body }

abbrev pub function_name : {V : Type 0} → Function V → FunName
function_name (with_body head body span) = head.name

abbrev pub entries_of : {V : Type 0} → Members V → List MemberEntry
entries_of no_members = []
entries_of (class_constants cs line rest) = map constant_entry cs ++ entries_of rest
entries_of (properties modifiers ps line rest) = map (property_entry modifiers) ps ++ entries_of rest
entries_of (method modifiers f line rest) = method_entry modifiers true (function_name f) ∷ entries_of rest
entries_of (bodiless modifiers head line rest) = method_entry modifiers false head.name ∷ entries_of rest
