-- The names that classes declare.
use Rattle.std.specs.Prelude.{ℕ, Bool, true, false, ◌&&◌, List}
use Rattle.std.specs.Str.{bytes_eq, str_to_ascii_lowercase}
use Rattle.php_classes.specs.declared.class.MemberEntry.{MemberEntry}
use Rattle.php_classes.specs.declared.class.MemberKind.{MemberKind}
use Rattle.php_classes.specs.declared.class.MemberKind.TheVariants.{Method, Constant, StaticProperty, Property}

abbrev pub same_kind : MemberKind → MemberKind → Bool
same_kind Method Method = true
same_kind Constant Constant = true
same_kind StaticProperty StaticProperty = true
same_kind Property Property = true
same_kind _ _ = false

-- the same word in any ASCII case
abbrev pub same_word : List ℕ → List ℕ → Bool
same_word one other = bytes_eq (str_to_ascii_lowercase one) (str_to_ascii_lowercase other)

-- names of methods in any ASCII case, all others as they are written
abbrev pub same_name : MemberKind → List ℕ → List ℕ → Bool
same_name Method one other = same_word one other
same_name _ one other = bytes_eq one other

-- a declaration of this kind and name
abbrev pub is_named : MemberKind → List ℕ → MemberEntry → Bool
is_named kind name member = same_kind kind member.kind && same_name kind name member.name
