-- What a declaration adds.
use Rattle.std.proofs.Common.{◌≡◌, ℕ, Bool, true, false, ◌&&◌, cond, nat_lt, List, [], ◌∷◌, ◌++◌, length, Option, Some, None, not, if◌then◌else◌, refl, sym, ap, ◌∙◌}
use Rattle.std.specs.Option.{option_to_list}
use Rattle.std.specs.List.{list_all, position_or_len}
use Rattle.std.proofs.lemmas.List.Folds.{list_all-append}
use Rattle.php_tree.specs.declared.name.ClassName.{ClassName}
use Rattle.php_tree.specs.declared.decl.ClassDecl.{ClassDecl, out-ClassDecl}
use Rattle.php_tree.specs.Statements.{Class, with_members}
use Rattle.php_tree.specs.StatementOf.{class_of, members_of}
use Rattle.php_tree.proofs.Statements.{class_of-out}
use Rattle.php_classes.specs.declared.class.ClassEntry.{ClassEntry}
use Rattle.php_classes.specs.declared.fault.ClassFault.TheVariants.{Redeclared, Unknown, Abstract}
use Rattle.php_classes.specs.Members.{same_word}
use Rattle.php_classes.specs.Ancestors.{lineages_of}
use Rattle.php_classes.specs.Entries.{entries_of}
use Rattle.php_classes.specs.Declaring.{class_named, parent_number, numbers_of, is_declared, names_below, entry_of, declares_again, lacks_body, refusal}

pub entry_opened : (classes : List ClassEntry) (d : ClassDecl) →
    entry_of classes (class_of d) ≡ record {
      kind = (out-ClassDecl d).kind;
      name = (out-ClassDecl d).name.text;
      parent = parent_number classes (out-ClassDecl d).parent;
      interfaces = numbers_of classes (out-ClassDecl d).interfaces;
      members = entries_of (members_of (out-ClassDecl d).members);
    }
entry_opened classes d = ap (entry_of classes) (class_of-out d)

-- ---- a class is declared on those before it

within : (b : Bool) (n len : ℕ) → nat_lt n len ≡ b → list_all (λ m. nat_lt m len) (option_to_list (cond b (Some n) None)) ≡ true
within true n len e = ap (λ b. b && true) e
within false n len e = refl

named_within : (name : List ℕ) (classes : List ClassEntry) → list_all (λ m. nat_lt m (length classes)) (option_to_list (class_named name classes)) ≡ true
named_within name classes =
    within (nat_lt (position_or_len (λ c. same_word name c.name) classes) (length classes)) (position_or_len (λ c. same_word name c.name) classes) (length classes) refl

both_true : (a b : Bool) → a ≡ true → b ≡ true → a && b ≡ true
both_true a b e f = λ i. e i && f i

all_within : (classes : List ClassEntry) (names : List ClassName) → list_all (λ m. nat_lt m (length classes)) (numbers_of classes names) ≡ true
all_within classes [] = refl
all_within classes (name ∷ names) =
    list_all-append (λ m. nat_lt m (length classes)) (option_to_list (class_named name.text classes)) (numbers_of classes names)
    ∙ both_true _ _ (named_within name.text classes) (all_within classes names)

parent_within : (classes : List ClassEntry) (parent : Option ClassName) →
    list_all (λ m. nat_lt m (length classes)) (option_to_list (parent_number classes parent)) ≡ true
parent_within classes None = refl
parent_within classes (Some name) = named_within name.text classes

pub built_on_earlier : (classes : List ClassEntry) (c : Class ℕ) → names_below (length classes) (entry_of classes c) ≡ true
built_on_earlier classes (with_members kind name parent interfaces ms line) =
    list_all-append (λ m. nat_lt m (length classes)) (option_to_list (parent_number classes parent)) (numbers_of classes interfaces)
    ∙ both_true _ _ (parent_within classes parent) (all_within classes interfaces)

-- ---- refusals

pub refusal_opened : (classes : List ClassEntry) (d : ClassDecl) →
    refusal classes (class_of d) ≡
    (if is_declared classes (out-ClassDecl d).name then Some Redeclared else
    (if declares_again classes (lineages_of classes) (entry_of classes (class_of d)) then Some Redeclared else
    (if not (list_all (is_declared classes) (option_to_list (out-ClassDecl d).parent ++ (out-ClassDecl d).interfaces)) then Some Unknown else
    (if lacks_body classes (entry_of classes (class_of d)) then Some Abstract else None))))
refusal_opened classes d =
    ap (refusal classes) (class_of-out d)
    ∙ ap (λ c.
    if is_declared classes (out-ClassDecl d).name then Some Redeclared else
    (if declares_again classes (lineages_of classes) (entry_of classes c) then Some Redeclared else
    (if not (list_all (is_declared classes) (option_to_list (out-ClassDecl d).parent ++ (out-ClassDecl d).interfaces)) then Some Unknown else
    (if lacks_body classes (entry_of classes c) then Some Abstract else None))))
    (sym (class_of-out d))
