-- A table of names that is filled from a list, each name once.
use Rattle.std.proofs.Common.{◌≡◌, ℕ, List, [], ◌∷◌, ◌++◌, map, Bool, true, false, refl, sym, ap, subst, ◌∙◌}
use Rattle.std.proofs.lemmas.List.{map-append}
use Rattle.std.proofs.lemmas.Slice.Eq.{bytes_eq-Decides}
use Rattle.std.specs.Prelude.{if◌then◌else◌}
use Rattle.std.specs.Borrow.{Bor}
use Rattle.std.specs.Option.{option_map, is_some}
use Rattle.std.specs.declared.option.Option.{Option}
use Rattle.std.specs.declared.option.Option.TheVariants.{Some, None}
use Rattle.std.specs.Str.{bytes_eq}
use Rattle.php_names.specs.Tables.{found}
use Rattle.php_tree.specs.declared.stmt.Stmt.{Stmt}
use Rattle.php_tree.specs.Parts.{all_without_bodies}
use Rattle.php_tree.specs.StatementOf.{statements_of}
use Rattle.php_tree.specs.Statements.{Statements}
use Rattle.php_bodies.specs.Collected.{body_of}
use Rattle.php_bodies.specs.Tables.{Named, body_in, bodies_named, or_else}
use Rattle.php_bodies.specs.declared.collect.Body.{Body}

found_if : {A : Type 0} (c : Bool) (a : A) (x y z : Option A) → x ≡ or_else y z → (if c then Some a else x) ≡ or_else (if c then Some a else y) z
found_if true a x y z e = refl
found_if false a x y z e = e

pub found_append : {A : Type 0} (name : List ℕ) (xs ys : List (List ℕ × A)) → found name (xs ++ ys) ≡ or_else (found name xs) (found name ys)
found_append name [] ys = refl
found_append name (x ∷ xs) ys = found_if (bytes_eq x.0 name) x.1 (found name (xs ++ ys)) (found name xs) (found name ys) (found_append name xs ys)

or_twice : {A : Type 0} (x y z : Option A) → or_else (or_else x y) z ≡ or_else x (or_else y z)
or_twice (Some a) y z = refl
or_twice None y z = refl

or_none : {A : Type 0} (c : Bool) (a : A) (z : Option A) → or_else (if c then Some a else None) z ≡ (if c then Some a else z)
or_none true a z = refl
or_none false a z = refl

-- what is under a name that was added
pub one_added : {A : Type 0} (name : List ℕ) (xs rest : List (List ℕ × A)) (x : List ℕ × A) → or_else (found name (xs ++ x ∷ [])) (found name rest) ≡ or_else (found name xs) (found name (x ∷ rest))
one_added name xs rest x =
    ap (λ o. or_else o (found name rest)) (found_append name xs (x ∷ []))
    ∙ or_twice (found name xs) (found name (x ∷ [])) (found name rest)
    ∙ ap (or_else (found name xs)) (or_none (bytes_eq x.0 name) x.1 (found name rest))

abbrev pub IsFound : {A : Type 0} → Option A → Type 0
IsFound None = ⊥
IsFound (Some a) = Unit {0}

hidden_if : {A : Type 0} (c : Bool) (a : A) (y z : Option A) → (c ≡ true → IsFound y) → or_else y z ≡ or_else y (if c then Some a else z)
hidden_if c a (Some b) z there = refl
hidden_if false a None z there = refl
hidden_if true a None z there = absurd (there refl)

-- a name that is there hides what comes behind it
pub one_hidden : {A : Type 0} (name : List ℕ) (xs rest : List (List ℕ × A)) (x : List ℕ × A) → IsFound (found x.0 xs) → or_else (found name xs) (found name rest) ≡ or_else (found name xs) (found name (x ∷ rest))
one_hidden name xs rest x there = hidden_if (bytes_eq x.0 name) x.1 (found name xs) (found name rest) (λ e. subst (λ n. IsFound (found n xs)) ((bytes_eq-Decides x.0 name).0 e) there)

-- what is found in a list whose values are changed
mapped_if : {A B : Type 0} (f : A → B) (c : Bool) (a : A) (x : Option B) (y : Option A) → x ≡ option_map f y → (if c then Some (f a) else x) ≡ option_map f (if c then Some a else y)
mapped_if f true a x y e = refl
mapped_if f false a x y e = e

pub found_map : {A B : Type 0} (f : A → B) (name : List ℕ) (xs : List (List ℕ × A)) → found name (map (λ p. (p.0, f p.1)) xs) ≡ option_map f (found name xs)
found_map f name [] = refl
found_map f name (x ∷ xs) = mapped_if f (bytes_eq x.0 name) x.1 (found name (map (λ p. (p.0, f p.1)) xs)) (found name xs) (found_map f name xs)

-- a body that is put into the table, or is hidden by the one that has its name
pub put_in : (name : List ℕ) (old new : Named) (b : Body) (rest : List (List ℕ × Statements ℕ)) → new ≡ old ++ (b.name.items, b.statements) ∷ []
    → or_else (found name (bodies_named new)) (found name rest) ≡ or_else (found name (bodies_named old)) (found name (body_of b ∷ rest))
put_in name old new b rest e =
    ap (λ l. or_else (found name l) (found name rest)) (ap bodies_named e ∙ map-append body_in old ((b.name.items, b.statements) ∷ []))
    ∙ one_added name (bodies_named old) rest (body_of b)

pub there_named : {A B : Type 0} (f : A → B) (x : Option A) (y : Option B) → y ≡ option_map f x → is_some x ≡ true → IsFound y
there_named f None y e some = absurd cc
there_named f (Some a) y e some = subst IsFound (sym e) (tt {0})

pub left_out : (name : List ℕ) (old : Named) (b : Body) (rest : List (List ℕ × Statements ℕ)) → is_some (found b.name.items old) ≡ true
    → or_else (found name (bodies_named old)) (found name rest) ≡ or_else (found name (bodies_named old)) (found name (body_of b ∷ rest))
left_out name old b rest some =
    one_hidden name (bodies_named old) rest (body_of b) (there_named (λ ss. all_without_bodies (statements_of ss.now)) (found b.name.items old) (found b.name.items (bodies_named old)) (found_map (λ ss. all_without_bodies (statements_of ss.now)) b.name.items old) some)
