-- Lists of bodies by their names, and what is found in them.
use Rattle.std.proofs.Common.{◌≡◌, ℕ, Bool, true, false, List, [], ◌∷◌, ◌++◌, refl, sym, ap, subst, ◌∙◌}
use Rattle.std.specs.Prelude.{Option, Some, None, if◌then◌else◌}
use Rattle.std.specs.Str.{bytes_eq}
use Rattle.std.proofs.lemmas.Slice.Eq.{bytes_eq-Decides}
use Rattle.app_load.specs.Files.{Tree}
use Rattle.app_load.specs.Parts.{part_of, stub}

abbrev pub Bodies : Type 0
Bodies = List (List ℕ × Tree)

-- the first body of a name
abbrev pub look : List ℕ → Bodies → Option Tree
look n [] = None
look n ((m, b) ∷ bs) = if bytes_eq m n then Some b else look n bs

abbrev pub or_else : Option Tree → Option Tree → Option Tree
or_else (Some b) other = Some b
or_else None other = other

pub named_alike : (m n : List ℕ) → bytes_eq m n ≡ true → m ≡ n
named_alike m n e = (bytes_eq-Decides m n).0 e

pub names_itself : (n : List ℕ) → bytes_eq n n ≡ true
names_itself n = (bytes_eq-Decides n n).1 refl

choose : (c : Bool) (b : Tree) (x y z : Option Tree) → x ≡ or_else y z → (if c then Some b else x) ≡ or_else (if c then Some b else y) z
choose true b x y z e = refl
choose false b x y z e = e

pub look_append : (n : List ℕ) (xs ys : Bodies) → look n (xs ++ ys) ≡ or_else (look n xs) (look n ys)
look_append n [] ys = refl
look_append n ((m, b) ∷ xs) ys = choose (bytes_eq m n) b (look n (xs ++ ys)) (look n xs) (look n ys) (look_append n xs ys)

-- ---- found or not

abbrev pub IsFound : Option Tree → Type 0
IsFound None = ⊥
IsFound (Some b) = Unit {0}

-- nothing, or a placeholder
abbrev pub IsGoneBody : Option Tree → Type 0
IsGoneBody None = Unit {0}
IsGoneBody (Some b) = part_of b ≡ stub

gone_or : (x y : Option Tree) → IsGoneBody x → IsGoneBody y → IsGoneBody (or_else x y)
gone_or (Some b) y g h = g
gone_or None y g h = h

pub gone_append : (n : List ℕ) (xs ys : Bodies) → IsGoneBody (look n xs) → IsGoneBody (look n ys) → IsGoneBody (look n (xs ++ ys))
gone_append n xs ys g h = subst IsGoneBody (sym (look_append n xs ys)) (gone_or (look n xs) (look n ys) g h)

found_left : (x y : Option Tree) → IsFound x → IsFound (or_else x y)
found_left (Some b) y f = tt {0}
found_left None y f = absurd f

found_right : (x y : Option Tree) → IsFound y → IsFound (or_else x y)
found_right (Some b) y f = tt {0}
found_right None y f = f

-- what is found in one list is found in another
abbrev pub IsWithin : Bodies → Bodies → Type 0
IsWithin xs all = (n : List ℕ) → IsFound (look n xs) → IsFound (look n all)

pub within_left : (xs ys all : Bodies) → IsWithin (xs ++ ys) all → IsWithin xs all
within_left xs ys all h n f = h n (subst IsFound (sym (look_append n xs ys)) (found_left (look n xs) (look n ys) f))

pub within_right : (xs ys all : Bodies) → IsWithin (xs ++ ys) all → IsWithin ys all
within_right xs ys all h n f = h n (subst IsFound (sym (look_append n xs ys)) (found_right (look n xs) (look n ys) f))

found_behind : (c : Bool) (b : Tree) (x : Option Tree) → IsFound x → IsFound (if c then Some b else x)
found_behind true b x f = tt {0}
found_behind false b x f = f

pub within_behind : (m : List ℕ) (b : Tree) (xs all : Bodies) → IsWithin ((m, b) ∷ xs) all → IsWithin xs all
within_behind m b xs all h n f = h n (found_behind (bytes_eq m n) b (look n xs) f)

pub first_within : (m : List ℕ) (b : Tree) (xs all : Bodies) → IsWithin ((m, b) ∷ xs) all → IsFound (look m all)
first_within m b xs all h = h m (subst (λ c. IsFound (if c then Some b else look m xs)) (sym (names_itself m)) (tt {0}))

-- each name of a list is found in another
abbrev pub AreFound : Bodies → Bodies → Type 0
AreFound all [] = Unit {0}
AreFound all ((n, b) ∷ bs) = IsFound (look n all) × AreFound all bs

pub found_append : (all xs ys : Bodies) → AreFound all xs → AreFound all ys → AreFound all (xs ++ ys)
found_append all [] ys f g = g
found_append all ((n, b) ∷ xs) ys f g = (f.0, found_append all xs ys f.1 g)

-- ---- no name stands twice

abbrev pub AreOnce : Bodies → Type 0
AreOnce [] = Unit {0}
AreOnce ((m, b) ∷ bs) = (look m bs ≡ None) × AreOnce bs

pub once_left : (xs ys : Bodies) → AreOnce (xs ++ ys) → AreOnce xs
once_left [] ys h = tt {0}
once_left ((m, b) ∷ xs) ys h = (none_left (look m xs) (look m ys) (sym (look_append m xs ys) ∙ h.0), once_left xs ys h.1)
  where
    none_left : (x y : Option Tree) → or_else x y ≡ None → x ≡ None
    none_left (Some b) y e = e
    none_left None y e = refl

pub once_right : (xs ys : Bodies) → AreOnce (xs ++ ys) → AreOnce ys
once_right [] ys h = h
once_right ((m, b) ∷ xs) ys h = once_right xs ys h.1
