-- What is found in the parts of a file.
use Rattle.std.proofs.Common.{◌≡◌, ℕ, Bool, true, false, ◌&&◌, List, [], ◌∷◌, ◌++◌, refl, sym, ap, subst, ◌∙◌, map}
use Rattle.std.specs.Prelude.{Option, Some, None, if◌then◌else◌}
use Rattle.std.specs.Str.{bytes_eq}
use Rattle.php_tree.specs.Statements as s
use Rattle.app_load.specs.Entries.{Entry, file, function, is_same}
use Rattle.app_load.specs.Files.{Tree}
use Rattle.app_load.specs.Parts.{Part, body, stub, Parts, part_of, body_entry, part_at}
use Rattle.app_load.specs.CopyParts.{IsGone, IsThere, AreThere, StandOnce}
use Rattle.app_load.proofs.Bodies.{Bodies, look, IsFound, AreFound, IsGoneBody, AreOnce}

abbrev pub or_part : Option Part → Option Part → Option Part
or_part (Some p) other = Some p
or_part None other = other

choose : (c : Bool) (p : Part) (x y z : Option Part) → x ≡ or_part y z → (if c then Some p else x) ≡ or_part (if c then Some p else y) z
choose true p x y z e = refl
choose false p x y z e = e

pub part_append : (e : Entry) (ps qs : Parts) → part_at (ps ++ qs) e ≡ or_part (part_at ps e) (part_at qs e)
part_append e [] qs = refl
part_append e ((d, p) ∷ ps) qs = choose (is_same d e) p (part_at (ps ++ qs) e) (part_at ps e) (part_at qs e) (part_append e ps qs)

-- ---- bodies as parts

abbrev pub part_or_none : Option Tree → Option Part
part_or_none None = None
part_or_none (Some b) = Some (part_of b)

named : (c : Bool) (b : Tree) (x : Option Part) (y : Option Tree) → x ≡ part_or_none y → (if c then Some (part_of b) else x) ≡ part_or_none (if c then Some b else y)
named true b x y e = refl
named false b x y e = e

pub body_here : (path q n : List ℕ) (bs : Bodies) → bytes_eq path q ≡ true → part_at (map (body_entry path) bs) (function q n) ≡ part_or_none (look n bs)
body_here path q n [] e = refl
body_here path q n ((m, b) ∷ bs) e =
    ap (λ c. if c && bytes_eq m n then Some (part_of b) else part_at (map (body_entry path) bs) (function q n)) e
    ∙ named (bytes_eq m n) b (part_at (map (body_entry path) bs) (function q n)) (look n bs) (body_here path q n bs e)

pub body_elsewhere : (path q n : List ℕ) (bs : Bodies) → bytes_eq path q ≡ false → part_at (map (body_entry path) bs) (function q n) ≡ None
body_elsewhere path q n [] e = refl
body_elsewhere path q n ((m, b) ∷ bs) e =
    ap (λ c. if c && bytes_eq m n then Some (part_of b) else part_at (map (body_entry path) bs) (function q n)) e ∙ body_elsewhere path q n bs e

pub no_file : (path q : List ℕ) (bs : Bodies) → part_at (map (body_entry path) bs) (file q) ≡ None
no_file path q [] = refl
no_file path q ((m, b) ∷ bs) = no_file path q bs

-- ---- gone, there

pub gone_part : (x : Option Tree) → IsGoneBody x → IsGone (part_or_none x)
gone_part None g = tt {0}
gone_part (Some b) g = subst (λ p. IsGone (Some p)) (sym g) (tt {0})

gone_or : (x y : Option Part) → IsGone x → IsGone y → IsGone (or_part x y)
gone_or (Some p) y g h = g
gone_or None y g h = h

pub gone_parts : (e : Entry) (ps qs : Parts) → IsGone (part_at ps e) → IsGone (part_at qs e) → IsGone (part_at (ps ++ qs) e)
gone_parts e ps qs g h = subst IsGone (sym (part_append e ps qs)) (gone_or (part_at ps e) (part_at qs e) g h)

there_left : (x y : Option Part) → IsThere x → IsThere (or_part x y)
there_left (Some p) y f = tt {0}
there_left None y f = absurd f

there_right : (x y : Option Part) → IsThere y → IsThere (or_part x y)
there_right (Some p) y f = tt {0}
there_right None y f = f

pub are_there_left : (ps qs : Parts) (path : List ℕ) (bs : Bodies) → AreThere (part_at ps) path bs → AreThere (part_at (ps ++ qs)) path bs
are_there_left ps qs path [] f = tt {0}
are_there_left ps qs path ((n, b) ∷ bs) f =
    (subst IsThere (sym (part_append (function path n) ps qs)) (there_left (part_at ps (function path n)) (part_at qs (function path n)) f.0), are_there_left ps qs path bs f.1)

pub are_there_right : (ps qs : Parts) (path : List ℕ) (bs : Bodies) → AreThere (part_at qs) path bs → AreThere (part_at (ps ++ qs)) path bs
are_there_right ps qs path [] f = tt {0}
are_there_right ps qs path ((n, b) ∷ bs) f =
    (subst IsThere (sym (part_append (function path n) ps qs)) (there_right (part_at ps (function path n)) (part_at qs (function path n)) f.0), are_there_right ps qs path bs f.1)

there_part : (x : Option Tree) → IsFound x → IsThere (part_or_none x)
there_part None f = f
there_part (Some b) f = tt {0}

-- bodies that are found stand in the parts
pub found_there : (path q : List ℕ) (all bs : Bodies) → bytes_eq path q ≡ true → AreFound all bs → AreThere (part_at (map (body_entry path) all)) q bs
found_there path q all [] e f = tt {0}
found_there path q all ((n, b) ∷ bs) e f = (subst IsThere (sym (body_here path q n all e)) (there_part (look n all) f.0), found_there path q all bs e f.1)

-- ---- a part that is no placeholder

abbrev IsBody : Part → Type 0
IsBody stub = ⊥
IsBody (body ss) = Unit {0}

abbrev tree_in : Tree → Part → Tree
tree_in t stub = t
tree_in t (body ss) = ss

-- a statement and what follows it, where it is not one placeholder alone
part_is_more : (x : s.Statement (List ℕ)) (y : s.Statement (List ℕ)) (xs : Tree) → part_of (s.statement x (s.statement y xs)) ≡ body (s.statement x (s.statement y xs))
part_is_more (s.inline t l) y xs = refl
part_is_more (s.echo t l) y xs = refl
part_is_more (s.evaluate t l) y xs = refl
part_is_more (s.nothing l) y xs = refl
part_is_more (s.block t l) y xs = refl
part_is_more (s.conditional a t l) y xs = refl
part_is_more (s.while_loop a t l) y xs = refl
part_is_more (s.do_loop t a l) y xs = refl
part_is_more (s.for_loop a b c t l) y xs = refl
part_is_more (s.foreach a b c t l) y xs = refl
part_is_more (s.switch a cs l) y xs = refl
part_is_more (s.break i l) y xs = refl
part_is_more (s.continue i l) y xs = refl
part_is_more (s.return a l) y xs = refl
part_is_more (s.global a l) y xs = refl
part_is_more (s.static_vars a l) y xs = refl
part_is_more (s.unset a l) y xs = refl
part_is_more (s.throw a l) y xs = refl
part_is_more (s.try t cs l) y xs = refl
part_is_more (s.function f l) y xs = refl
part_is_more (s.class c l) y xs = refl
part_is_more (s.constants cs l) y xs = refl
part_is_more (s.removed what path name l) y xs = refl

same_body : {t ss : Tree} → body t ≡ body ss → t ≡ ss
same_body {t} e = ap (tree_in t) e

pub part_is : (t ss : Tree) → part_of t ≡ body ss → t ≡ ss
part_is s.no_more ss e = same_body e
part_is (s.statement x (s.statement y xs)) ss e = same_body (sym (part_is_more x y xs) ∙ e)
part_is (s.statement (s.inline t l) s.no_more) ss e = same_body e
part_is (s.statement (s.echo t l) s.no_more) ss e = same_body e
part_is (s.statement (s.evaluate t l) s.no_more) ss e = same_body e
part_is (s.statement (s.nothing l) s.no_more) ss e = same_body e
part_is (s.statement (s.block t l) s.no_more) ss e = same_body e
part_is (s.statement (s.conditional a t l) s.no_more) ss e = same_body e
part_is (s.statement (s.while_loop a t l) s.no_more) ss e = same_body e
part_is (s.statement (s.do_loop t a l) s.no_more) ss e = same_body e
part_is (s.statement (s.for_loop a b c t l) s.no_more) ss e = same_body e
part_is (s.statement (s.foreach a b c t l) s.no_more) ss e = same_body e
part_is (s.statement (s.switch a cs l) s.no_more) ss e = same_body e
part_is (s.statement (s.break i l) s.no_more) ss e = same_body e
part_is (s.statement (s.continue i l) s.no_more) ss e = same_body e
part_is (s.statement (s.return a l) s.no_more) ss e = same_body e
part_is (s.statement (s.global a l) s.no_more) ss e = same_body e
part_is (s.statement (s.static_vars a l) s.no_more) ss e = same_body e
part_is (s.statement (s.unset a l) s.no_more) ss e = same_body e
part_is (s.statement (s.throw a l) s.no_more) ss e = same_body e
part_is (s.statement (s.try t cs l) s.no_more) ss e = same_body e
part_is (s.statement (s.function f l) s.no_more) ss e = same_body e
part_is (s.statement (s.class c l) s.no_more) ss e = same_body e
part_is (s.statement (s.constants cs l) s.no_more) ss e = same_body e
part_is (s.statement (s.removed what path name l) s.no_more) ss e = absurd (subst IsBody (sym e) (tt {0}))

-- ---- no entry twice

part_none : (x : Option Tree) → part_or_none x ≡ None → x ≡ None
part_none None e = refl
part_none (Some b) e = absurd (subst IsThere e (tt {0}))

pub once_named : (path : List ℕ) (bs : Bodies) → bytes_eq path path ≡ true → StandOnce (map (body_entry path) bs) → AreOnce bs
once_named path [] e o = tt {0}
once_named path ((m, b) ∷ bs) e o = (part_none (look m bs) (sym (body_here path path m bs e) ∙ o.0), once_named path bs e o.1)
