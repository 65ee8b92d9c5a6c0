-- The key of a declared name, from the name of its entry.
use Rattle.std.proofs.Common.{◌≡◌, ℕ, ◌==◌, Bool, true, false, ◌||◌, List, [], ◌∷◌, ◌++◌, refl, ap, ◌∙◌, drop, true≢false, append_assoc, arith}
use Rattle.std.specs.Prelude.{codes, if◌then◌else◌}
use Rattle.std.specs.Char.{to_ascii_lowercase}
use Rattle.std.specs.Str.{str_to_ascii_lowercase}
use Rattle.std.proofs.lemmas.Grind.{common_steps}
use Rattle.php_tree.specs.Functions.{class_prefix}
use Rattle.app_load.specs.declared.finding.Sort.TheVariants as sort
use Rattle.app_load.specs.Twice.{key}
use Rattle.plain_names.specs.Words.{has_colon}

-- ---- colons

pub none_of : (x y : Bool) → (x || y) ≡ false → (x ≡ false) × (y ≡ false)
none_of true y e = absurd (true≢false e)
none_of false y e = (refl, e)

pub or_true : (x y : Bool) → y ≡ true → (x || y) ≡ true
or_true true y e = refl
or_true false y e = e

lower_colon : (b : ℕ) → (to_ascii_lowercase b == 58) ≡ (b == 58)
lower_colon b = grind (arith, common_steps)

pub lower_colons : (bs : List ℕ) → has_colon (str_to_ascii_lowercase bs) ≡ has_colon bs
lower_colons [] = refl
lower_colons (b ∷ bs) = ap (λ c. c || has_colon (str_to_ascii_lowercase bs)) (lower_colon b) ∙ ap (λ c. b == 58 || c) (lower_colons bs)

-- ---- a name in two

abbrev pub before_colon : List ℕ → List ℕ
before_colon [] = []
before_colon (b ∷ bs) = if b == 58 then [] else b ∷ before_colon bs

abbrev pub after_colon : List ℕ → List ℕ
after_colon [] = []
after_colon (b ∷ bs) = if b == 58 then drop 1 bs else after_colon bs

pub colon_there : (bs rest : List ℕ) → has_colon (bs ++ 58 ∷ rest) ≡ true
colon_there [] rest = refl
colon_there (b ∷ bs) rest = or_true (b == 58) (has_colon (bs ++ 58 ∷ rest)) (colon_there bs rest)

pub before_there : (bs rest : List ℕ) → has_colon bs ≡ false → before_colon (bs ++ 58 ∷ rest) ≡ bs
before_there [] rest e = refl
before_there (b ∷ bs) rest e =
    let none = none_of (b == 58) (has_colon bs) e in
    ap (λ c. if c then [] else b ∷ before_colon (bs ++ 58 ∷ rest)) none.0 ∙ ap (λ l. b ∷ l) (before_there bs rest none.1)

pub after_there : (bs rest : List ℕ) → has_colon bs ≡ false → after_colon (bs ++ 58 ∷ rest) ≡ drop 1 rest
after_there [] rest e = refl
after_there (b ∷ bs) rest e =
    let none = none_of (b == 58) (has_colon bs) e in
    ap (λ c. if c then drop 1 (bs ++ 58 ∷ rest) else after_colon (bs ++ 58 ∷ rest)) none.0 ∙ after_there bs rest none.1

-- ---- keys

abbrev keyed_by : Bool → List ℕ → List ℕ
keyed_by true name = 109 ∷ (before_colon name ++ 32 ∷ (32 ∷ after_colon name))
keyed_by false name = 102 ∷ (32 ∷ (32 ∷ name))

abbrev pub keyed : List ℕ → List ℕ
keyed name = keyed_by (has_colon name) name

pub function_keyed : (word : List ℕ) (line : ℕ) → has_colon word ≡ false
    → keyed (str_to_ascii_lowercase word) ≡ key (record { sort = sort.Function; class = []; function = []; word = word; line = line })
function_keyed word line e = ap (λ c. keyed_by c (str_to_ascii_lowercase word)) (lower_colons word ∙ e)

parted : (c m : List ℕ) → has_colon c ≡ false → keyed (c ++ (58 ∷ (58 ∷ m))) ≡ 109 ∷ (c ++ 32 ∷ (32 ∷ m))
parted c m e =
    ap (λ b. keyed_by b (c ++ (58 ∷ (58 ∷ m)))) (colon_there c (58 ∷ m))
    ∙ (ap (λ l. 109 ∷ (l ++ 32 ∷ (32 ∷ after_colon (c ++ (58 ∷ (58 ∷ m)))))) (before_there c (58 ∷ m) e)
    ∙ ap (λ l. 109 ∷ (c ++ 32 ∷ (32 ∷ l))) (after_there c (58 ∷ m) e))

pub method_keyed : (class word : List ℕ) (line : ℕ) → has_colon class ≡ false
    → keyed (class_prefix class ++ str_to_ascii_lowercase word) ≡ key (record { sort = sort.Method; class = class; function = []; word = word; line = line })
method_keyed class word line e =
    ap keyed (append_assoc (str_to_ascii_lowercase class) (codes "::") (str_to_ascii_lowercase word))
    ∙ parted (str_to_ascii_lowercase class) (str_to_ascii_lowercase word) (lower_colons class ∙ e)
