-- How the machine numbers the names of variables and the declarations of static variables.
use Rattle.std.specs.Prelude.{ℕ, List, ◌≡◌, ◌==◌, nat_lt}
use Rattle.std.specs.Str.{bytes_eq}
use Rattle.php_world.specs.Variables.{is_superglobal}

-- different numbers have different texts
abbrev pub AreDistinct : (ℕ → List ℕ) → Type 0
AreDistinct name = (m n : ℕ) → bytes_eq (name m) (name n) ≡ (m == n)

pub record Naming : Type 0 where
  -- the name of each number, the superglobals first
  pub name : ℕ → List ℕ
  -- the text of each static variable's declaration
  pub static : ℕ → List ℕ
  pub names_differ : AreDistinct name
  pub statics_differ : AreDistinct static
  pub superglobals : (n : ℕ) → is_superglobal (name n) ≡ nat_lt n 6
