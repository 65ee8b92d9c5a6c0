-- Which texts are among some keys.
use Rattle.std.specs.Prelude.{◌≡◌, ℕ, Bool, List, [], Vec, Option, Some, None}
use Rattle.std.specs.List.{list_any}
use Rattle.std.specs.Str.{bytes_eq}
use Rattle.std.specs.declared.alloc.Global.{Global}
use Rattle.app_load.specs.Findings.{Name, Finding}
use Rattle.app_load.specs.Twice.{first_again}

abbrev pub has : List (Vec ℕ Global) → List ℕ → Bool
has keys text = list_any (λ k. bytes_eq text k.items) keys

-- the keys of a set are those that were noted
abbrev pub HasAll : List (Vec ℕ Global) → List (List ℕ) → Type 0
HasAll keys before = (text : List ℕ) → has keys text ≡ list_any (bytes_eq text) before

-- How far names were read: some keys were noted, and what is left has the same first name that comes again.
pub record Noted (keys : List (Vec ℕ Global)) (left all : List Finding) : Type 0 where
  pub before : List (List ℕ)
  pub held : HasAll keys before
  pub same : first_again before left ≡ first_again [] all

-- what is left after a name: the search goes on, or the name is the first that comes again
abbrev pub Continues : Option Name → List (Vec ℕ Global) → List Finding → List Finding → Type 0
Continues None keys left all = Noted keys left all
Continues (Some n) keys left all = first_again [] all ≡ Some n
