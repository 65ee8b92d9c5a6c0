-- What steps leave of the names of a program.
use Rattle.std.specs.List.{list_any}
use Rattle.std.proofs.Common.{◌≡◌, ℕ, zero, suc, ◌+◌, ◌<◌, ◌≤◌, List, [], ◌∷◌, ◌++◌, length, map, take, get_or, slice_get, position, Option, Some, None, refl, sym, ap, subst, ◌∙◌, arith}
use Rattle.std.specs.Str.{bytes_eq}
use Rattle.php_tree.specs.declared.name.VarName.{VarName}
use Rattle.php_tree.specs.Renamed.{name_at, text_or_empty}
use Rattle.php_renumber.specs.declared.numbers.Numbers.{Numbers}
use Rattle.php_renumber.specs.Numbers.{number_in, number_or}
use Rattle.php_renumber.proofs.Each.{Each, each_begins, each_goes_on, each_ends}
use Rattle.php_state.specs.Linked.{text_of_name, AreApart}
use Rattle.php_link.specs.declared.names.Names.{Names}
use Rattle.php_link.specs.Names.{Knows, Grows, AreSame, Goes, IsNumbered, AreNumbered}
use Rattle.php_link.proofs.Texts.{apart_more, at_end, grows_more, place}

pub stays : (names : Names) → AreSame names → Goes names names
stays names same = record { same = same; grows = λ n text e. e; apart = λ h. h }

pub goes_on : (a b c : Names) → Goes a b → Goes b c → Goes a c
goes_on a b c p q = record { same = q.same; grows = λ n text e. q.grows n text (p.grows n text e); apart = λ h. q.apart (p.apart h) }

pub knew : (name : ℕ → List ℕ) (a b : Names) → Goes a b → Knows name b.table → Knows name a.table
knew name a b p k n text e = k n text (p.grows n text e)

pub found : (names : Names) (text : List ℕ) (n m : ℕ) → AreSame names → position (bytes_eq text) names.table ≡ Some n → m ≡ n → IsNumbered names names text m
found names text n m same e is = record { goes = stays names same; stands = ap (slice_get names.table) is ∙ place names.table text n e }

pub added : (old new : Names) (text : List ℕ) (n count : ℕ) → AreSame old → position (bytes_eq text) old.table ≡ None → count ≡ length old.table → n ≡ count → new.table ≡ old.table ++ text ∷ []
    → map text_of_name new.list ≡ map text_of_name old.list ++ text ∷ [] → IsNumbered old new text n
added old new text n count same none counted is table list = record {
  goes = record {
    same = list ∙ (ap (λ z. z ++ text ∷ []) same ∙ sym table);
    grows = λ m t e. ap (λ z. slice_get z m) table ∙ grows_more old.table (text ∷ []) m t e;
    apart = λ h. subst AreApart (sym table) (apart_more old.table text h none);
  };
  stands = ap (slice_get new.table) (is ∙ counted) ∙ (ap (λ z. slice_get z (length old.table)) table ∙ at_end old.table text);
}

-- ---- the variables of a file

abbrev pub IsNamed : (ℕ → List ℕ) → VarName → ℕ → Type 0
IsNamed name x n = name n ≡ x.text

-- after so many variables
pub record SoFar (old now : Names) (variables : List VarName) (i : ℕ) (others : List ℕ) : Type 0 where
  pub goes : Goes old now
  pub named : (name : ℕ → List ℕ) → Knows name now.table → Each (IsNamed name) (take i variables) others

pub begun : (old : Names) (variables : List VarName) (others : List ℕ) → AreSame old → others ≡ [] → SoFar old old variables 0 others
begun old variables others same e = record { goes = stays old same; named = λ name k. each_begins (IsNamed name) variables others e }

pub one_more : (old now new : Names) (variables : List VarName) (i : ℕ) (x : VarName) (n : ℕ) (others more : List ℕ) (text : List ℕ) → SoFar old now variables i others → i < length variables → x ≡ get_or variables i x
    → text ≡ x.text → IsNumbered now new text n → more ≡ others ++ n ∷ [] → SoFar old new variables (i + 1) more
one_more old now new variables i x n others more text so_far less is same numbered e = record {
  goes = goes_on old now new so_far.goes numbered.goes;
  named = λ name k. each_goes_on (IsNamed name) variables i x others n more less is (so_far.named name (knew name now new numbered.goes k)) (k n text numbered.stands ∙ same) e;
}

each_named : (name : ℕ → List ℕ) (variables : List VarName) (others : List ℕ) (past : ℕ) → Each (IsNamed name) variables others → name past ≡ [] → (n : ℕ)
    → name (number_or past (slice_get others n)) ≡ text_or_empty (slice_get variables n)
each_named name [] [] past each e n = e
each_named name [] (y ∷ ys) past each e n = absurd each
each_named name (x ∷ xs) [] past each e n = absurd each
each_named name (x ∷ xs) (y ∷ ys) past each e zero = each.0
each_named name (x ∷ xs) (y ∷ ys) past each e (suc n) = each_named name xs ys past each.1 e n

pub all_numbered : (old now : Names) (variables : List VarName) (i : ℕ) (others : List ℕ) → slice_get old.table 6 ≡ Some [] → length variables ≤ i → SoFar old now variables i others
    → AreNumbered old now variables (record { others = others; past = 6 })
all_numbered old now variables i others unnamed past so_far = record {
  goes = so_far.goes;
  named = λ name k n. each_named name variables others 6 (each_ends (IsNamed name) variables i others past (so_far.named name k)) (k 6 [] (so_far.goes.grows 6 [] unnamed)) n;
}
