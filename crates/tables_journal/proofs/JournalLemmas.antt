-- The journal's text: one change more, one commit more, and what ends early.
use Rattle.std.proofs.Common.{◌≡◌, ℕ, ◌+◌, ◌-◌, ◌^◌, ◌<◌, ◌≤◌, true, false, Some, None, List, [], ◌∷◌, ◌++◌, length, get_or, take, drop, replicate, eqb, nat_le, decimal, suc, refl, sym, ap, ◌∙◌, subst, arith}
use Rattle.std.specs.List.{position, All}
use Rattle.std.proofs.lemmas.Bool.Decides.{nat_tests}
use Rattle.std.proofs.lemmas.Grind.{common_steps}
use Rattle.std.proofs.lemmas.List.{append_assoc, append-nil, length-append, length-replicate, take_at, drop_at, take-append-drop}
use Rattle.std.proofs.lemmas.List.Elements.{All-push}
use Rattle.tables_keeper.specs.declared.operation.Change.{Change}
use Rattle.tables_keeper.specs.TableData.{TableData}
use Rattle.tables_keeper.specs.Tables.{all_redone}
use Rattle.less_terms.specs.Decimals.{decimal_value}
use Rattle.tables_journal.specs.Texts.{text_of}
use Rattle.tables_journal.specs.Journal.{change_text, changes_text, commit_text, journal_text, IsSound, EndsEarly, IsLoaded, loaded_on}
use Rattle.tables_journal.proofs.TextLemmas.{decimal_of_value, value_small, colon_split}

-- ---- one more

pub changes_push : (done : List Change) (change : Change) → changes_text (done ++ change ∷ []) ≡ changes_text done ++ change_text change
changes_push [] change = append-nil (change_text change)
changes_push (d ∷ ds) change = ap (λ l. change_text d ++ l) (changes_push ds change) ∙ sym (append_assoc (change_text d) (changes_text ds) (change_text change))

commits_push : (done : List (List Change)) (commit : List Change) → journal_text (done ++ commit ∷ []) ≡ journal_text done ++ commit_text commit
commits_push [] commit = append-nil (commit_text commit)
commits_push (d ∷ ds) commit = ap (λ l. commit_text d ++ l) (commits_push ds commit) ∙ sym (append_assoc (commit_text d) (journal_text ds) (commit_text commit))

loaded_push : (done : List (List Change)) (commit : List Change) (tables : List TableData) → loaded_on (done ++ commit ∷ []) tables ≡ all_redone commit (loaded_on done tables)
loaded_push [] commit tables = refl
loaded_push (d ∷ ds) commit tables = loaded_push ds commit (all_redone d tables)

pub loaded_nothing : (bytes : List ℕ) → IsLoaded bytes bytes []
loaded_nothing bytes = record { commits = []; text = refl; sound = λ i d lt. absurd (omega arith); made = refl }

pub loaded_more : (bytes rest behind : List ℕ) (before after : List TableData) (commit : List Change) → IsLoaded bytes rest before → rest ≡ commit_text commit ++ behind → All IsSound commit → after ≡ all_redone commit before → IsLoaded bytes behind after
loaded_more bytes rest behind before after commit is front sound made = record {
  commits = is.commits ++ commit ∷ [];
  text = is.text ∙ ap (λ l. journal_text is.commits ++ l) front ∙ sym (append_assoc (journal_text is.commits) (commit_text commit) behind) ∙ ap (λ l. l ++ behind) (sym (commits_push is.commits commit));
  sound = All-push (All IsSound) is.commits commit is.sound sound;
  made = made ∙ ap (all_redone commit) is.made ∙ sym (loaded_push is.commits commit []);
}

-- what is behind the commits stands at the end
pub rest_at : (bytes rest : List ℕ) (tables : List TableData) → IsLoaded bytes rest tables → drop (length bytes - length rest) bytes ≡ rest
rest_at bytes rest tables is =
    let long = ap (λ (l : List ℕ). length l) is.text ∙ length-append (journal_text is.commits) rest in
    ap (drop (length bytes - length rest)) is.text ∙ drop_at (journal_text is.commits) rest (length bytes - length rest) (omega arith)

pub rest_within : (bytes rest : List ℕ) (tables : List TableData) → IsLoaded bytes rest tables → length rest ≤ length bytes
rest_within bytes rest tables is = omega (arith, ap (λ (l : List ℕ). length l) is.text ∙ length-append (journal_text is.commits) rest)

-- ---- what ends early

abbrev zeros : ℕ → List ℕ
zeros n = replicate n 0

long_zeros : (n : ℕ) → length (zeros n) ≡ n
long_zeros n = length-replicate n 0

pub early_none : EndsEarly []
early_none = record { content = []; kept = 0; small = omega arith; within = omega arith; is = refl }

pub early_letter : EndsEarly (99 ∷ [])
early_letter = record { content = []; kept = 1; small = omega arith; within = omega (arith, length-append (decimal 0) (58 ∷ [])); is = refl }

pub early_digits : (digits : List ℕ) (n : ℕ) → decimal_value (2 ^ 64 - 1) digits ≡ Some n → EndsEarly (99 ∷ digits)
early_digits digits n value =
    let content = zeros n in
    let long : length content ≡ n = long_zeros n in
    let same : digits ≡ decimal (length content) = decimal_of_value (2 ^ 64 - 1) n digits (omega arith) value ∙ ap decimal (sym long) in
    let le = value_small (2 ^ 64 - 1) n digits value in
    record {
      content = content;
      kept = suc (length digits);
      small = omega (arith, long, le);
      within = omega (arith, length-append (decimal (length content)) (58 ∷ content), ap (λ (l : List ℕ). length l) same);
      is = ap (λ l. 99 ∷ l) (sym (take_at digits (58 ∷ content) (length digits) refl) ∙ ap (λ l. take (length digits) (l ++ 58 ∷ content)) same);
    }

pub early_part : (bytes : List ℕ) (place n : ℕ) → position (λ byte. eqb byte 58) bytes ≡ Some place → decimal_value (2 ^ 64 - 1) (take place bytes) ≡ Some n → length (drop 1 (drop place bytes)) < n → EndsEarly (99 ∷ bytes)
early_part bytes place n found value short =
    let behind = drop 1 (drop place bytes) in
    let fill = zeros (n - length behind) in
    let content = behind ++ fill in
    let long : length content ≡ n = length-append behind fill ∙ ap (λ k. length behind + k) (long_zeros (n - length behind)) ∙ omega arith in
    let digits : take place bytes ≡ decimal n = decimal_of_value (2 ^ 64 - 1) n (take place bytes) (omega arith) value in
    let le = value_small (2 ^ 64 - 1) n (take place bytes) value in
    let split : bytes ≡ decimal n ++ 58 ∷ behind = sym (take-append-drop place bytes) ∙ ap (λ l. l ++ drop place bytes) digits ∙ ap (λ l. decimal n ++ l) (colon_split bytes place found) in
    let whole : bytes ++ fill ≡ text_of content =
    ap (λ l. l ++ fill) split ∙ append_assoc (decimal n) (58 ∷ behind) fill ∙ ap (λ k. decimal k ++ 58 ∷ content) (sym long) in
    record {
      content = content;
      kept = suc (length bytes);
      small = omega (arith, long, le);
      within = omega (arith, ap (λ (l : List ℕ). length l) whole, length-append bytes fill, long_zeros (n - length behind));
      is = ap (λ l. 99 ∷ l) (sym (take_at bytes fill (length bytes) refl) ∙ ap (take (length bytes)) whole);
    }
