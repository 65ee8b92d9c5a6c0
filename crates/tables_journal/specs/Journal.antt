-- The journal's text: commits one after another, each a text of its changes with its length.
use Rattle.std.specs.Prelude.{◌≡◌, ℕ, ◌^◌, ◌<◌, ℤ, None, codes, List, [], ◌∷◌, ◌++◌, length, take, FitsSigned}
use Rattle.std.specs.List.{position, All}
use Rattle.tables_keeper.specs.Rows.{is_named}
use Rattle.std.specs.Int.{w64}
use Rattle.std.specs.Fmt.{signed_decimal}
use Rattle.tables_keeper.specs.declared.cell.Column.{Column}
use Rattle.tables_keeper.specs.declared.operation.Change.{Change}
use Rattle.tables_keeper.specs.declared.operation.Change.TheVariants.{Put, Drop}
use Rattle.tables_keeper.specs.TableData.{TableData}
use Rattle.tables_keeper.specs.Tables.{IsId, IsPut, all_redone}
use Rattle.tables_journal.specs.Texts.{text_of}
use Rattle.tables_journal.specs.RowText.{row_text, IsRow}

-- `p` with the texts of table, id and row; `d` with the texts of table and id
abbrev pub change_text : Change → List ℕ
change_text (Put name id cells) = 112 ∷ (text_of name ++ (text_of (signed_decimal id) ++ text_of (row_text cells)))
change_text (Drop name id) = 100 ∷ (text_of name ++ text_of (signed_decimal id))

abbrev pub changes_text : List Change → List ℕ
changes_text [] = []
changes_text (change ∷ changes) = change_text change ++ changes_text changes

-- `c` with the text of the changes
abbrev pub commit_text : List Change → List ℕ
commit_text changes = 99 ∷ text_of (changes_text changes)

abbrev pub journal_text : List (List Change) → List ℕ
journal_text [] = []
journal_text (commit ∷ commits) = commit_text commit ++ journal_text commits

-- a change that can stand in a journal: its id can be given and has 64 bits, and its row is one
pub record IsPutSound (id : ℤ) (cells : List Column) : Type 0 where
  pub change : IsPut id cells
  pub fits : FitsSigned w64 id
  pub row : IsRow cells

pub record IsDropSound (id : ℤ) : Type 0 where
  pub given : IsId id
  pub fits : FitsSigned w64 id

abbrev pub IsSound : Change → Type 0
IsSound (Put name id cells) = IsPutSound id cells
IsSound (Drop name id) = IsDropSound id

-- a front part of some commit, but not the whole
pub record EndsEarly (rest : List ℕ) : Type 0 where
  pub content : List ℕ
  pub kept : ℕ
  pub small : length content < 2 ^ 64
  pub within : kept < length (99 ∷ text_of content)
  pub is : rest ≡ take kept (99 ∷ text_of content)

-- no front part of a commit
abbrev pub EndsNotEarly : List ℕ → Type 0
EndsNotEarly rest = EndsEarly rest → ⊥

-- the changes of several commits, one after another
abbrev pub loaded_on : List (List Change) → List TableData → List TableData
loaded_on [] tables = tables
loaded_on (commit ∷ commits) tables = loaded_on commits (all_redone commit tables)

abbrev pub loaded : List (List Change) → List TableData
loaded commits = loaded_on commits []

-- what whole commits at the front of some bytes make of no tables, and what is behind them
pub record IsLoaded (bytes rest : List ℕ) (tables : List TableData) : Type 0 where
  pub commits : List (List Change)
  pub text : bytes ≡ journal_text commits ++ rest
  pub sound : All (All IsSound) commits
  pub made : tables ≡ loaded commits

-- no other commits, with one behind them that ends early, have these bytes
abbrev pub IsOnlyLoaded : List ℕ → List ℕ → List TableData → Type 0
IsOnlyLoaded bytes rest tables = (commits : List (List Change)) (tail : List ℕ) → All (All IsSound) commits → EndsEarly tail → bytes ≡ journal_text commits ++ tail → (tables ≡ loaded commits) × (rest ≡ tail)

-- ---- bytes of other forms

-- the bytes begin with no table and id
abbrev pub HasNoPlace : List ℕ → Type 0
HasNoPlace bytes = (table : List ℕ) (id : ℤ) (rest : List ℕ) → IsDropSound id → bytes ≡ text_of table ++ (text_of (signed_decimal id) ++ rest) → ⊥

-- with no cells that a change can put
abbrev pub HasNoCells : List ℕ → Type 0
HasNoCells bytes = (cells : List Column) (rest : List ℕ) → IsRow cells → position (is_named (codes "id")) cells ≡ None → bytes ≡ text_of (row_text cells) ++ rest → ⊥

-- with no change
abbrev pub HasNoChange : List ℕ → Type 0
HasNoChange bytes = (change : Change) (rest : List ℕ) → IsSound change → bytes ≡ change_text change ++ rest → ⊥

-- with no commit
abbrev pub HasNoCommit : List ℕ → Type 0
HasNoCommit bytes = (content rest : List ℕ) → bytes ≡ (99 ∷ text_of content) ++ rest → ⊥

-- the bytes are those of no list of changes
abbrev pub IsNoChanges : List ℕ → Type 0
IsNoChanges bytes = (changes : List Change) → All IsSound changes → changes_text changes ≡ bytes → ⊥

-- the bytes are those of no whole commits with one behind them that ends early
abbrev pub IsNoJournal : List ℕ → Type 0
IsNoJournal bytes = (commits : List (List Change)) (tail : List ℕ) → All (All IsSound) commits → EndsEarly tail → bytes ≡ journal_text commits ++ tail → ⊥
