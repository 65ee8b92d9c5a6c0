-- Reading of writing: bytes begin with one change at most, and are those of one list of commits at most.
use Rattle.std.proofs.Common.{◌≡◌, ◌≢◌, ℕ, ◌+◌, ◌^◌, ◌<◌, ◌≤◌, None, ℤ, pos, negsuc, List, [], ◌∷◌, ◌++◌, length, get_or, drop, codes, decimal, true, false, is_some, w64, FitsSigned, refl, sym, ap, ◌∙◌, subst, arith}
use lib.Signed.{lt_z}
use Rattle.std.proofs.lemmas.Bool.Decides.{nat_tests}
use Rattle.std.specs.List.{position, All}
use Rattle.std.specs.Fmt.{signed_decimal}
use Rattle.std.proofs.lemmas.List.{append_assoc, append-nil, length-append, length-drop}
use Rattle.std.proofs.lemmas.List.Elements.{All-head, All-tail}
use Rattle.tables_keeper.specs.declared.cell.Column.{Column}
use Rattle.tables_keeper.specs.declared.operation.Change.{Change}
use Rattle.tables_keeper.specs.declared.operation.Change.TheVariants.{Put, Drop}
use Rattle.tables_keeper.specs.Rows.{is_named}
use Rattle.tables_keeper.specs.TableData.{TableData}
use Rattle.tables_keeper.specs.Tables.{IsId}
use Rattle.tables_journal.specs.Texts.{text_of, HasNoText}
use Rattle.tables_journal.specs.RowText.{row_text, IsRow, IsNoRow}
use Rattle.tables_journal.specs.Journal.{change_text, changes_text, commit_text, journal_text, IsSound, IsPutSound, IsDropSound, IsLoaded, HasNoPlace, HasNoCells, HasNoChange, HasNoCommit, IsNoChanges, IsNoJournal, EndsEarly, EndsNotEarly, IsOnlyLoaded, loaded}
use Rattle.tables_journal.proofs.TextLemmas.{text_unique, text_within}
use Rattle.tables_journal.proofs.RowTextLemmas.{number_unique, row_alone}
use Rattle.tables_journal.proofs.CutLemmas.{not_early_whole}

abbrev len : List ℕ → ℕ
len bytes = length bytes

abbrev first : List ℕ → ℕ
first bytes = get_or bytes 0 0

-- what is behind a text is shorter
behind_long : (text rest : List ℕ) → length rest < length (text_of text ++ rest)
behind_long text rest =
    let all = length-append (text_of text) rest in
    let parts = length-append (decimal (length text)) (58 ∷ text) in
    omega arith

-- ---- why bytes begin with no change

pub no_place_table : (bytes : List ℕ) → HasNoText bytes → HasNoPlace bytes
no_place_table bytes none table id rest sound is = none table (text_of (signed_decimal id) ++ rest) is

pub no_place_id : (bytes table behind : List ℕ) → length bytes < 2 ^ 64 → bytes ≡ text_of table ++ behind → HasNoText behind → HasNoPlace bytes
no_place_id bytes table behind long found none other id rest sound is =
    none (signed_decimal id) rest (text_unique bytes table behind other (text_of (signed_decimal id) ++ rest) long found is).1

pub no_place_number : (bytes table behind text more : List ℕ) → length bytes < 2 ^ 64 → bytes ≡ text_of table ++ behind → behind ≡ text_of text ++ more → ((id : ℤ) → IsDropSound id → text ≡ signed_decimal id → ⊥) → HasNoPlace bytes
no_place_number bytes table behind text more long found there none other id rest sound is =
    let after = text_unique bytes table behind other (text_of (signed_decimal id) ++ rest) long found is in
    let short = behind_long table behind in
    let number = text_unique behind text more (signed_decimal id) rest (omega (arith, ap len found)) there after.1 in
    none id sound number.0

pub no_cells_text : (bytes : List ℕ) → HasNoText bytes → HasNoCells bytes
no_cells_text bytes none cells rest row plain is = none (row_text cells) rest is

pub no_cells_row : (bytes text behind : List ℕ) → length bytes < 2 ^ 64 → bytes ≡ text_of text ++ behind → IsNoRow text → HasNoCells bytes
no_cells_row bytes text behind long found none cells rest row plain is =
    none cells row (sym (text_unique bytes text behind (row_text cells) rest long found is).0)

pub not_id : (z : ℤ) → lt_z (pos 0) z ≡ false → IsId z → ⊥
not_id (pos n) low is = grind (arith, nat_tests)
not_id (negsuc n) low is = is

pub no_id : (text : List ℕ) (number : ℤ) → FitsSigned w64 number → text ≡ signed_decimal number → (IsId number → ⊥) → (id : ℤ) → IsDropSound id → text ≡ signed_decimal id → ⊥
no_id text number fits is low id sound other = low (subst (λ z. IsId z) (sym (number_unique number id fits sound.fits (sym is ∙ other))) sound.given)

pub no_cells_id : (bytes text behind : List ℕ) (row : List Column) → length bytes < 2 ^ 64 → bytes ≡ text_of text ++ behind → ((columns : List Column) → IsRow columns → row_text columns ≡ text → row ≡ columns) → is_some (position (is_named (codes "id")) row) ≡ true → HasNoCells bytes
no_cells_id bytes text behind row long is found there cells rest sound plain other =
    let same : row ≡ cells = found cells sound (sym (text_unique bytes text behind (row_text cells) rest long is other).0) in
    let e : true ≡ false = sym there ∙ ap (λ r. is_some (position (is_named (codes "id")) r)) same ∙ ap is_some plain in
    cc

-- ---- why bytes begin with no commit

pub no_commit_empty : HasNoCommit []
no_commit_empty content rest is = omega (arith, ap len is)

pub no_commit_letter : (kind : ℕ) (behind : List ℕ) → kind ≢ 99 → HasNoCommit (kind ∷ behind)
no_commit_letter kind behind other content rest is = other (ap first is)

pub no_commit_text : (behind : List ℕ) → HasNoText behind → HasNoCommit (99 ∷ behind)
no_commit_text behind none content rest is = none content rest (ap (drop 1) is)

-- ---- bytes begin with one change at most

pub place_unique : (bytes t u x y : List ℕ) (i j : ℤ) → length bytes < 2 ^ 64 → IsDropSound i → IsDropSound j → bytes ≡ text_of t ++ (text_of (signed_decimal i) ++ x) → bytes ≡ text_of u ++ (text_of (signed_decimal j) ++ y) → (t ≡ u) × (i ≡ j) × (x ≡ y)
place_unique bytes t u x y i j long si sj ea eb =
    let tables = text_unique bytes t (text_of (signed_decimal i) ++ x) u (text_of (signed_decimal j) ++ y) long ea eb in
    let short = behind_long t (text_of (signed_decimal i) ++ x) in
    let ids = text_unique (text_of (signed_decimal i) ++ x) (signed_decimal i) x (signed_decimal j) y (omega (arith, ap len ea)) refl tables.1 in
    (tables.0, number_unique i j si.fits sj.fits ids.0, ids.1)

as_drop : (id : ℤ) (cells : List Column) → IsPutSound id cells → IsDropSound id
as_drop id cells sound = record { given = sound.change.given; fits = sound.fits }

put_flat : (name : List ℕ) (id : ℤ) (cells : List Column) (rest : List ℕ) → change_text (Put name id cells) ++ rest ≡ 112 ∷ (text_of name ++ (text_of (signed_decimal id) ++ (text_of (row_text cells) ++ rest)))
put_flat name id cells rest = ap (λ l. 112 ∷ l) (append_assoc (text_of name) (text_of (signed_decimal id) ++ text_of (row_text cells)) rest ∙ ap (λ l. text_of name ++ l) (append_assoc (text_of (signed_decimal id)) (text_of (row_text cells)) rest))

drop_flat : (name : List ℕ) (id : ℤ) (rest : List ℕ) → change_text (Drop name id) ++ rest ≡ 100 ∷ (text_of name ++ (text_of (signed_decimal id) ++ rest))
drop_flat name id rest = ap (λ l. 100 ∷ l) (append_assoc (text_of name) (text_of (signed_decimal id)) rest)

-- bytes begin with one change at most
pub change_unique : (bytes : List ℕ) (a b : Change) (x y : List ℕ) → length bytes < 2 ^ 64 → IsSound a → IsSound b → bytes ≡ change_text a ++ x → bytes ≡ change_text b ++ y → (a ≡ b) × (x ≡ y)
change_unique bytes (Put n i c) (Put m j d) x y long sa sb ea eb =
    let fa = ap (drop 1) (ea ∙ put_flat n i c x) in
    let fb = ap (drop 1) (eb ∙ put_flat m j d y) in
    let short : length (drop 1 bytes) < 2 ^ 64 = omega (arith, length-drop 1 bytes) in
    let same = place_unique (drop 1 bytes) n m (text_of (row_text c) ++ x) (text_of (row_text d) ++ y) i j short (as_drop i c sa) (as_drop j d sb) fa fb in
    let one = behind_long n (text_of (signed_decimal i) ++ (text_of (row_text c) ++ x)) in
    let two = behind_long (signed_decimal i) (text_of (row_text c) ++ x) in
    let rows = text_unique (text_of (row_text c) ++ x) (row_text c) x (row_text d) y (omega (arith, ap len fa)) refl same.2 in
    let within = text_within (row_text c) x in
    let row : c ≡ d = row_alone c d [] (row_text c) (omega (arith, ap len fa)) sa.row.fits sb.row.fits (sym (append-nil (row_text c))) refl (sym rows.0) in
    (ap (λ (z : List ℕ). Put z i c) same.0 ∙ ap (λ (z : ℤ). Put m z c) same.1 ∙ ap (λ (z : List Column). Put m j z) row, rows.1)
change_unique bytes (Put n i c) (Drop m j) x y long sa sb ea eb = absurd (let e : 112 ≡ 100 = ap first (sym (ea ∙ put_flat n i c x) ∙ (eb ∙ drop_flat m j y)) in omega arith)
change_unique bytes (Drop n i) (Put m j d) x y long sa sb ea eb = absurd (let e : 100 ≡ 112 = ap first (sym (ea ∙ drop_flat n i x) ∙ (eb ∙ put_flat m j d y)) in omega arith)
change_unique bytes (Drop n i) (Drop m j) x y long sa sb ea eb =
    let fa = ap (drop 1) (ea ∙ drop_flat n i x) in
    let fb = ap (drop 1) (eb ∙ drop_flat m j y) in
    let short : length (drop 1 bytes) < 2 ^ 64 = omega (arith, length-drop 1 bytes) in
    let same = place_unique (drop 1 bytes) n m x y i j short sa sb fa fb in
    (ap (λ (z : List ℕ). Drop z i) same.0 ∙ ap (λ (z : ℤ). Drop m z) same.1, same.2)

change_long : (change : Change) (rest : List ℕ) → length rest < length (change_text change ++ rest)
change_long (Put n i c) rest =
    let one = behind_long n (text_of (signed_decimal i) ++ (text_of (row_text c) ++ rest)) in
    let two = behind_long (signed_decimal i) (text_of (row_text c) ++ rest) in
    let three = behind_long (row_text c) rest in
    omega (arith, ap len (put_flat n i c rest))
change_long (Drop n i) rest =
    let one = behind_long n (text_of (signed_decimal i) ++ rest) in
    let two = behind_long (signed_decimal i) rest in
    omega (arith, ap len (drop_flat n i rest))

pub no_change_letter : (kind : ℕ) (behind : List ℕ) → kind ≢ 112 → kind ≢ 100 → HasNoChange (kind ∷ behind)
no_change_letter kind behind p d (Put n i c) rest sound is = p (ap first (is ∙ put_flat n i c rest))
no_change_letter kind behind p d (Drop n i) rest sound is = d (ap first (is ∙ drop_flat n i rest))

pub no_change_empty : HasNoChange []
no_change_empty change rest sound is = omega (arith, change_long change rest, ap len is)

pub no_change_place : (kind : ℕ) (behind : List ℕ) → HasNoPlace behind → HasNoChange (kind ∷ behind)
no_change_place kind behind none (Put n i c) rest sound is = none n i (text_of (row_text c) ++ rest) (as_drop i c sound) (ap (drop 1) (is ∙ put_flat n i c rest))
no_change_place kind behind none (Drop n i) rest sound is = none n i rest sound (ap (drop 1) (is ∙ drop_flat n i rest))

pub no_change_cells : (behind table more : List ℕ) (id : ℤ) → length behind < 2 ^ 64 → IsDropSound id → behind ≡ text_of table ++ (text_of (signed_decimal id) ++ more) → HasNoCells more → HasNoChange (112 ∷ behind)
no_change_cells behind table more id long si found none (Put n i c) rest sound is =
    let same = place_unique behind table n more (text_of (row_text c) ++ rest) id i long si (as_drop i c sound) found (ap (drop 1) (is ∙ put_flat n i c rest)) in
    none c rest sound.row sound.change.plain same.2
no_change_cells behind table more id long si found none (Drop n i) rest sound is = absurd (let e : 112 ≡ 100 = ap first (is ∙ drop_flat n i rest) in omega arith)

-- ---- lists of changes

-- what is left of changes whose first were read
pub record IsRest (changes : List Change) (rest : List ℕ) : Type 0 where
  pub more : List Change
  pub sound : All IsSound more
  pub text : changes_text more ≡ rest

changes_left : (done changes : List Change) (rest bytes : List ℕ) → length bytes < 2 ^ 64 → All IsSound done → All IsSound changes → bytes ≡ changes_text done ++ rest → changes_text changes ≡ bytes → IsRest changes rest
changes_left [] changes rest bytes long sd sc is whole = record { more = changes; sound = sc; text = whole ∙ is }
changes_left (d ∷ ds) [] rest bytes long sd sc is whole =
    let e : [] ≡ change_text d ++ (changes_text ds ++ rest) = whole ∙ is ∙ append_assoc (change_text d) (changes_text ds) rest in
    absurd (omega (arith, change_long d (changes_text ds ++ rest), ap len e))
changes_left (d ∷ ds) (c ∷ cs) rest bytes long sd sc is whole =
    let flat : bytes ≡ change_text d ++ (changes_text ds ++ rest) = is ∙ append_assoc (change_text d) (changes_text ds) rest in
    let same = change_unique bytes d c (changes_text ds ++ rest) (changes_text cs) long (All-head IsSound d ds sd) (All-head IsSound c cs sc) flat (sym whole) in
    let left = changes_left ds cs rest (changes_text ds ++ rest) (omega (arith, change_long d (changes_text ds ++ rest), ap len flat)) (All-tail IsSound d ds sd) (All-tail IsSound c cs sc) refl (sym same.1) in
    record { more = left.more; sound = left.sound; text = left.text }

pub no_changes_end : (done : List Change) (rest bytes : List ℕ) → length bytes < 2 ^ 64 → All IsSound done → bytes ≡ changes_text done ++ rest → 0 < length rest → HasNoChange rest → IsNoChanges bytes
no_changes_end done rest bytes long sd is some none changes sc whole = by (changes_left done changes rest bytes long sd sc is whole)
  where
    at : (more : List Change) → All IsSound more → changes_text more ≡ rest → ⊥
    at [] s e = omega (arith, ap len e)
    at (c ∷ cs) s e = none c (changes_text cs) (All-head IsSound c cs s) (sym e)

    by : IsRest changes rest → ⊥
    by left = at left.more left.sound left.text

-- one list of changes has these bytes
changes_same : (a b : List Change) (bytes : List ℕ) → length bytes < 2 ^ 64 → All IsSound a → All IsSound b → changes_text a ≡ bytes → changes_text b ≡ bytes → a ≡ b
changes_same [] [] bytes long sa sb ea eb = refl
changes_same [] (c ∷ cs) bytes long sa sb ea eb = absurd (omega (arith, change_long c (changes_text cs), ap len (ea ∙ sym eb)))
changes_same (d ∷ ds) [] bytes long sa sb ea eb = absurd (omega (arith, change_long d (changes_text ds), ap len (eb ∙ sym ea)))
changes_same (d ∷ ds) (c ∷ cs) bytes long sa sb ea eb =
    let same = change_unique bytes d c (changes_text ds) (changes_text cs) long (All-head IsSound d ds sa) (All-head IsSound c cs sb) (sym ea) (sym eb) in
    let more = changes_same ds cs (changes_text ds) (omega (arith, change_long d (changes_text ds), ap len ea)) (All-tail IsSound d ds sa) (All-tail IsSound c cs sb) refl (sym same.1) in
    ap (λ (z : Change). z ∷ ds) same.0 ∙ ap (λ (l : List Change). c ∷ l) more

-- ---- lists of commits

commit_long : (commit : List Change) (rest : List ℕ) → length rest < length (commit_text commit ++ rest)
commit_long commit rest = let one = behind_long (changes_text commit) rest in omega arith

-- the changes of a commit are no longer than bytes that begin with it
changes_within : (bytes rest : List ℕ) (commit : List Change) → length bytes < 2 ^ 64 → bytes ≡ commit_text commit ++ rest → length (changes_text commit) < 2 ^ 64
changes_within bytes rest commit long is = omega (arith, text_within (changes_text commit) rest, ap len is)

-- what is left of commits whose first were read
record IsLeft (commits done : List (List Change)) (rest tail : List ℕ) : Type 0 where
  more : List (List Change)
  whole : commits ≡ done ++ more
  sound : All (All IsSound) more
  text : journal_text more ++ tail ≡ rest

commits_left : (done commits : List (List Change)) (rest tail bytes : List ℕ) → length bytes < 2 ^ 64 → All (All IsSound) done → All (All IsSound) commits → EndsEarly tail → bytes ≡ journal_text done ++ rest → bytes ≡ journal_text commits ++ tail → IsLeft commits done rest tail
commits_left [] commits rest tail bytes long sd sc early is whole = record { more = commits; whole = refl; sound = sc; text = sym whole ∙ is }
commits_left (d ∷ ds) [] rest tail bytes long sd sc early is whole =
    let flat : bytes ≡ commit_text d ++ (journal_text ds ++ rest) = is ∙ append_assoc (commit_text d) (journal_text ds) rest in
    absurd (not_early_whole tail (changes_text d) (journal_text ds ++ rest) (changes_within bytes (journal_text ds ++ rest) d long flat) (sym whole ∙ flat) early)
commits_left (d ∷ ds) (c ∷ cs) rest tail bytes long sd sc early is whole =
    let flat : bytes ≡ commit_text d ++ (journal_text ds ++ rest) = is ∙ append_assoc (commit_text d) (journal_text ds) rest in
    let other : bytes ≡ commit_text c ++ (journal_text cs ++ tail) = whole ∙ append_assoc (commit_text c) (journal_text cs) tail in
    let short : length (drop 1 bytes) < 2 ^ 64 = omega (arith, length-drop 1 bytes) in
    let same = text_unique (drop 1 bytes) (changes_text d) (journal_text ds ++ rest) (changes_text c) (journal_text cs ++ tail) short (ap (drop 1) flat) (ap (drop 1) other) in
    let one : d ≡ c = changes_same d c (changes_text d) (changes_within bytes (journal_text ds ++ rest) d long flat) (All-head (All IsSound) d ds sd) (All-head (All IsSound) c cs sc) refl (sym same.0) in
    let left = commits_left ds cs rest tail (journal_text ds ++ rest) (omega (arith, commit_long d (journal_text ds ++ rest), ap len flat)) (All-tail (All IsSound) d ds sd) (All-tail (All IsSound) c cs sc) early refl same.1 in
    record { more = left.more; whole = ap (λ (z : List Change). z ∷ cs) (sym one) ∙ ap (λ (l : List (List Change)). d ∷ l) left.whole; sound = left.sound; text = left.text }

-- whole commits were read, and what follows is none, and none that ends early
pub no_journal_end : (bytes rest : List ℕ) (tables : List TableData) → length bytes < 2 ^ 64 → IsLoaded bytes rest tables → HasNoCommit rest → EndsNotEarly rest → IsNoJournal bytes
no_journal_end bytes rest tables long is none other commits tail sound early whole = by (commits_left is.commits commits rest tail bytes long is.sound sound early is.text whole)
  where
    at : (more : List (List Change)) → journal_text more ++ tail ≡ rest → ⊥
    at [] e = other (subst (λ (l : List ℕ). EndsEarly l) e early)
    at (c ∷ cs) e = none (changes_text c) (journal_text cs ++ tail) (sym e ∙ append_assoc (commit_text c) (journal_text cs) tail)

    by : IsLeft commits is.commits rest tail → ⊥
    by left = at left.more left.text

-- the content of what follows is none of changes
pub no_journal_changes : (bytes rest content behind : List ℕ) (tables : List TableData) → length bytes < 2 ^ 64 → IsLoaded bytes rest tables → rest ≡ (99 ∷ text_of content) ++ behind → IsNoChanges content → IsNoJournal bytes
no_journal_changes bytes rest content behind tables long is found none commits tail sound early whole = by (commits_left is.commits commits rest tail bytes long is.sound sound early is.text whole)
  where
    short : length rest < 2 ^ 64
    short = omega (arith, ap len is.text, length-append (journal_text is.commits) rest)

    at : (more : List (List Change)) → All (All IsSound) more → journal_text more ++ tail ≡ rest → ⊥
    at [] s e = not_early_whole tail content behind (omega (arith, text_within content behind, ap len found, short)) (e ∙ found) early
    at (c ∷ cs) s e =
        let flat : rest ≡ commit_text c ++ (journal_text cs ++ tail) = sym e ∙ append_assoc (commit_text c) (journal_text cs) tail in
        let same = text_unique (drop 1 rest) content behind (changes_text c) (journal_text cs ++ tail) (omega (arith, length-drop 1 rest, short)) (ap (drop 1) found) (ap (drop 1) flat) in
        none c (All-head (All IsSound) c cs s) (sym same.0)

    by : IsLeft commits is.commits rest tail → ⊥
    by left = at left.more left.sound left.text

-- whole commits were read, and what follows ends early
pub only_loaded : (bytes rest : List ℕ) (tables : List TableData) → length bytes < 2 ^ 64 → IsLoaded bytes rest tables → EndsEarly rest → IsOnlyLoaded bytes rest tables
only_loaded bytes rest tables long is ends commits tail sound early whole = by (commits_left is.commits commits rest tail bytes long is.sound sound early is.text whole)
  where
    short : length rest < 2 ^ 64
    short = omega (arith, ap len is.text, length-append (journal_text is.commits) rest)

    at : (more : List (List Change)) → commits ≡ is.commits ++ more → journal_text more ++ tail ≡ rest → (tables ≡ loaded commits) × (rest ≡ tail)
    at [] w e = (is.made ∙ ap loaded (sym (w ∙ append-nil is.commits)), sym e)
    at (c ∷ cs) w e =
        let flat : rest ≡ commit_text c ++ (journal_text cs ++ tail) = sym e ∙ append_assoc (commit_text c) (journal_text cs) tail in
        absurd (not_early_whole rest (changes_text c) (journal_text cs ++ tail) (changes_within rest (journal_text cs ++ tail) c short flat) flat ends)

    by : IsLeft commits is.commits rest tail → (tables ≡ loaded commits) × (rest ≡ tail)
    by left = at left.more left.whole left.text
