-- The bytes of rows: that bytes are those of one row at most.
use Rattle.std.proofs.Common.{◌≡◌, ◌≢◌, ℕ, ◌+◌, ◌-◌, ◌^◌, ◌<◌, ◌≤◌, Bool, true, false, Option, Some, None, ℤ, pos, negsuc, List, [], ◌∷◌, ◌++◌, length, get_or, drop, map, decimal, FitsSigned, w64, refl, sym, ap, ◌∙◌, subst, arith}
use lib.Signed.{mag}
use Rattle.std.specs.List.{position, All, AllPairs}
use Rattle.std.specs.Str.{bytes_eq}
use Rattle.std.specs.Fmt.{signed_decimal}
use Rattle.std.proofs.lemmas.Fmt.{signed_decimal_injective, IsAscii-signed, parse-signed_decimal}
use Rattle.std.proofs.lemmas.Str.{IsUtf8-from_ascii}
use Rattle.std.specs.Str.{IsUtf8}
use Rattle.std.specs.Str.Parse.{ParsesSigned}
use Rattle.std.specs.Prelude.{Result, Ok}
use Rattle.std.proofs.lemmas.List.{length-drop, append_assoc, append-nil, length-append, length-map, get_or_append_left, get_or_at, get_or-map}
use Rattle.std.proofs.lemmas.List.Elements.{All-head, All-tail}
use Rattle.std.proofs.lemmas.List.Quantifiers.{position-Some}
use Rattle.tables_keeper.specs.declared.cell.Cell.{Cell}
use Rattle.tables_keeper.specs.declared.cell.Column.{Column}
use Rattle.tables_keeper.specs.declared.cell.Cell.TheVariants.{Null, Bool as OfBool, Int, Text}
use Rattle.tables_keeper.specs.Rows.{is_named, HasDistinctNames}
use Rattle.tables_journal.specs.Texts.{text_of, HasNoText}
use Rattle.tables_journal.specs.RowText.{cell_text, column_text, row_text, FitsCell, IsRow, IsNoRow, HasNoCell, HasNoColumn}
use Rattle.tables_journal.proofs.TextLemmas.{text_unique}

abbrev first_byte : List ℕ → ℕ
first_byte bytes = get_or bytes 0 0

pub number_unique : (m n : ℤ) → FitsSigned w64 m → FitsSigned w64 n → signed_decimal m ≡ signed_decimal n → m ≡ n
number_unique m n fm fn e = signed_decimal_injective m n (small m fm) (small n fn) e
  where
    small : (z : ℤ) → FitsSigned w64 z → mag z < 2 ^ 63
    small (pos k) fits = omega (arith, fits.sfits)
    small (negsuc k) fits = omega (arith, fits.sfits)

pub cell_unique : (bytes : List ℕ) (a b : Cell) (x y : List ℕ) → length bytes < 2 ^ 64 → FitsCell a → FitsCell b → bytes ≡ cell_text a ++ x → bytes ≡ cell_text b ++ y → (a ≡ b) × (x ≡ y)
cell_unique bytes Null Null x y fits fa fb ea eb = (refl, ap (drop 1) (sym ea ∙ eb))
cell_unique bytes Null (OfBool true) x y fits fa fb ea eb = absurd (let e : 110 ≡ 116 = ap first_byte (sym ea ∙ eb) in omega arith)
cell_unique bytes Null (OfBool false) x y fits fa fb ea eb = absurd (let e : 110 ≡ 102 = ap first_byte (sym ea ∙ eb) in omega arith)
cell_unique bytes Null (Int n) x y fits fa fb ea eb = absurd (let e : 110 ≡ 105 = ap first_byte (sym ea ∙ eb) in omega arith)
cell_unique bytes Null (Text t) x y fits fa fb ea eb = absurd (let e : 110 ≡ 115 = ap first_byte (sym ea ∙ eb) in omega arith)
cell_unique bytes (OfBool true) Null x y fits fa fb ea eb = absurd (let e : 116 ≡ 110 = ap first_byte (sym ea ∙ eb) in omega arith)
cell_unique bytes (OfBool true) (OfBool true) x y fits fa fb ea eb = (refl, ap (drop 1) (sym ea ∙ eb))
cell_unique bytes (OfBool true) (OfBool false) x y fits fa fb ea eb = absurd (let e : 116 ≡ 102 = ap first_byte (sym ea ∙ eb) in omega arith)
cell_unique bytes (OfBool true) (Int n) x y fits fa fb ea eb = absurd (let e : 116 ≡ 105 = ap first_byte (sym ea ∙ eb) in omega arith)
cell_unique bytes (OfBool true) (Text t) x y fits fa fb ea eb = absurd (let e : 116 ≡ 115 = ap first_byte (sym ea ∙ eb) in omega arith)
cell_unique bytes (OfBool false) Null x y fits fa fb ea eb = absurd (let e : 102 ≡ 110 = ap first_byte (sym ea ∙ eb) in omega arith)
cell_unique bytes (OfBool false) (OfBool true) x y fits fa fb ea eb = absurd (let e : 102 ≡ 116 = ap first_byte (sym ea ∙ eb) in omega arith)
cell_unique bytes (OfBool false) (OfBool false) x y fits fa fb ea eb = (refl, ap (drop 1) (sym ea ∙ eb))
cell_unique bytes (OfBool false) (Int n) x y fits fa fb ea eb = absurd (let e : 102 ≡ 105 = ap first_byte (sym ea ∙ eb) in omega arith)
cell_unique bytes (OfBool false) (Text t) x y fits fa fb ea eb = absurd (let e : 102 ≡ 115 = ap first_byte (sym ea ∙ eb) in omega arith)
cell_unique bytes (Int m) Null x y fits fa fb ea eb = absurd (let e : 105 ≡ 110 = ap first_byte (sym ea ∙ eb) in omega arith)
cell_unique bytes (Int m) (OfBool true) x y fits fa fb ea eb = absurd (let e : 105 ≡ 116 = ap first_byte (sym ea ∙ eb) in omega arith)
cell_unique bytes (Int m) (OfBool false) x y fits fa fb ea eb = absurd (let e : 105 ≡ 102 = ap first_byte (sym ea ∙ eb) in omega arith)
cell_unique bytes (Int m) (Int n) x y fits fa fb ea eb =
    let long : length (drop 1 bytes) < 2 ^ 64 = omega (arith, length-drop 1 bytes) in
    let same = text_unique (drop 1 bytes) (signed_decimal m) x (signed_decimal n) y long (ap (drop 1) ea) (ap (drop 1) eb) in
    (ap Int (number_unique m n fa fb same.0), same.1)
cell_unique bytes (Int m) (Text t) x y fits fa fb ea eb = absurd (let e : 105 ≡ 115 = ap first_byte (sym ea ∙ eb) in omega arith)
cell_unique bytes (Text s) Null x y fits fa fb ea eb = absurd (let e : 115 ≡ 110 = ap first_byte (sym ea ∙ eb) in omega arith)
cell_unique bytes (Text s) (OfBool true) x y fits fa fb ea eb = absurd (let e : 115 ≡ 116 = ap first_byte (sym ea ∙ eb) in omega arith)
cell_unique bytes (Text s) (OfBool false) x y fits fa fb ea eb = absurd (let e : 115 ≡ 102 = ap first_byte (sym ea ∙ eb) in omega arith)
cell_unique bytes (Text s) (Int n) x y fits fa fb ea eb = absurd (let e : 115 ≡ 105 = ap first_byte (sym ea ∙ eb) in omega arith)
cell_unique bytes (Text s) (Text t) x y fits fa fb ea eb =
    let long : length (drop 1 bytes) < 2 ^ 64 = omega (arith, length-drop 1 bytes) in
    let same = text_unique (drop 1 bytes) (s) x (t) y long (ap (drop 1) ea) (ap (drop 1) eb) in
    (ap Text same.0, same.1)

pub column_unique : (bytes : List ℕ) (a b : Column) (x y : List ℕ) → length bytes < 2 ^ 64 → FitsCell a.cell → FitsCell b.cell → bytes ≡ column_text a ++ x → bytes ≡ column_text b ++ y → (a ≡ b) × (x ≡ y)
column_unique bytes a b x y fits fa fb ea eb =
    let ia : bytes ≡ text_of a.name ++ (cell_text a.cell ++ x) = ea ∙ append_assoc (text_of a.name) (cell_text a.cell) x in
    let ib : bytes ≡ text_of b.name ++ (cell_text b.cell ++ y) = eb ∙ append_assoc (text_of b.name) (cell_text b.cell) y in
    let names = text_unique bytes a.name (cell_text a.cell ++ x) b.name (cell_text b.cell ++ y) fits ia ib in
    let long : length bytes ≡ length (text_of a.name) + length (cell_text a.cell ++ x) = ap (λ (l : List ℕ). length l) ia ∙ length-append (text_of a.name) (cell_text a.cell ++ x) in
    let cells = cell_unique (cell_text a.cell ++ x) a.cell b.cell x y (omega arith) fa fb refl names.1 in
    (ap (λ (n : List ℕ). record { name = n; cell = a.cell }) names.0 ∙ ap (λ (c : Cell). record { name = b.name; cell = c }) cells.0, cells.1)

-- a column has bytes
pub column_long : (column : Column) (rest : List ℕ) → length rest < length (column_text column ++ rest)
column_long column rest =
    let all = length-append (column_text column) rest in
    let parts = length-append (text_of column.name) (cell_text column.cell) in
    let name = length-append (decimal (length column.name)) (58 ∷ column.name) in
    omega arith

abbrev pub FitsColumn : Column → Type 0
FitsColumn column = FitsCell column.cell

-- what is left of a row whose first columns were read
pub record IsLeft (columns done : List Column) (rest : List ℕ) : Type 0 where
  pub more : List Column
  pub whole : columns ≡ done ++ more
  pub text : row_text more ≡ rest
  pub fits : All FitsColumn more

pub row_left : (done columns : List Column) (rest bytes : List ℕ) → length bytes < 2 ^ 64 → All FitsColumn done → All FitsColumn columns → bytes ≡ row_text done ++ rest → row_text columns ≡ bytes → IsLeft columns done rest
row_left [] columns rest bytes fits fd fc is whole = record { more = columns; whole = refl; text = whole ∙ is; fits = fc }
row_left (d ∷ ds) [] rest bytes fits fd fc is whole =
    let long = column_long d (row_text ds ++ rest) in
    let e : [] ≡ column_text d ++ (row_text ds ++ rest) = whole ∙ is ∙ append_assoc (column_text d) (row_text ds) rest in
    absurd (omega (arith, long, ap (λ (l : List ℕ). length l) e))
row_left (d ∷ ds) (c ∷ cs) rest bytes fits fd fc is whole =
    let id : bytes ≡ column_text d ++ (row_text ds ++ rest) = is ∙ append_assoc (column_text d) (row_text ds) rest in
    let same = column_unique bytes d c (row_text ds ++ rest) (row_text cs) fits (All-head FitsColumn d ds fd) (All-head FitsColumn c cs fc) id (sym whole) in
    let long = column_long d (row_text ds ++ rest) in
    let shorter : length (row_text ds ++ rest) < 2 ^ 64 = omega (arith, long, ap (λ (l : List ℕ). length l) id) in
    let left = row_left ds cs rest (row_text ds ++ rest) shorter (All-tail FitsColumn d ds fd) (All-tail FitsColumn c cs fc) refl (sym same.1) in
    record { more = left.more; whole = ap (λ (x : Column). x ∷ cs) (sym same.0) ∙ ap (λ (l : List Column). d ∷ l) left.whole; text = left.text; fits = left.fits }

-- bytes that go on with no column, or with one of a name that was there, are those of no row
pub no_row_end : (done : List Column) (rest bytes : List ℕ) → length bytes < 2 ^ 64 → All FitsColumn done → bytes ≡ row_text done ++ rest → 0 < length rest → HasNoColumn rest → IsNoRow bytes
no_row_end done rest bytes fits fd is some none columns row whole = by (row_left done columns rest bytes fits fd row.fits is whole)
  where
    at : (more : List Column) → All FitsColumn more → row_text more ≡ rest → ⊥
    at [] f e = omega (arith, ap (λ (l : List ℕ). length l) e)
    at (c ∷ cs) f e = none c (row_text cs) (All-head FitsColumn c cs f) (sym e)

    by : IsLeft columns done rest → ⊥
    by left = at left.more left.fits left.text

pub no_row_twice : (done : List Column) (column : Column) (rest behind bytes : List ℕ) → length bytes < 2 ^ 64 → All FitsColumn done → FitsCell column.cell → bytes ≡ row_text done ++ rest → rest ≡ column_text column ++ behind → position (is_named column.name) done ≢ None → IsNoRow bytes
no_row_twice done column rest behind bytes fits fd fc is front there columns row whole = by (row_left done columns rest bytes fits fd row.fits is whole)
  where
    long : length bytes ≡ length (row_text done) + length rest
    long = ap (λ (l : List ℕ). length l) is ∙ length-append (row_text done) rest

    twice : (c : Column) (cs : List Column) → c ≡ column → columns ≡ done ++ c ∷ cs → (o : Option ℕ) → position (is_named column.name) done ≡ o → ⊥
    twice c cs same e None found = there found
    twice c cs same e (Some k) found =
        let at = position-Some (is_named column.name) done k column found in
        let wide : length (done ++ c ∷ cs) ≡ length done + length (c ∷ cs) = length-append done (c ∷ cs) in
        let apart : AllPairs (λ a b. bytes_eq a b ≡ false) (map (λ (x : Column). x.name) (done ++ c ∷ cs)) = subst (λ l. HasDistinctNames l) e row.distinct in
        let names = λ (x : Column). x.name in
        let differs = apart k (length done) column.name at.0 (omega (arith, wide, length-map (done ++ c ∷ cs) names)) in
        let here : get_or (map names (done ++ c ∷ cs)) k column.name ≡ (get_or done k column).name = get_or-map names (done ++ c ∷ cs) k column column.name (omega (arith, wide)) ∙ ap names (get_or_append_left done (c ∷ cs) column k at.0) in
        let last : get_or (map names (done ++ c ∷ cs)) (length done) column.name ≡ c.name = get_or-map names (done ++ c ∷ cs) (length done) column column.name (omega (arith, wide)) ∙ ap names (get_or_at done c cs column (length done) refl) in
        let no : bytes_eq (get_or done k column).name column.name ≡ false = rw (here, last, same) at differs in
        let yes : bytes_eq (get_or done k column).name column.name ≡ true = at.1 in
        cc

    at : (more : List Column) → All FitsColumn more → columns ≡ done ++ more → row_text more ≡ rest → ⊥
    at [] f w e = omega (arith, column_long column behind, ap (λ (l : List ℕ). length l) (e ∙ front))
    at (c ∷ cs) f w e =
        let short : length rest < 2 ^ 64 = omega (arith, long) in
        let same = column_unique rest c column (row_text cs) behind short (All-head FitsColumn c cs f) fc (sym e) front in
        twice c cs same.0 w (position (is_named column.name) done) refl

    by : IsLeft columns done rest → ⊥
    by left = at left.more left.fits left.whole left.text

-- bytes that were read to their end are those of this row alone
pub row_alone : (done columns : List Column) (rest bytes : List ℕ) → length bytes < 2 ^ 64 → All FitsColumn done → All FitsColumn columns → bytes ≡ row_text done ++ rest → rest ≡ [] → row_text columns ≡ bytes → done ≡ columns
row_alone done columns rest bytes fits fd fc is none whole = by (row_left done columns rest bytes fits fd fc is whole)
  where
    at : (more : List Column) → row_text more ≡ [] → more ≡ []
    at [] e = refl
    at (c ∷ cs) e = absurd (omega (arith, column_long c (row_text cs), ap (λ (l : List ℕ). length l) e))

    by : IsLeft columns done rest → done ≡ columns
    by left = sym (left.whole ∙ ap (λ (l : List Column). done ++ l) (at left.more (left.text ∙ none)) ∙ append-nil done)

-- one column more
pub row_push : (done : List Column) (column : Column) → row_text (done ++ column ∷ []) ≡ row_text done ++ column_text column
row_push [] column = append-nil (column_text column)
row_push (d ∷ ds) column = ap (λ (l : List ℕ). column_text d ++ l) (row_push ds column) ∙ sym (append_assoc (column_text d) (row_text ds) (column_text column))

-- ---- why bytes begin with no cell, or with no column

pub no_cell_empty : HasNoCell []
no_cell_empty Null rest fits e = absurd (omega (arith, ap (λ (l : List ℕ). length l) e))
no_cell_empty (OfBool true) rest fits e = absurd (omega (arith, ap (λ (l : List ℕ). length l) e))
no_cell_empty (OfBool false) rest fits e = absurd (omega (arith, ap (λ (l : List ℕ). length l) e))
no_cell_empty (Int n) rest fits e = absurd (omega (arith, ap (λ (l : List ℕ). length l) e))
no_cell_empty (Text t) rest fits e = absurd (omega (arith, ap (λ (l : List ℕ). length l) e))

-- the letter is none of a cell
pub no_cell_letter : (kind : ℕ) (behind : List ℕ) → kind ≢ 110 → kind ≢ 116 → kind ≢ 102 → kind ≢ 105 → kind ≢ 115 → HasNoCell (kind ∷ behind)
no_cell_letter kind behind n t f i s Null rest fits e = n (ap first_byte e)
no_cell_letter kind behind n t f i s (OfBool true) rest fits e = t (ap first_byte e)
no_cell_letter kind behind n t f i s (OfBool false) rest fits e = f (ap first_byte e)
no_cell_letter kind behind n t f i s (Int m) rest fits e = i (ap first_byte e)
no_cell_letter kind behind n t f i s (Text x) rest fits e = s (ap first_byte e)

-- the letter is that of a number or a text, and no text follows
pub no_cell_text : (kind : ℕ) (behind : List ℕ) → kind ≢ 110 → kind ≢ 116 → kind ≢ 102 → HasNoText behind → HasNoCell (kind ∷ behind)
no_cell_text kind behind n t f none Null rest fits e = n (ap first_byte e)
no_cell_text kind behind n t f none (OfBool true) rest fits e = t (ap first_byte e)
no_cell_text kind behind n t f none (OfBool false) rest fits e = f (ap first_byte e)
no_cell_text kind behind n t f none (Int m) rest fits e = none (signed_decimal m) rest (ap (drop 1) e)
no_cell_text kind behind n t f none (Text x) rest fits e = none x rest (ap (drop 1) e)

-- the text is no number
pub no_cell_number : (behind text rest : List ℕ) → length behind < 2 ^ 64 → behind ≡ text_of text ++ rest → ((number : ℤ) → FitsSigned w64 number → text ≡ signed_decimal number → ⊥) → HasNoCell (105 ∷ behind)
no_cell_number behind text rest long is none Null more fits e = absurd (let k : 105 ≡ 110 = ap first_byte e in omega arith)
no_cell_number behind text rest long is none (OfBool true) more fits e = absurd (let k : 105 ≡ 116 = ap first_byte e in omega arith)
no_cell_number behind text rest long is none (OfBool false) more fits e = absurd (let k : 105 ≡ 102 = ap first_byte e in omega arith)
no_cell_number behind text rest long is none (Int m) more fits e = none m fits (text_unique behind text rest (signed_decimal m) more long is (ap (drop 1) e)).0
no_cell_number behind text rest long is none (Text x) more fits e = absurd (let k : 105 ≡ 115 = ap first_byte e in omega arith)

pub no_column_cell : (bytes name behind : List ℕ) → length bytes < 2 ^ 64 → bytes ≡ text_of name ++ behind → HasNoCell behind → HasNoColumn bytes
no_column_cell bytes name behind long is none column rest fits e =
    let same = text_unique bytes name behind column.name (cell_text column.cell ++ rest) long is (e ∙ append_assoc (text_of column.name) (cell_text column.cell) rest) in
    none column.cell rest fits same.1

-- ---- numbers

pub number_text : (number : ℤ) → FitsSigned w64 number → IsUtf8 (signed_decimal number)
number_text number fits = IsUtf8-from_ascii (signed_decimal number) (IsAscii-signed number (small number fits))
  where
    small : (z : ℤ) → FitsSigned w64 z → mag z < 2 ^ 63
    small (pos k) fits = omega (arith, fits.sfits)
    small (negsuc k) fits = omega (arith, fits.sfits)

pub number_parsed : {E : Type 0} (number : ℤ) (bytes : List ℕ) (r : Result ℤ E) → FitsSigned w64 number → bytes ≡ signed_decimal number → ParsesSigned w64 10 bytes r → r ≡ Ok number
number_parsed number bytes r fits is parses = parse-signed_decimal w64 number bytes r fits (small number fits) is parses
  where
    small : (z : ℤ) → FitsSigned w64 z → mag z < 2 ^ 63
    small (pos k) fits = omega (arith, fits.sfits)
    small (negsuc k) fits = omega (arith, fits.sfits)
