-- A line of well-formed fields has just these fields; and what stands in a line that no removal has.
use Rattle.std.proofs.Common.{◌≡◌, ℕ, ◌-◌, ◌^◌, ◌<◌, ◌≤◌, Bool, true, false, List, [], ◌∷◌, ◌++◌, length, take, drop, slice_index_or, codes, Some, arith, refl, ap, sym, ◌∙◌, suc}
use Rattle.std.proofs.lemmas.Grind.{common_steps}
use Rattle.std.specs.List.{join_with_byte, position_or_len}
use Rattle.std.specs.List.{onto_first}
use Rattle.std.specs.Fmt.{decimal}
use Rattle.std.proofs.Math.Seq.{take-length}
use Rattle.std.proofs.lemmas.List.{append_cancel_right, append_assoc}
use Rattle.std.proofs.lemmas.List.Splits.{slice_split-cons_yes, slice_split-cons_no, join_with_byte-slice_split}
use Rattle.less_terms.specs.Decimals.{decimal_value}
use Rattle.less_terms.proofs.Written.{read_written}
use Rattle.app_load.specs.Entries.{Entry, file, function}
use Rattle.removal_reports.specs.LogLines.{Removal, kind_text, path_text, name_text, fields_of, IsWellFormed, IsLineOf, IsNoLine, is_tab, fields_in, AreFieldsOf, AreNoFields}
use Rattle.removal_reports.proofs.Clean.{is_clean, clean_role, clean_path, clean_function_name, clean_number}

-- ---- cutting at tabs

cut_at : (text rest : List ℕ) → is_clean text ≡ true → fields_in (text ++ 9 ∷ rest) ≡ text ∷ fields_in rest
cut_at [] rest e = slice_split-cons_yes is_tab 9 rest refl
cut_at (b ∷ bs) rest e =
    let more = cut_at bs rest (grind (arith, common_steps)) in
    slice_split-cons_no is_tab b (bs ++ 9 ∷ rest) (grind (arith, common_steps)) ∙ ap (onto_first b) more

cut_last : (text : List ℕ) → is_clean text ≡ true → fields_in text ≡ text ∷ []
cut_last [] e = refl
cut_last (b ∷ bs) e =
    let more = cut_last bs (grind (arith, common_steps)) in
    slice_split-cons_no is_tab b bs (grind (arith, common_steps)) ∙ ap (onto_first b) more

-- a text up to its first tab, and behind it
place_at : (b : ℕ) (bs : List ℕ) → is_tab b ≡ true → position_or_len is_tab (b ∷ bs) ≡ 0
place_at b bs t = grind (arith, common_steps)

place_behind : (b : ℕ) (bs : List ℕ) → is_tab b ≡ false → position_or_len is_tab (b ∷ bs) ≡ suc (position_or_len is_tab bs)
place_behind b bs t = grind (arith, common_steps)

uncut_by : (b : ℕ) (bs : List ℕ) (tab : Bool) → is_tab b ≡ tab → drop (position_or_len is_tab (b ∷ bs)) (b ∷ bs) ≡ [] → (drop (position_or_len is_tab bs) bs ≡ [] → fields_in bs ≡ bs ∷ []) → fields_in (b ∷ bs) ≡ (b ∷ bs) ∷ []
uncut_by b bs true t e more = absurd (omega (arith, ap length (sym (ap (λ n. drop n (b ∷ bs)) (place_at b bs t)) ∙ e)))
uncut_by b bs false t e more = slice_split-cons_no is_tab b bs t ∙ ap (onto_first b) (more (sym (ap (λ n. drop n (b ∷ bs)) (place_behind b bs t)) ∙ e))

pub uncut : (text rest : List ℕ) → rest ≡ drop (position_or_len is_tab text) text → rest ≡ [] → fields_in text ≡ text ∷ []
uncut [] rest e none = refl
uncut (b ∷ bs) rest e none = uncut_by b bs (is_tab b) refl (sym e ∙ none) (λ f. uncut bs [] (sym f) refl)

pub uncut_short : (text rest : List ℕ) → rest ≡ drop (position_or_len is_tab text) text → length rest < 1 → fields_in text ≡ text ∷ []
uncut_short text [] e l = uncut text [] e refl
uncut_short text (b ∷ bs) e l = absurd (omega arith)

behind_is : (b c : ℕ) (behind cs : List ℕ) → b ∷ behind ≡ c ∷ cs → behind ≡ cs
behind_is b c behind cs e = ap (drop 1) e

cut_by : (c : ℕ) (cs behind : List ℕ) (b : ℕ) (tab : Bool) → is_tab c ≡ tab → b ∷ behind ≡ drop (position_or_len is_tab (c ∷ cs)) (c ∷ cs)
    → (b ∷ behind ≡ drop (position_or_len is_tab cs) cs → fields_in cs ≡ take (position_or_len is_tab cs) cs ∷ fields_in behind)
    → fields_in (c ∷ cs) ≡ take (position_or_len is_tab (c ∷ cs)) (c ∷ cs) ∷ fields_in behind
cut_by c cs behind b true t e more =
    let place = place_at c cs t in
    let same : behind ≡ cs = behind_is b c behind cs (e ∙ ap (λ n. drop n (c ∷ cs)) place) in
    slice_split-cons_yes is_tab c cs t ∙ ap (λ x. x ∷ fields_in cs) (sym (ap (λ n. take n (c ∷ cs)) place)) ∙ ap (λ x. take (position_or_len is_tab (c ∷ cs)) (c ∷ cs) ∷ fields_in x) (sym same)
cut_by c cs behind b false t e more =
    let place = place_behind c cs t in
    let rest = more (e ∙ ap (λ n. drop n (c ∷ cs)) place) in
    slice_split-cons_no is_tab c cs t ∙ ap (onto_first c) rest ∙ ap (λ x. x ∷ fields_in behind) (sym (ap (λ n. take n (c ∷ cs)) place))

pub cut_first : (text behind : List ℕ) (b : ℕ) → b ∷ behind ≡ drop (position_or_len is_tab text) text → fields_in text ≡ take (position_or_len is_tab text) text ∷ fields_in behind
cut_first [] behind b e = absurd (grind (arith, common_steps))
cut_first (c ∷ cs) behind b e = cut_by c cs behind b (is_tab c) refl e (λ f. cut_first cs behind b f)

whole : (xs : List ℕ) (n : ℕ) → n ≡ length xs → take n xs ≡ xs
whole xs n e = ap (λ m. take m xs) e ∙ take-length xs

pub cut_some : (text rest : List ℕ) → rest ≡ drop (position_or_len is_tab text) text → 1 ≤ length rest → fields_in text ≡ take (position_or_len is_tab text) text ∷ fields_in (take (length rest - 1) (drop 1 rest))
cut_some text [] e l = absurd (omega arith)
cut_some text (b ∷ behind) e l = cut_first text behind b e ∙ ap (λ x. take (position_or_len is_tab text) text ∷ fields_in x) (sym (whole behind (length (b ∷ behind) - 1) (omega arith)))

-- ---- fields of a removal

clean_kind : (e : Entry) → is_clean (kind_text e) ≡ true
clean_kind (file path) = refl
clean_kind (function path name) = refl

clean_name : (r : Removal) (e : Entry) → r.entry ≡ e → IsWellFormed r → is_clean (name_text e) ≡ true
clean_name r (file path) same f = refl
clean_name r (function path name) same f = clean_function_name name (grind (arith, common_steps, f.name))

seven : (a b c d e f g : List ℕ) → is_clean a ≡ true → is_clean b ≡ true → is_clean c ≡ true → is_clean d ≡ true → is_clean e ≡ true → is_clean f ≡ true → is_clean g ≡ true
    → fields_in (join_with_byte 9 (a ∷ b ∷ c ∷ d ∷ e ∷ f ∷ g ∷ [])) ≡ a ∷ b ∷ c ∷ d ∷ e ∷ f ∷ g ∷ []
seven a b c d e f g ca cb cc cd ce cf cg =
    cut_at a _ ca ∙ ap (λ t. a ∷ t) (cut_at b _ cb ∙ ap (λ t. b ∷ t) (cut_at c _ cc ∙ ap (λ t. c ∷ t) (cut_at d _ cd ∙ ap (λ t. d ∷ t) (cut_at e _ ce ∙ ap (λ t. e ∷ t) (cut_at f _ cf ∙ ap (λ t. f ∷ t) (cut_last g cg))))))

split_fields : (r : Removal) → IsWellFormed r → fields_in (join_with_byte 9 (fields_of r)) ≡ fields_of r
split_fields r f = seven _ _ _ _ _ _ _ refl (clean_number r.moment f.moment) (clean_role r.role f.role) (clean_number r.slot (omega (arith, f.slot))) (clean_kind r.entry) (clean_path (path_text r.entry) f.path) (clean_name r r.entry refl f)

-- ---- lines

fields_given : (r : Removal) (line text : List ℕ) → line ≡ text ++ 10 ∷ [] → IsLineOf r line → fields_in text ≡ fields_of r
fields_given r line text e is =
    let same : text ≡ join_with_byte 9 (fields_of r) = append_cancel_right text (join_with_byte 9 (fields_of r)) (10 ∷ []) (sym e ∙ is.text) in
    ap fields_in same ∙ split_fields r is.forms

-- the fields of a removal's line are its fields
pub line_has_fields : (r : Removal) (line text : List ℕ) → line ≡ text ++ 10 ∷ [] → IsLineOf r line → AreFieldsOf r (fields_in text)
line_has_fields r line text e is = record { forms = is.forms; texts = fields_given r line text e is }

-- and a text of its fields is its line
pub fields_make_line : (r : Removal) (line text : List ℕ) → line ≡ text ++ 10 ∷ [] → AreFieldsOf r (fields_in text) → IsLineOf r line
fields_make_line r line text e are = record { forms = are.forms; text = e ∙ ap (λ t. t ++ 10 ∷ []) (sym (join_with_byte-slice_split 9 text) ∙ ap (join_with_byte 9) are.texts) }

pub no_end : (line : List ℕ) → ((text : List ℕ) → line ≡ text ++ 10 ∷ [] → ⊥) → IsNoLine line
no_end line none r is = none (join_with_byte 9 (fields_of r)) is.text

pub not_seven : (line text : List ℕ) → line ≡ text ++ 10 ∷ [] → (length (fields_in text) ≡ 7 → ⊥) → IsNoLine line
not_seven line text e none r is = none (ap length (fields_given r line text e is))

pub no_fields : (line text : List ℕ) → line ≡ text ++ 10 ∷ [] → AreNoFields (fields_in text) → IsNoLine line
no_fields line text e none r is = none r (line_has_fields r line text e is)

-- ---- one removal a line

decimal_is : (m n : ℕ) → m < 2 ^ 64 → n < 2 ^ 64 → decimal m ≡ decimal n → m ≡ n
decimal_is m n f g e =
    let one = read_written (2 ^ 64 - 1) m f (omega arith) in
    let other = read_written (2 ^ 64 - 1) n g (omega arith) in
    some_is m n (sym one ∙ ap (decimal_value (2 ^ 64 - 1)) e ∙ other)
  where
    some_is : (m n : ℕ) → Some m ≡ Some n → m ≡ n
    some_is m n e = grind (arith, common_steps)

entry_is : (e f : Entry) → kind_text e ≡ kind_text f → path_text e ≡ path_text f → name_text e ≡ name_text f → e ≡ f
entry_is (file p) (file q) k e n = ap file e
entry_is (file p) (function q m) k e n = absurd (grind (arith, common_steps))
entry_is (function p n) (file q) k e m = absurd (grind (arith, common_steps))
entry_is (function p n) (function q m) k e f = ap (λ x. function x n) e ∙ ap (function q) f

removal_is : (r q : Removal) → IsWellFormed r → IsWellFormed q → fields_of r ≡ fields_of q → r ≡ q
removal_is r q f g e =
    let moment : r.moment ≡ q.moment = decimal_is r.moment q.moment f.moment g.moment (ap (λ fs. slice_index_or fs 1 []) e) in
    let role : r.role ≡ q.role = ap (λ fs. slice_index_or fs 2 []) e in
    let slot : r.slot ≡ q.slot = decimal_is r.slot q.slot (omega (arith, f.slot)) (omega (arith, g.slot)) (ap (λ fs. slice_index_or fs 3 []) e) in
    let entry : r.entry ≡ q.entry = entry_is r.entry q.entry (ap (λ fs. slice_index_or fs 4 []) e) (ap (λ fs. slice_index_or fs 5 []) e) (ap (λ fs. slice_index_or fs 6 []) e) in
    λ i. record { moment = moment i; role = role i; slot = slot i; entry = entry i }

pub one_removal : (r q : Removal) (line : List ℕ) → IsLineOf r line → IsLineOf q line → r ≡ q
one_removal r q line is other =
    let same : join_with_byte 9 (fields_of r) ≡ join_with_byte 9 (fields_of q) = append_cancel_right (join_with_byte 9 (fields_of r)) (join_with_byte 9 (fields_of q)) (10 ∷ []) (sym is.text ∙ other.text) in
    removal_is r q is.forms other.forms (sym (split_fields r is.forms) ∙ ap fields_in same ∙ split_fields q other.forms)

-- ---- writing

-- a line as it is put together
joined : (m r s k p n : List ℕ) → codes "removed\t" ++ m ++ (9 ∷ r) ++ (9 ∷ []) ++ s ++ ((9 ∷ k) ++ (9 ∷ p) ++ (9 ∷ n)) ++ (10 ∷ [])
    ≡ join_with_byte 9 (codes "removed" ∷ m ∷ r ∷ s ∷ k ∷ p ∷ n ∷ []) ++ 10 ∷ []
joined m r s k p n = grind (arith, common_steps, append_assoc)

three : (x a b c : List ℕ) → x ++ a ++ b ++ c ≡ x ++ (a ++ b ++ c)
three x a b c = append_assoc (x ++ a) b c ∙ append_assoc x a (b ++ c) ∙ ap (λ t. x ++ t) (sym (append_assoc a b c))

pub assembled : (m r s k p n : List ℕ) → codes "removed\t" ++ m ++ (9 ∷ r) ++ (9 ∷ []) ++ s ++ (9 ∷ k) ++ (9 ∷ p) ++ (9 ∷ n) ++ (10 ∷ [])
    ≡ join_with_byte 9 (codes "removed" ∷ m ∷ r ∷ s ∷ k ∷ p ∷ n ∷ []) ++ 10 ∷ []
assembled m r s k p n = ap (λ t. t ++ (10 ∷ [])) (three (codes "removed\t" ++ m ++ (9 ∷ r) ++ (9 ∷ []) ++ s) (9 ∷ k) (9 ∷ p) (9 ∷ n)) ∙ joined m r s k p n
