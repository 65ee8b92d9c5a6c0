-- The texts of a line's fields have neither tabs nor bytes beyond ASCII.
use Rattle.std.proofs.Common.{◌≡◌, ℕ, ◌^◌, ◌<◌, ◌==◌, Bool, true, false, not, ◌&&◌, List, [], ◌∷◌, ◌++◌, get_or, take, drop, nat_le, arith, refl, ap, sym, ◌∙◌, zero, suc}
use Rattle.std.proofs.lemmas.Grind.{common_steps}
use Rattle.std.specs.List.{list_all}
use Rattle.std.specs.Fmt.{decimal}
use Rattle.std.specs.Str.{IsUtf8}
use Rattle.std.proofs.lemmas.Str.{IsUtf8-from_ascii}
use Rattle.std.proofs.lemmas.List.{take-append-drop}
use Rattle.less_terms.proofs.Written.{digits, is_decimal-decimal}
use Rattle.less_terms.specs.Decimals.{is_digit}
use Rattle.less_terms.specs.Forms.{is_name_byte, is_role}
use Rattle.less_terms.specs.Paths.{is_path_byte, is_path, is_word, is_method, is_method_name, is_function_name, colon_place}

abbrev pub is_clean_byte : ℕ → Bool
is_clean_byte byte = not (byte == 9) && nat_le byte 127

abbrev pub is_clean : List ℕ → Bool
is_clean text = list_all is_clean_byte text

clean_by : (p : ℕ → Bool) → ((b : ℕ) → p b ≡ true → is_clean_byte b ≡ true) → (text : List ℕ) → list_all p text ≡ true → is_clean text ≡ true
clean_by p h [] e = refl
clean_by p h (b ∷ bs) e =
    let one = h b (grind (arith, common_steps)) in
    let more = clean_by p h bs (grind (arith, common_steps)) in
    grind (arith, common_steps)

clean_name : (text : List ℕ) → list_all is_name_byte text ≡ true → is_clean text ≡ true
clean_name = clean_by is_name_byte (λ b e. grind (arith, common_steps))

clean_digits : (text : List ℕ) → list_all is_digit text ≡ true → is_clean text ≡ true
clean_digits = clean_by is_digit (λ b e. grind (arith, common_steps))

pub clean_role : (text : List ℕ) → is_role text ≡ true → is_clean text ≡ true
clean_role [] e = refl
clean_role (b ∷ bs) e =
    let more = clean_name bs (grind (arith, common_steps)) in
    grind (arith, common_steps)

pub clean_path : (text : List ℕ) → is_path text ≡ true → is_clean text ≡ true
clean_path text e = clean_by is_path_byte (λ b f. grind (arith, common_steps)) text (grind (arith, common_steps))

clean_word : (text : List ℕ) → is_word text ≡ true → is_clean text ≡ true
clean_word [] e = refl
clean_word (b ∷ bs) e =
    let more = clean_name bs (grind (arith, common_steps)) in
    grind (arith, common_steps)

clean_method : (text : List ℕ) → is_method text ≡ true → is_clean text ≡ true
clean_method [] e = refl
clean_method (a ∷ []) e = grind (arith, common_steps)
clean_method (a ∷ b ∷ bs) e =
    let more = clean_word bs (grind (arith, common_steps)) in
    grind (arith, common_steps)

clean_both : (front back : List ℕ) → is_clean front ≡ true → is_clean back ≡ true → is_clean (front ++ back) ≡ true
clean_both [] back e f = f
clean_both (b ∷ bs) back e f =
    let more = clean_both bs back (grind (arith, common_steps)) f in
    grind (arith, common_steps)

clean_method_name : (text : List ℕ) → is_method_name text ≡ true → is_clean text ≡ true
clean_method_name text e =
    let front = clean_word (take (colon_place text) text) (grind (arith, common_steps)) in
    let back = clean_method (drop (colon_place text) text) (grind (arith, common_steps)) in
    let both : is_clean (take (colon_place text) text ++ drop (colon_place text) text) ≡ true = clean_both (take (colon_place text) text) (drop (colon_place text) text) front back in
    ap is_clean (sym (take-append-drop (colon_place text) text)) ∙ both

clean_by_word : (text : List ℕ) (b : Bool) → is_word text ≡ b → is_function_name text ≡ true → is_clean text ≡ true
clean_by_word text true f e = clean_word text f
clean_by_word text false f e = clean_method_name text (grind (arith, common_steps))

pub clean_function_name : (text : List ℕ) → is_function_name text ≡ true → is_clean text ≡ true
clean_function_name text e = clean_by_word text (is_word text) refl e

pub clean_number : (n : ℕ) → n < 2 ^ 64 → is_clean (decimal n) ≡ true
clean_number n fits = clean_digits (decimal n) (digits (decimal n) (is_decimal-decimal n fits))

-- texts of clean bytes are UTF-8
clean_at : (text : List ℕ) → is_clean text ≡ true → (i : ℕ) → get_or text i 0 < 128
clean_at [] e i = omega arith
clean_at (b ∷ bs) e zero = grind (arith, common_steps)
clean_at (b ∷ bs) e (suc i) = clean_at bs (grind (arith, common_steps)) i

pub clean_is_utf8 : (text : List ℕ) → is_clean text ≡ true → IsUtf8 text
clean_is_utf8 text e = IsUtf8-from_ascii text (clean_at text e)

pub path_is_utf8 : (text : List ℕ) → is_path text ≡ true → IsUtf8 text
path_is_utf8 text e = clean_is_utf8 text (clean_path text e)

pub name_is_utf8 : (text : List ℕ) → is_function_name text ≡ true → IsUtf8 text
name_is_utf8 text e = clean_is_utf8 text (clean_function_name text e)

pub role_is_utf8 : (text : List ℕ) → is_role text ≡ true → IsUtf8 text
role_is_utf8 text e = clean_is_utf8 text (clean_role text e)
