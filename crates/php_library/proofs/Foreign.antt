-- A text that is no UTF-8 names no call.
use Rattle.std.proofs.Common.{◌≡◌, ℕ, List, None, codes, refl}
use Rattle.php_text_calls.specs.TextCalls as texts
use Rattle.php_list_calls.specs.ListCalls as lists
use Rattle.php_meaning.specs.Library.{system_call}
use Rattle.php_meaning.specs.Calls.{library_callee, library_or, system_or_none}
use Rattle.php_meaning.specs.Library.{text_call_or, list_call_or}
use Rattle.php_library.proofs.Ascii.{Differs}

texts_case_named : (t : List ℕ) → Differs t → texts.case_named t ≡ None
texts_case_named t differs = simp (differs (codes "strlen") refl, differs (codes "strtolower") refl, differs (codes "strtoupper") refl, differs (codes "ucfirst") refl, differs (codes "strrev") refl)

texts_trim_named : (t : List ℕ) → Differs t → texts.trim_named t ≡ None
texts_trim_named t differs = simp (differs (codes "trim") refl, differs (codes "ltrim") refl, differs (codes "rtrim") refl, differs (codes "ord") refl, differs (codes "chr") refl, differs (codes "strcmp") refl)

texts_part_named : (t : List ℕ) → Differs t → texts.part_named t ≡ None
texts_part_named t differs = simp (differs (codes "substr") refl, differs (codes "strpos") refl, differs (codes "dirname") refl, differs (codes "basename") refl, differs (codes "intdiv") refl)

texts_piece_named : (t : List ℕ) → Differs t → texts.piece_named t ≡ None
texts_piece_named t differs = simp (differs (codes "str_replace") refl, differs (codes "str_repeat") refl, differs (codes "str_pad") refl, differs (codes "explode") refl, differs (codes "implode") refl, differs (codes "join") refl)

texts_escape_named : (t : List ℕ) → Differs t → texts.escape_named t ≡ None
texts_escape_named t differs = simp (differs (codes "htmlspecialchars") refl, differs (codes "urlencode") refl, differs (codes "rawurlencode") refl, differs (codes "sprintf") refl, differs (codes "intval") refl, differs (codes "strval") refl)

texts_kind_named : (t : List ℕ) → Differs t → texts.kind_named t ≡ None
texts_kind_named t differs = simp (differs (codes "is_int") refl, differs (codes "is_string") refl, differs (codes "is_bool") refl, differs (codes "is_array") refl, differs (codes "is_null") refl)

texts_test_named : (t : List ℕ) → Differs t → texts.test_named t ≡ None
texts_test_named t differs = simp (differs (codes "is_object") refl, differs (codes "is_numeric") refl, differs (codes "ctype_digit") refl)

lists_look_named : (t : List ℕ) → Differs t → lists.look_named t ≡ None
lists_look_named t differs = simp (differs (codes "count") refl, differs (codes "in_array") refl, differs (codes "array_search") refl, differs (codes "array_key_exists") refl)

lists_part_named : (t : List ℕ) → Differs t → lists.part_named t ≡ None
lists_part_named t differs = simp (differs (codes "array_keys") refl, differs (codes "array_values") refl, differs (codes "array_merge") refl, differs (codes "array_slice") refl, differs (codes "array_reverse") refl)

lists_number_named : (t : List ℕ) → Differs t → lists.number_named t ≡ None
lists_number_named t differs = simp (differs (codes "array_sum") refl, differs (codes "range") refl, differs (codes "max") refl, differs (codes "min") refl, differs (codes "array_flip") refl, differs (codes "array_unique") refl)

lists_end_named : (t : List ℕ) → Differs t → lists.end_named t ≡ None
lists_end_named t differs = simp (differs (codes "array_push") refl, differs (codes "array_pop") refl, differs (codes "array_shift") refl, differs (codes "array_unshift") refl)

lists_order_named : (t : List ℕ) → Differs t → lists.order_named t ≡ None
lists_order_named t differs = simp (differs (codes "sort") refl, differs (codes "rsort") refl, differs (codes "asort") refl, differs (codes "arsort") refl, differs (codes "ksort") refl, differs (codes "krsort") refl)

no_system_call : (t : List ℕ) → Differs t → system_call t ≡ None
no_system_call t differs = simp (differs (codes "define") refl, differs (codes "defined") refl, differs (codes "function_exists") refl, differs (codes "call_user_func") refl)

no_texts_call : (t : List ℕ) → Differs t → texts.call_named t ≡ None
no_texts_call t differs = λ i. texts.or_else (texts_case_named t differs i) (texts.or_else (texts_trim_named t differs i) (texts.or_else (texts_part_named t differs i) (texts.or_else (texts_piece_named t differs i) (texts.or_else (texts_escape_named t differs i) (texts.or_else (texts_kind_named t differs i) (texts_test_named t differs i))))))

no_lists_call : (t : List ℕ) → Differs t → lists.call_named t ≡ None
no_lists_call t differs = λ i. lists.or_else (lists_look_named t differs i) (lists.or_else (lists_part_named t differs i) (lists.or_else (lists_number_named t differs i) (lists.or_else (lists_end_named t differs i) (lists_order_named t differs i))))

pub no_call : (t : List ℕ) → Differs t → library_callee t ≡ None
no_call t differs = λ i. library_or (text_call_or (list_call_or None (no_lists_call t differs i)) (no_texts_call t differs i)) (system_or_none (no_system_call t differs i))
