-- Which bodies are forms, by the type that their head tells.
use Rattle.std.specs.Prelude.{ℕ, ◌-◌, Bool, false, ◌||◌, ◌==◌, List, length, take, codes, Option, None, Some}
use Rattle.std.specs.List.{before_first, suffix_len, find}
use Rattle.std.specs.Str.{str_eq_ignore_ascii_case}
use Rattle.reply_text.specs.Headers.{Header, is_named}

-- a space or a tab
abbrev pub is_blank : ℕ → Bool
is_blank b = b == 32 || b == 9

abbrev pub is_semicolon : ℕ → Bool
is_semicolon b = b == 59

-- a text without the spaces and tabs at its end
abbrev pub without_end : List ℕ → List ℕ
without_end t = take (length t - suffix_len is_blank t) t

-- the type without its parameters: what stands before the first `;`
abbrev pub media_type : List ℕ → List ℕ
media_type value = without_end (before_first is_semicolon value)

-- the type of forms, in any case of ASCII letters
abbrev pub is_form_type : List ℕ → Bool
is_form_type value = str_eq_ignore_ascii_case (media_type value) (codes "application/x-www-form-urlencoded")

abbrev pub tells_form : Option Header → Bool
tells_form None = false
tells_form (Some header) = is_form_type header.value

-- the first `Content-Type` is that of forms
abbrev pub is_form : List Header → Bool
is_form headers = tells_form (find (is_named (codes "content-type")) headers)
