-- Texts that are parsed.
use Rattle.std.proofs.Common.{◌≡◌, ℕ, Bool, true, false, List, Option, Some, None, if◌then◌else◌, refl, ap, ◌∙◌}
use Rattle.std.proofs.lemmas.Str.{IsUtf8-from_is_utf8, is_utf8-from_IsUtf8}
use Rattle.std.specs.Str.{IsUtf8, is_utf8}
use Rattle.std.specs.declared.result.Result.TheVariants.{Ok, Err}
use Rattle.toml.specs.Data.{Members}
use Rattle.toml.specs.Parse.{parse_document}
use Rattle.role_routing.specs.Files.{parsed, parsed_or, bad_toml}

pub parsed-ok : (text : List ℕ) (ms : Members) → IsUtf8 text → parse_document text ≡ Some ms → parsed text ≡ Ok ms
unfolding parsed
parsed-ok text ms u e = ap (λ b. if b then parsed_or (parse_document text) else Err bad_toml) (is_utf8-from_IsUtf8 text u) ∙ ap parsed_or e

refused_step : (b : Bool) (value : Option Members) → (b ≡ true → value ≡ None) → (if b then parsed_or value else Err bad_toml) ≡ Err bad_toml
refused_step true value h = ap parsed_or (h refl)
refused_step false value h = refl

pub parsed-refused : (text : List ℕ) → (IsUtf8 text → parse_document text ≡ None) → parsed text ≡ Err bad_toml
unfolding parsed
parsed-refused text h = refused_step (is_utf8 text) (parse_document text) (λ e. h (IsUtf8-from_is_utf8 text e))
