-- Texts that grow within their limit.
use Rattle.std.specs.Prelude.{◌≡◌, ◌≢◌, List, ◌++◌, ℕ, ◌+◌, length, nat_le, if◌then◌else◌}
use Rattle.php_values.specs.Arithmetic.{max_text}
use Rattle.php_arguments.specs.declared.fault.CallFault.{CallFault}
use Rattle.php_arguments.specs.declared.fault.CallFault.TheVariants.{Size, Memory}
use Rattle.php_arguments.specs.Answers.{CallAnswer, Result, Ok, Err}

-- a text with more behind it, where it is not too long
abbrev pub grown : List ℕ → List ℕ → CallAnswer (List ℕ)
grown out more = if nat_le (length out + length more) max_text then Ok (out ++ more) else Err Size

-- a text that was changed as its definition says, or a fault
abbrev pub GivesGrown : {A : Type 0} → CallAnswer (List ℕ) → List ℕ → Result A CallFault → Type 0
GivesGrown expected new (Ok u) = expected ≡ Ok new
GivesGrown expected new (Err f) = f ≢ Memory → expected ≡ Err f
