-- The calls of the library, by their names in lower case. The definitions of texts and lists stand in crates of their own.
use Rattle.std.specs.Prelude.{ℕ, List, [], ◌∷◌, Bool, true, false, codes, if◌then◌else◌}
use Rattle.std.specs.declared.option.Option.{Option}
use Rattle.std.specs.declared.option.Option.TheVariants.{Some, None}
use Rattle.std.specs.Str.{bytes_eq}
use Rattle.php_values.specs.Data.{Data}
use Rattle.std.specs.declared.result.Result.TheVariants.{Ok, Err}
use Rattle.php_arguments.specs.Answers.{CallAnswer}
use Rattle.php_text_calls.specs.declared.call.TextCall.{TextCall}
use Rattle.php_text_calls.specs.TextCalls.{text_answer, call_named}
use Rattle.php_list_calls.specs.declared.call.ListCall.{ListCall}
use Rattle.php_list_calls.specs.ListCalls as lists
-- what a call over a list gives: a value, and its arguments after it
pub use Rattle.php_list_calls.specs.ListCalls.{ListAnswer}

-- a call that only reads its arguments, or one that may change its first argument, where it is a variable
pub data LibraryCall : Type 0 where
  reads : (List Data → CallAnswer Data) → LibraryCall
  changes : (List Data → CallAnswer ListAnswer) → LibraryCall

-- calls that know the run
pub data SystemCall : Type 0 where
  define : SystemCall
  defined : SystemCall
  function_exists : SystemCall
  call_user_func : SystemCall

-- the calls over texts
abbrev pub text_call_or : Option LibraryCall → Option TextCall → Option LibraryCall
text_call_or other None = other
text_call_or other (Some call) = Some (reads (text_answer call))

-- what a call over a list gives, without its arguments
abbrev pub value_alone : CallAnswer ListAnswer → CallAnswer Data
value_alone (Ok a) = Ok a.value
value_alone (Err f) = Err f

-- the calls over lists: some change their first argument, the others only read theirs
abbrev pub list_library : ListCall → LibraryCall
list_library call = if lists.changes_first call then changes (lists.list_answer call) else reads (λ args. value_alone (lists.list_answer call args))

abbrev pub list_call_or : Option LibraryCall → Option ListCall → Option LibraryCall
list_call_or other None = other
list_call_or other (Some call) = Some (list_library call)

-- the calls over texts and lists
abbrev pub library_call : List ℕ → Option LibraryCall
library_call name = text_call_or (list_call_or None (lists.call_named name)) (call_named name)

abbrev pub system_call : List ℕ → Option SystemCall
system_call name =
    if bytes_eq name (codes "define") then Some define
    else if bytes_eq name (codes "defined") then Some defined
    else if bytes_eq name (codes "function_exists") then Some function_exists
    else if bytes_eq name (codes "call_user_func") then Some call_user_func
    else None
