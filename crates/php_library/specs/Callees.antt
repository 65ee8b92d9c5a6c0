-- What the library's calls are to the meaning.
use Rattle.php_text_calls.specs.TextCalls.{text_answer}
use Rattle.php_meaning.specs.Library as library
use Rattle.php_meaning.specs.Library.{reads, list_library}
use Rattle.php_meaning.specs.Calls as calls
use Rattle.php_library.specs.declared.call.SystemCall.{SystemCall}
use Rattle.php_library.specs.declared.call.SystemCall.TheVariants as system
use Rattle.php_library.specs.declared.call.LibraryCall.{LibraryCall}
use Rattle.php_library.specs.declared.call.LibraryCall.TheVariants.{Text, List, System}

abbrev pub system_of : SystemCall → library.SystemCall
system_of system.Define = library.define
system_of system.Defined = library.defined
system_of system.FunctionExists = library.function_exists
system_of system.CallUserFunc = library.call_user_func

abbrev pub callee_of : LibraryCall → calls.Callee
callee_of (Text call) = calls.library (reads (text_answer call))
callee_of (List call) = calls.library (list_library call)
callee_of (System call) = calls.system (system_of call)
