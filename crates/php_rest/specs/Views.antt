-- What functions, places and arguments of the code stand for.
use Rattle.std.specs.Prelude.{List, map, Option, None}
use Rattle.std.specs.Str.{str_to_ascii_lowercase}
use Rattle.app_load.specs.Entries.{Entry, file, function}
use Rattle.php_tree.specs.declared.decl.Hint.{Hint}
use Rattle.php_tree.specs.declared.decl.FunDecl.{out-FunDecl}
use Rattle.php_values.specs.Data.{data_of}
use Rattle.php_world.specs.Naming.{Naming}
use Rattle.php_text_calls.specs.TextCalls.{text_answer}
use Rattle.php_meaning.specs.World.{Context, Position, Declared}
use Rattle.php_meaning.specs.Statements.{declared_as}
use Rattle.php_meaning.specs.Library as library
use Rattle.php_meaning.specs.Library.{list_library}
use Rattle.php_meaning.specs.Calls as calls
use Rattle.php_rest.specs.Named.{head_named}
use Rattle.php_tables.specs.declared.function.Function.{Function}
use Rattle.php_rest.specs.declared.owner.Owner.{Owner}
use Rattle.php_rest.specs.declared.owner.Owner.TheVariants as owner
use Rattle.php_rest.specs.declared.owner.Scene.{Scene}
use Rattle.php_rest.specs.declared.call_frame.Argument.{Argument}
use Rattle.php_rest.specs.declared.call_frame.Argument.TheVariants.{Passed, Shares, Named}
use Rattle.php_rest.specs.declared.call_frame.SystemCall.{SystemCall}
use Rattle.php_rest.specs.declared.call_frame.SystemCall.TheVariants as system
use Rattle.php_rest.specs.declared.call_frame.Callee.{Callee}
use Rattle.php_rest.specs.declared.call_frame.Callee.TheVariants as callee

-- ---- functions and files

-- the function with what it says before its body
abbrev pub function_named : Naming → Function → Declared
function_named t f = declared_as f.path.now (head_named t f.declaration.now)

-- the entry of a function's body
abbrev pub function_entry : Function → Entry
function_entry f = function f.path.now (str_to_ascii_lowercase (out-FunDecl f.declaration.now).name.text)

abbrev pub entry_of : Owner → Entry
entry_of (owner.File path) = file path.now
entry_of (owner.Function f) = function_entry f

-- what a `return` has to give
abbrev pub gives_of : Owner → Option Hint
gives_of (owner.File path) = None
gives_of (owner.Function f) = (out-FunDecl f.declaration.now).«result»

abbrev pub context_of : Scene → Context
context_of s = record { owner = entry_of s.owner; gives = gives_of s.owner; depth = s.depth }

abbrev pub position_of : Scene → Position
position_of s = record { file = s.file.now; line = s.line }

-- ---- calls

abbrev pub system_of : SystemCall → library.SystemCall
system_of system.Define = library.define
system_of system.Defined = library.defined
system_of system.FunctionExists = library.function_exists
system_of system.CallUserFunc = library.call_user_func

abbrev pub callee_named : Naming → Callee → calls.Callee
callee_named t (callee.Program f) = calls.program (function_named t f)
callee_named t (callee.Text call) = calls.library (library.reads (text_answer call))
callee_named t (callee.List call) = calls.library (list_library call)
callee_named t (callee.System call) = calls.system (system_of call)

abbrev pub argument_named : Naming → Argument → calls.Argument
argument_named t (Passed value) = calls.passed (data_of value)
argument_named t (Shares cell) = calls.shares cell
argument_named t (Named number) = calls.named (t.name number)

abbrev pub arguments_named : Naming → List Argument → List calls.Argument
arguments_named t = map (argument_named t)
