use Rattle.std.proofs.Common.{map, take}
use Rattle.app_load.specs.Entries.{entry_of}
use Rattle.app_entries.proofs.Listing.{HasFunctions}
use Rattle.app_entries.proofs.listed.push_functions.Given as goal

abbrev pub invariant-loop-function : goal.invariant-loop-function
invariant-loop-function l = HasFunctions l.path (map entry_of l.fn.entries.items) (map entry_of l.entries.items) (take l.function-index l.functions)
