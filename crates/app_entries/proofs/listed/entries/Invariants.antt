use Rattle.std.proofs.Common.{map, take}
use Rattle.app_load.specs.Entries.{entry_of}
use Rattle.app_entries.proofs.Listing.{HasFiles}
use Rattle.app_entries.proofs.listed.entries.Given as goal

abbrev pub invariant-loop-file : goal.invariant-loop-file
invariant-loop-file l = HasFiles (map entry_of l.entries.items) (take l.file-index l.files)
