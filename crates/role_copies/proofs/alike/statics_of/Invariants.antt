use Rattle.std.proofs.Common.{◌≡◌, map, take}
use Rattle.app_load.specs.Applications.{text_of}
use Rattle.role_copies.specs.Alike.{static_texts}
use Rattle.role_copies.proofs.alike.statics_of.Given as goal

abbrev pub invariant-loop-file : goal.invariant-loop-file
invariant-loop-file l = map text_of l.statics.items ≡ static_texts (take l.file-index l.files)
