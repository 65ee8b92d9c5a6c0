use Rattle.std.proofs.Common.{◌∙◌, arith}
use Rattle.std.specs.HashSet.{contains_text}
use Rattle.app_load.specs.Entries.{entry_of}
use Rattle.keep_lists.specs.Known.{names_entry}
use Rattle.keep_lists.proofs.Adding.{any_step}
use Rattle.keep_lists.proofs.known.add_entries.Goals as goal

pub loop-entry-preserved : goal.loop-entry-preserved
loop-entry-preserved c =
    λ t. any_step entry_of (names_entry t) c.args.entries.now c.loop-entry.entry-index c.entry-item.result (contains_text c.loop-entry.texts t) (contains_text c.add_entry.new.texts t) (omega arith) c.entry-item.is (c.in_ok-add_entry.ensures t)
    ∙ c.loop-entry.invariant t
