use Rattle.std.proofs.Common.{rules, tests}
use Rattle.std.proofs.lemmas.Iterator.Search.{all_from_yields_List}
use Rattle.std.proofs.lemmas.Iterator.Splits.{YieldsList-from_slice_split}
use Rattle.less_terms.specs.Paths.{is_slash}
use Rattle.app_reading.specs.Parts.{is_visible}
use Rattle.app_reading.proofs.paths.is_part.Goals as goal

pub returns : goal.returns
returns c =
    all_from_yields_List is_visible _ _ _ c.all.ensures.ran
    (YieldsList-from_slice_split _ is_slash c.args.path.now c.split.ensures.rest c.split.ensures.done c.split.ensures.closure (λ x b q k. search (rules, tests)))
    (λ x b q k. search (rules, tests))
