use Rattle.std.proofs.Common.{◌∙◌, ◌||◌, ap, arith, string_bytes}
use Rattle.std.specs.Str.{bytes_eq}
use Rattle.std.specs.HashSet.{contains_text}
use Rattle.keep_lists.specs.Known.{names_file}
use Rattle.keep_lists.proofs.Adding.{any_step}
use Rattle.keep_lists.proofs.known.add_files.Goals as goal

pub loop-path-preserved : goal.loop-path-preserved
loop-path-preserved c =
    λ t. any_step string_bytes (names_file t) c.args.paths.now c.loop-path.path-index c.path-item.result (contains_text c.loop-path.texts t) (contains_text c.add.new.texts t) (omega arith) c.path-item.is
    (c.in_ok-add.ensures t ∙ ap (λ p. bytes_eq p t || contains_text c.loop-path.texts t) c.in_ok-clone.ensures.cases)
    ∙ c.loop-path.invariant t
