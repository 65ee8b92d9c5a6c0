use Rattle.std.proofs.Common.{Some, None, ◌++◌, drop, map, ap, ◌∙◌, if◌then◌else◌}
use Rattle.php_folders.specs.Files.{part_at, slashed}
use Rattle.php_meaning.specs.Folders.{segments}
use Rattle.php_folders.proofs.Parts.{joined_slashed}
use Rattle.php_folders.proofs.Numbers.{at_end}
use Rattle.php_folders.proofs.include.file_at.Goals as goal

pub returns : goal.returns
returns c =
    at_end c.args.files.now (map part_at c.args.folder.items) (map part_at c.as_slice.result.now) (segments c.args.text.now) (map part_at c.resolve.new.folder.items) c.without_slash.result.now
    c.number.result
    (ap (map part_at) c.as_slice.ensures.value ∙ c.in_ok-parts.ensures)
    (c.in_ok-resolve.ensures ∙ ap (λ b. if b then Some (map part_at c.resolve.new.folder.items) else None) c.if-not-branch.false)
    (c.without_slash.ensures ∙ (ap (drop 1) (c.as_slice-3.ensures.value ∙ (c.in_ok-push_slashed.ensures ∙ (ap (λ p. p ++ slashed (map part_at c.as_slice-2.result.now)) c.new-path.ensures.items
    ∙ ap (λ l. slashed (map part_at l)) c.as_slice-2.ensures.value))) ∙ joined_slashed (map part_at c.resolve.new.folder.items)))
    c.number.ensures
