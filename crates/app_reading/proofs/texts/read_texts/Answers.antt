use Rattle.std.proofs.Common.{rules, ◌≡◌, ◌∙◌, ap, sym, map, string_bytes, Err}
use Rattle.app_reading.specs.Reading.{path_limit}
use Rattle.app_reading.proofs.Told.{seen_before, told_so, told_both}
use Rattle.app_reading.proofs.InFolder.{paths_pass, total_passes, static_passes, texts_read}
use Rattle.app_reading.proofs.texts.read_texts.Goals as goal

pub returns-in-Some-clause-limit : goal.returns-in-Some-clause-limit
returns-in-Some-clause-limit g c =
    let told = sym (c.path_limit.ensures ∙ ap (λ l. path_limit (map string_bytes l)) c.deref.ensures.value) ∙ c.in-Some.is in
    told_so (g.F.Folder.told c.args.folder.now) _ _ (paths_pass c.args.below.now (map string_bytes c.in_ok-paths.paths.items) c.in-Some.limit told) c.in_ok-paths.ensures.paths

pub returns-in_err-reading-clause-limit : goal.returns-in_err-reading-clause-limit
returns-in_err-reading-clause-limit g c =
    let e : c.from_residual-in_err-reading.result ≡ Err c.in_err-reading.field-0.0 = search rules in
    let few = sym (c.path_limit.ensures ∙ ap (λ l. path_limit (map string_bytes l)) c.deref.ensures.value) ∙ c.in_default.is in
    rw e (told_both (g.F.Folder.told c.args.folder.now) _ _ _ (total_passes c.args.below.now (map string_bytes c.in_ok-paths.paths.items) c.in_err-reading.field-0.0 few) c.in_ok-paths.ensures.paths
    (seen_before (g.F.Folder.told c.args.folder.now) (g.F.Folder.told c.part_paths.new.folder) _ c.in_ok-paths.ensures.kept (rw c.deref-2.ensures.value at c.in_err-reading.ensures.limit)))

pub returns-then-reading-clause-limit : goal.returns-then-reading-clause-limit
returns-then-reading-clause-limit g c =
    let few = sym (c.path_limit.ensures ∙ ap (λ l. path_limit (map string_bytes l)) c.deref.ensures.value) ∙ c.in_default.is in
    told_both (g.F.Folder.told c.args.folder.now) _ _ _ (static_passes c.args.below.now (map string_bytes c.in_ok-paths.paths.items) c.in_ok-reading.reading few c.if-reading.true) c.in_ok-paths.ensures.paths
    (seen_before (g.F.Folder.told c.args.folder.now) (g.F.Folder.told c.part_paths.new.folder) _ c.in_ok-paths.ensures.kept (rw c.deref-2.ensures.value at c.in_ok-reading.ensures.read))

pub returns-clause-texts : goal.returns-clause-texts
returns-clause-texts g c =
    told_both (g.F.Folder.told c.args.folder.now) _ _ _ (texts_read c.args.below.now (map string_bytes c.in_ok-paths.paths.items) c.in_ok-reading.reading c.if-reading.false) c.in_ok-paths.ensures.paths
    (seen_before (g.F.Folder.told c.args.folder.now) (g.F.Folder.told c.part_paths.new.folder) _ c.in_ok-paths.ensures.kept (rw c.deref-2.ensures.value at c.in_ok-reading.ensures.read))
