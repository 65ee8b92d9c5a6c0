use Rattle.std.proofs.Common.{◌≡◌, ◌∷◌, [], ◌++◌, map, filter, nat_eq, string_bytes, lit<, sym, ap, ◌∙◌}
use Rattle.std.specs.List.{starts_with}
use Rattle.std.specs.BTreeMap.{keys}
use Rattle.std.specs.FinMap as fin
use Rattle.less_outside.specs.Files.{is_below}
use Rattle.less_outside.proofs.FilesOf.{keys-files_of}
use Rattle.less_outside.proofs.folder_memory.FolderMemFolder.list.Goals as goal

pub returns-clause-paths : goal.returns-clause-paths
returns-clause-paths c =
    let front : c.as_bytes.result.now ≡ c.args.below.now ++ 47 ∷ [] = c.as_bytes.ensures.value ∙ c.in_ok-push.ensures.bytes
    ∙ ap (λ slash. string_bytes c.in_ok-front.front ++ slash) (c.in_ok-push.ensures.ascii (lit< tt))
    ∙ ap (λ bytes. bytes ++ 47 ∷ []) c.in_ok-front.ensures.ok in
    let all = sym (keys-files_of c.self.inside.files.entries c.in_ok-paths.ensures.ordered) ∙ ap (λ s. fin.keys s.files) (c.self.view_is ∙ c.begin.ensures.after) in
    c.in_ok-paths.ensures.paths
    ∙ ap (λ front. filter (λ path. starts_with nat_eq path front) (map string_bytes (keys c.self.inside.files))) front
    ∙ ap (filter (is_below c.args.below.now)) all
