use Rattle.std.proofs.Common.{◌≡◌, ◌∷◌, [], List, map, length, arith, string_bytes, refl, sym, ap, ◌∙◌}
use Rattle.std.specs.FinMap as fin
use Rattle.std.proofs.lemmas.Grind.{fold-append}
use Rattle.std.proofs.lemmas.Iterator.Adapters.{YieldsList-from_vec}
use Rattle.std.proofs.lemmas.Iterator.Consumers.{YieldsList-end}
use Rattle.less_outside.specs.FolderMem.{with_file, last_files}
use Rattle.less_outside.proofs.FilesOf.{files_of-insert}
use Rattle.less_outside.proofs.folder_memory.by_path.Goals as goal

same : {A : Type 0} (xs : List A) → map (λ x. x) xs ≡ xs
same [] = refl
same (x ∷ xs) = ap (λ l. x ∷ l) (same xs)

pub loop-path-preserved : goal.loop-path-preserved
loop-path-preserved c =
    files_of-insert c.loop-path.map c.insert.new.self (string_bytes c.in-Some.path) c.in-Some.bytes c.in_ok-insert.ensures.updates
    ∙ ap (λ files. fin.insert files (string_bytes c.in-Some.path) c.in-Some.bytes.items) c.loop-path.invariant
    ∙ sym (fold-append with_file fin.empty c.loop-path.yielded ((c.in-Some.path, c.in-Some.bytes) ∷ []))

pub loop-path-preserved-in_ok-insert : goal.loop-path-preserved-in_ok-insert
loop-path-preserved-in_ok-insert c =
    files_of-insert c.loop-path.map c.insert.new.self (string_bytes c.in-Some.path) c.in-Some.bytes c.in_ok-insert.ensures.updates
    ∙ ap (λ files. fin.insert files (string_bytes c.in-Some.path) c.in-Some.bytes.items) c.loop-path.invariant
    ∙ sym (fold-append with_file fin.empty c.loop-path.yielded ((c.in-Some.path, c.in-Some.bytes) ∷ []))

pub returns : goal.returns
returns c =
    let gives = c.into_iter-path-iterator.ensures.into_iter_gives in
    let long : c.into_iter-path-iterator.result.rest.len ≡ length c.args.files.items = omega (arith, gives.1, c.args.files.ok) in
    let all = YieldsList-end (YieldsList-from_vec {s = c.into_iter-path-iterator.result} c.args.files.items gives.0 long) c.loop-path.yielded c.loop-path.path-iterator c.loop-path.yielded_by c.next.result c.next.new.self c.in-None.is c.next.ensures.steps in
    c.loop-path.invariant ∙ ap last_files (sym (same c.loop-path.yielded) ∙ all.0)
