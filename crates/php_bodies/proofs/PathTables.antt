-- A table of files that is filled from a list, each path once.
use Rattle.std.proofs.Common.{◌≡◌, ℕ, List, [], ◌∷◌, ◌++◌, Bool, true, false, sym, ap, subst, ◌∙◌}
use Rattle.std.proofs.lemmas.List.{map-append}
use Rattle.std.specs.Prelude.{if◌then◌else◌}
use Rattle.std.specs.Str.{bytes_eq}
use Rattle.std.specs.Option.{is_some}
use Rattle.std.specs.declared.option.Option.{Option}
use Rattle.std.specs.declared.option.Option.TheVariants.{Some, None}
use Rattle.php_names.specs.Tables.{found}
use Rattle.php_state.specs.declared.program.ProgramFile.{ProgramFile}
use Rattle.php_bodies.specs.Files.{file_in, file_at, files_named, files_at, Holds, AllHold}
use Rattle.php_bodies.specs.Tables.{or_else}
use Rattle.php_bodies.specs.declared.one_file.FileBodies.{FileBodies}
use Rattle.php_bodies.proofs.Tables.{one_added, one_hidden, found_map, there_named}

pub file_put_in : (path : List ℕ) (old new : List (List ℕ × FileBodies)) (f : ProgramFile) (b : FileBodies) (rest : List ProgramFile) → new ≡ old ++ (f.path, b) ∷ [] → b.file.now ≡ f
    → or_else (found path (files_named new)) (found path (files_at rest)) ≡ or_else (found path (files_named old)) (found path (files_at (f ∷ rest)))
file_put_in path old new f b rest e same =
    ap (λ l. or_else (found path l) (found path (files_at rest))) (ap files_named e ∙ map-append file_in old ((f.path, b) ∷ []) ∙ ap (λ g. files_named old ++ (f.path, g) ∷ []) same)
    ∙ one_added path (files_named old) (files_at rest) (file_at f)

pub file_left_out : (path : List ℕ) (old : List (List ℕ × FileBodies)) (f : ProgramFile) (rest : List ProgramFile) → is_some (found f.path old) ≡ true
    → or_else (found path (files_named old)) (found path (files_at rest)) ≡ or_else (found path (files_named old)) (found path (files_at (f ∷ rest)))
file_left_out path old f rest some = one_hidden path (files_named old) (files_at rest) (file_at f) (there_named (λ b. b.file.now) (found f.path old) (found f.path (files_named old)) (found_map (λ b. b.file.now) f.path old) some)

-- ---- each file holds its bodies

pub more_hold : (ps : List (List ℕ × FileBodies)) (p : List ℕ × FileBodies) → AllHold ps → Holds p.1 → AllHold (ps ++ p ∷ [])
more_hold [] p all h = (h, tt {0})
more_hold (q ∷ ps) p all h = (all.0, more_hold ps p all.1 h)

or_it : FileBodies → Option FileBodies → FileBodies
or_it b None = b
or_it b (Some x) = x

some_same : (b x : FileBodies) → Some b ≡ Some x → b ≡ x
unfolding or_it
some_same b x e = ap (or_it b) e

one_holds : (c : Bool) (b x : FileBodies) (y : Option FileBodies) → (if c then Some b else y) ≡ Some x → Holds b → (y ≡ Some x → Holds x) → Holds x
one_holds true b x y e h more = subst Holds (some_same b x e) h
one_holds false b x y e h more = more e

pub found_holds : (path : List ℕ) (ps : List (List ℕ × FileBodies)) (x : FileBodies) → found path ps ≡ Some x → AllHold ps → Holds x
found_holds path [] x e all = absurd cc
found_holds path (p ∷ ps) x e all = one_holds (bytes_eq p.0 path) p.1 x (found path ps) e all.0 (λ g. found_holds path ps x g all.1)
