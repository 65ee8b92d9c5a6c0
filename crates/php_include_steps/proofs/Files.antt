-- Files that are included, over plain values.
use Rattle.std.proofs.Common.{◌≡◌, ℕ, List, [], ◌∷◌, Bool, true, false, ◌||◌, Bor, get_or, position, slice_get, Option, Some, None, if◌then◌else◌, refl, sym, ap, ◌∙◌}
use Rattle.std.proofs.lemmas.List.Quantifiers.{position-Some}
use Rattle.std.proofs.lemmas.Option.{slice_get-get_or}
use Rattle.std.specs.Cmp.Lexicographic.{same_text}
use Rattle.std.specs.List.{list_any}
use Rattle.std.specs.Option.{option_map, unwrap_or}
use Rattle.std.specs.Str.{bytes_eq}
use Rattle.php_folders.specs.Files.{IsFile, StandsIn}
use Rattle.php_tree.specs.declared.expr.IncludeKind.{IncludeKind}
use Rattle.php_values.specs.declared.value.Value.TheVariants as value
use Rattle.php_values.specs.declared.value.Value.{fold-roll-Value}
use Rattle.php_values.specs.declared.value.Value.TheOpen.{Value-F}
use Rattle.php_values.specs.Data.{Data, ArrayData, truth, data_of, data_step, array_step}
use Rattle.php_world.specs.Naming.{Naming}
use Rattle.php_meaning.specs.Course.{Then, give}
use Rattle.php_meaning.specs.Folders.{file_named}
use Rattle.php_meaning.specs.Stores.{enter_by, enter_file, enter_found, enter_once, include_text, not_there}
use Rattle.php_meaning.specs.World.{World, is_among, path_of}
use Rattle.php_rest.specs.Views.{entry_of}
use Rattle.php_state.specs.Views.{world_of}
use Rattle.php_state.specs.declared.state.State.{State}

-- ---- files that were entered

among_if : (b r s : Bool) → r ≡ s → (if b then true else r) ≡ (b || s)
among_if true r s e = refl
among_if false r s e = e

among_any : (path : List ℕ) (files : List (List ℕ)) → is_among path files ≡ list_any (λ p. bytes_eq p path) files
among_any path [] = refl
among_any path (p ∷ ps) = among_if (bytes_eq p path) (is_among path ps) (list_any (λ q. bytes_eq q path) ps) (among_any path ps)

pub told : (path path' : List ℕ) (files : List (List ℕ)) (b c : Bool) → path' ≡ path → b ≡ list_any (λ p. bytes_eq p path') files → b ≡ c → is_among path files ≡ c
told path path' files b c same is value = among_any path files ∙ ap (λ q. list_any (λ p. bytes_eq p q) files) (sym same) ∙ sym is ∙ value

pub once_entered : (path : List ℕ) (w : World) (k : Then) → is_among path w.entered ≡ false → enter_file path w k ≡ enter_once path w k
once_entered path w k is = ap (λ b. if b then give (truth true) w k else enter_file path w k) (sym is)

data-Bool : (x : Bool) → data_of (value.Bool x) ≡ truth x
data-Bool x = ap data_of (sym (value.rolls-Bool x)) ∙ fold-roll-Value Data ArrayData data_step array_step (Value-F.Bool x)

pub not_again : (path : List ℕ) (w : World) (k : Then) → is_among path w.entered ≡ true → give (data_of (value.Bool true)) w k ≡ enter_once path w k
not_again path w k is = ap (λ d. give d w k) (data-Bool true) ∙ ap (λ b. if b then give (truth true) w k else enter_file path w k) (sym is)

-- ---- the file of a number

pub at_number : (texts : List (List ℕ)) (key : List ℕ) (n : ℕ) → position (bytes_eq key) texts ≡ Some n → slice_get texts n ≡ Some key
at_number texts key n is =
    let found = position-Some (bytes_eq key) texts n [] is in
    slice_get-get_or texts n [] found.0 ∙ ap Some (sym (same_text key (get_or texts n []) (sym found.1)))

-- a world as a state stands for it has its files and its script
pub standing : (t : Naming) (s : State) (script path file : List ℕ) → script ≡ s.script.now → path ≡ file → file ≡ path_of (entry_of s.scene.owner) → StandsIn s.program.now.paths script path (world_of t s)
standing t s script path file from is of = record { files_are = refl; script_is = sym from; path_is = sym (is ∙ of) }

pub unnumbered : (files : List (List ℕ)) (expected : Option (List ℕ)) (n : Option ℕ) → IsFile files expected n → n ≡ None → None ≡ expected
unnumbered files expected None file is = sym file
unnumbered files expected (Some n) file is = absurd cc

pub numbered : (files : List (List ℕ)) (expected : Option (List ℕ)) (o : Option ℕ) (n : ℕ) (path : List ℕ) → IsFile files expected o → o ≡ Some n → slice_get files n ≡ Some path → Some path ≡ expected
numbered files expected None n path file number is = absurd cc
numbered files expected (Some m) n path file number is =
    let same : m ≡ n = ap (λ o. unwrap_or o 0) number in
    sym is ∙ ap (slice_get files) (sym same) ∙ file.place ∙ sym file.is

-- ---- what is done with it

pub found : (kind : IncludeKind) (text : List ℕ) (w : World) (k : Then) (o : Option (Bor (List ℕ))) (path : Bor (List ℕ)) → option_map (λ p. p.now) o ≡ file_named text w → o ≡ Some path
    → enter_by kind path.now w k ≡ include_text kind text w k
found kind text w k o path named is = ap (λ p. enter_found kind p w k) (sym (ap (option_map (λ p. p.now)) is) ∙ named)

pub not_found : (kind : IncludeKind) (text : List ℕ) (w : World) (k : Then) (o : Option (Bor (List ℕ))) → option_map (λ p. p.now) o ≡ file_named text w → o ≡ None
    → not_there kind w k ≡ include_text kind text w k
not_found kind text w k o named is = ap (λ p. enter_found kind p w k) (sym (ap (option_map (λ p. p.now)) is) ∙ named)
