-- Loops over files, and copies that are made.
use Rattle.std.proofs.Common.{◌≡◌, ℕ, suc, ◌+◌, ◌<◌, ◌≤◌, Bool, true, false, ◌&&◌, ◌||◌, cond, not, nat_le, is_none, zero, List, [], ◌∷◌, ◌++◌, map, length, get_or, slice_index_or, take, drop, replicate, refl, sym, ap, ◌∙◌, subst, String, Global, Vec, arith, add-one, drop-cons}
use Rattle.std.specs.List.{list_all, list_any, filter}
use Rattle.std.proofs.lemmas.List.Sums.{AllPass-from_list_all, list_all-from_AllPass}
use Rattle.std.proofs.lemmas.List.Elements.{filter_more, All-replicate}
use Rattle.std.proofs.lemmas.List.{map-append, append-nil, drop_all, length-replicate}
use Rattle.std.proofs.lemmas.Bool.Decides.{nat_tests}
use Rattle.less_terms.specs.Forms.{is_role}
use Rattle.role_routing.specs.Names.{RolesData, are_roles, are_names, is_number, max_roles, again}
use Rattle.app_load.specs.declared.app.AppFile.{AppFile}
use Rattle.app_load.specs.Applications.{text_of}
use Rattle.request_map.specs.Routes.{is_at, IsRoute}
use Rattle.request_map.specs.declared.routes.Route.{Route}
use Rattle.role_copies.specs.Alike.{is_script, is_static, are_alike, script_paths, static_texts, text_in}
use Rattle.role_copies.specs.Kept.{first_of, all_alike, AreCopies, IsRouteOfAll}
use Rattle.role_copies.proofs.Same.{both_1, statics_same, route_same, all_alike_itself}

-- ---- the first program

pub first_is : (programs : List (List AppFile)) (d : List AppFile) → 1 ≤ length programs → slice_index_or programs 0 d ≡ first_of programs
first_is [] d h = absurd (omega arith)
first_is (files ∷ rest) d h = refl

-- ---- what copies keep

pub sound_of : (programs : List (List AppFile)) (statics : List (String Global × Vec ℕ Global)) → 1 ≤ length programs → all_alike programs ≡ true
    → map text_of statics ≡ static_texts (first_of programs) → AreCopies programs statics
sound_of programs statics some alike e = record {
  some = some;
  alike = alike;
  each = λ k d less. sym (statics_same (first_of programs) (slice_index_or programs k d) (AllPass-from_list_all (are_alike (first_of programs)) programs alike k d less)) ∙ sym e;
}

pub route_of_all : (programs : List (List AppFile)) (statics : List (String Global × Vec ℕ Global)) (path : List ℕ) (route : Route) → all_alike programs ≡ true
    → IsRoute (script_paths (first_of programs)) statics path route → IsRouteOfAll programs statics path route
route_of_all programs statics path route alike r =
    λ k d less. route_same path statics (first_of programs) (slice_index_or programs k d) route (AllPass-from_list_all (are_alike (first_of programs)) programs alike k d less) r

-- ---- the same, where the first program was taken by its number

pub sound_of_first : (programs : List (List AppFile)) (first d : List AppFile) (statics : List (String Global × Vec ℕ Global)) (b : Bool) → 1 ≤ length programs
    → first ≡ slice_index_or programs 0 d → b ≡ list_all (are_alike first) programs → b ≡ true → map text_of statics ≡ static_texts first → AreCopies programs statics
sound_of_first programs first d statics b some is alike t e =
    let own = is ∙ first_is programs d some in
    sound_of programs statics some (sym (ap (λ files. list_all (are_alike files) programs) own) ∙ sym alike ∙ t) (e ∙ ap static_texts own)

pub route_of_copies : (programs : List (List AppFile)) (statics : List (String Global × Vec ℕ Global)) (path : List ℕ) (route : Route) (first d : List AppFile) → AreCopies programs statics
    → first ≡ slice_index_or programs 0 d → IsRoute (script_paths first) statics path route → IsRouteOfAll programs statics path route
route_of_copies programs statics path route first d sound is r =
    route_of_all programs statics path route sound.alike (subst (λ files. IsRoute (script_paths files) statics path route) (is ∙ first_is programs d sound.some) r)

-- ---- an application for each role

first_of_same : (n : ℕ) (files : List AppFile) → 1 ≤ n → first_of (replicate n files) ≡ files
first_of_same zero files h = absurd (omega arith)
first_of_same (suc n) files h = refl

pub sound_of_same : (n : ℕ) (files : List AppFile) (statics : List (String Global × Vec ℕ Global)) → 1 ≤ n → map text_of statics ≡ static_texts files
    → AreCopies (replicate n files) statics
sound_of_same n files statics h e =
    let first = first_of_same n files h in
    let alike = ap (λ own. are_alike own files) first ∙ all_alike_itself files in
    sound_of (replicate n files) statics (subst (λ k. 1 ≤ k) (sym (length-replicate n files)) h)
    (list_all-from_AllPass (are_alike (first_of (replicate n files))) (replicate n files) (All-replicate (λ own. are_alike (first_of (replicate n files)) own ≡ true) n files alike))
    (e ∙ ap static_texts (sym first))

pub some_role : (roles : RolesData) → are_roles roles ≡ true → 1 ≤ length roles.names
some_role roles e =
    let rest = list_all (λ u. is_number (length roles.names) u.1) roles.users && list_all (λ k. is_number (length roles.names) k.0) roles.keep in
    let front = both_1 (are_names roles.names && is_number (length roles.names) roles.guest) rest e in
    let names = both_1 (are_names roles.names) (is_number (length roles.names) roles.guest) front in
    let count = both_1 (nat_le 1 (length roles.names) && nat_le (length roles.names) max_roles) (list_all is_role roles.names && is_none (again [] roles.names)) names in
    let some = both_1 (nat_le 1 (length roles.names)) (nat_le (length roles.names) max_roles) count in
    grind (arith, nat_tests)

-- ---- loops over files

drops : (fs : List AppFile) (i : ℕ) (d : AppFile) → i < length fs → d ≡ get_or fs i d → drop i fs ≡ d ∷ drop (i + 1) fs
drops fs i d h is = drop-cons fs i d h ∙ ap (λ x. x ∷ drop (suc i) fs) (sym is) ∙ ap (λ n. d ∷ drop n fs) (sym (add-one i))

statics_step : (fs : List AppFile) (i : ℕ) (d : AppFile) (s : Bool) → i < length fs → d ≡ get_or fs i d → is_script d ≡ s
    → static_texts (take (i + 1) fs) ≡ static_texts (take i fs) ++ map text_in (cond (not s) (d ∷ []) [])
statics_step fs i d s h is e =
    ap (map text_in) (filter_more is_static fs i d h)
    ∙ map-append text_in (filter is_static (take i fs)) (cond (is_static (get_or fs i d)) (get_or fs i d ∷ []) [])
    ∙ ap (λ f. static_texts (take i fs) ++ map text_in (cond (is_static f) (f ∷ []) [])) (sym is)
    ∙ ap (λ b. static_texts (take i fs) ++ map text_in (cond (not b) (d ∷ []) [])) e

-- a static file was added
pub static_added : (fs : List AppFile) (i : ℕ) (d : AppFile) (old new : List (String Global × Vec ℕ Global)) (text : String Global × Vec ℕ Global) → i < length fs → d ≡ get_or fs i d
    → is_script d ≡ false → map text_of old ≡ static_texts (take i fs) → new ≡ old ++ text ∷ [] → text_of text ≡ text_in d → map text_of new ≡ static_texts (take (i + 1) fs)
static_added fs i d old new text h is s e added t =
    ap (map text_of) added ∙ map-append text_of old (text ∷ []) ∙ (λ j. e j ++ t j ∷ []) ∙ sym (statics_step fs i d false h is s)

pub script_passed : (fs : List AppFile) (i : ℕ) (d : AppFile) → i < length fs → d ≡ get_or fs i d → is_script d ≡ true → static_texts (take (i + 1) fs) ≡ static_texts (take i fs)
script_passed fs i d h is s = statics_step fs i d true h is s ∙ append-nil (static_texts (take i fs))

one_of : (path : List ℕ) (d : AppFile) (fs : List AppFile) (b : Bool)
    → list_any (is_at path) (map (λ file. file.path) (cond b (d ∷ filter is_script fs) (filter is_script fs))) ≡ ((b && is_at path d.path) || list_any (is_at path) (script_paths fs))
one_of path d fs true = refl
one_of path d fs false = refl

pub script_next : (path : List ℕ) (fs : List AppFile) (i : ℕ) (d : AppFile) → i < length fs → d ≡ get_or fs i d
    → list_any (is_at path) (script_paths (drop i fs)) ≡ ((is_script d && is_at path d.path) || list_any (is_at path) (script_paths (drop (i + 1) fs)))
script_next path fs i d h is = ap (λ own. list_any (is_at path) (script_paths own)) (drops fs i d h is) ∙ one_of path d (drop (i + 1) fs) (is_script d)

pub script_ends : (path : List ℕ) (fs : List AppFile) (i : ℕ) → length fs ≤ i → list_any (is_at path) (script_paths (drop i fs)) ≡ false
script_ends path fs i h = ap (λ own. list_any (is_at path) (script_paths own)) (drop_all i fs h)
