-- What files have in common that are alike.
use Rattle.std.proofs.Common.{◌≡◌, ℕ, Bool, true, false, ◌&&◌, ◌||◌, cond, not, List, [], ◌∷◌, map, refl, sym, ap, ◌∙◌, string_bytes, String, Global, Vec}
use Rattle.std.specs.List.{list_any, filter}
use Rattle.std.specs.Str.{bytes_eq}
use Rattle.std.proofs.lemmas.Slice.Eq.{bytes_eq-Decides}
use Rattle.app_load.specs.declared.app.AppFile.{AppFile}
use Rattle.app_load.specs.Files.{is_php}
use Rattle.app_load.specs.Applications.{Text}
use Rattle.request_map.specs.Routes.{is_at, IsRoute}
use Rattle.request_map.specs.declared.routes.Route.{Route}
use Rattle.request_map.specs.declared.routes.Route.TheVariants.{Script, Static, NotFound}
use Rattle.role_copies.specs.Alike.{is_script, is_static, is_alike, are_alike, script_paths, static_texts, text_in}

pub both_1 : (a b : Bool) → (a && b) ≡ true → a ≡ true
both_1 true b e = refl
both_1 false b e = e

both_2 : (a b : Bool) → (a && b) ≡ true → b ≡ true
both_2 true b e = e
both_2 false b e = absurd (cc)

other : (a b : Bool) → (a || b) ≡ true → not a ≡ true → b ≡ true
other true b e n = absurd (cc)
other false b e n = e

-- ---- one file

path_of : (f g : AppFile) → is_alike f g ≡ true → string_bytes f.path ≡ string_bytes g.path
path_of f g e = (bytes_eq-Decides (string_bytes f.path) (string_bytes g.path)).0 (both_1 _ _ e)

text_of_static : (f g : AppFile) → is_alike f g ≡ true → is_static f ≡ true → f.text.items ≡ g.text.items
text_of_static f g e n = (bytes_eq-Decides f.text.items g.text.items).0 (other (is_script f) _ (both_2 _ _ e) n)

pub alike_itself : (f : AppFile) → is_alike f f ≡ true
alike_itself f =
    let p = (bytes_eq-Decides (string_bytes f.path) (string_bytes f.path)).1 refl in
    let t = (bytes_eq-Decides f.text.items f.text.items).1 refl in
    ap (λ b. b && (is_script f || bytes_eq f.text.items f.text.items)) p ∙ ap (λ b. is_script f || b) t ∙ or_true (is_script f)
  where
    or_true : (b : Bool) → (b || true) ≡ true
    or_true true = refl
    or_true false = refl

-- ---- the static files

abbrev statics_if : Bool → AppFile → List AppFile → List Text
statics_if b f fs = map text_in (cond b (f ∷ filter is_static fs) (filter is_static fs))

one_static : (b : Bool) (f g : AppFile) (fs gs : List AppFile) → string_bytes f.path ≡ string_bytes g.path → (b ≡ true → f.text.items ≡ g.text.items) → static_texts fs ≡ static_texts gs
    → statics_if b f fs ≡ statics_if b g gs
one_static true f g fs gs p t e = λ i. (p i, t refl i) ∷ e i
one_static false f g fs gs p t e = e

pub statics_same : (fs gs : List AppFile) → are_alike fs gs ≡ true → static_texts fs ≡ static_texts gs
statics_same [] [] e = refl
statics_same [] (g ∷ gs) e = absurd (cc)
statics_same (f ∷ fs) [] e = absurd (cc)
statics_same (f ∷ fs) (g ∷ gs) e =
    let one = both_1 (is_alike f g) (are_alike fs gs) e in
    let more = statics_same fs gs (both_2 (is_alike f g) (are_alike fs gs) e) in
    one_static (is_static f) f g fs gs (path_of f g one) (text_of_static f g one) more
    ∙ ap (λ path. statics_if (not (is_php path)) g gs) (path_of f g one)

-- ---- the scripts

abbrev any_if : List ℕ → Bool → AppFile → List AppFile → Bool
any_if path b f fs = list_any (is_at path) (map (λ file. file.path) (cond b (f ∷ filter is_script fs) (filter is_script fs)))

one_script : (path : List ℕ) (b : Bool) (f g : AppFile) (fs gs : List AppFile) → string_bytes f.path ≡ string_bytes g.path
    → list_any (is_at path) (script_paths fs) ≡ list_any (is_at path) (script_paths gs) → any_if path b f fs ≡ any_if path b g gs
one_script path true f g fs gs p e = λ i. bytes_eq (p i) path || e i
one_script path false f g fs gs p e = e

pub scripts_same : (path : List ℕ) (fs gs : List AppFile) → are_alike fs gs ≡ true → list_any (is_at path) (script_paths fs) ≡ list_any (is_at path) (script_paths gs)
scripts_same path [] [] e = refl
scripts_same path [] (g ∷ gs) e = absurd (cc)
scripts_same path (f ∷ fs) [] e = absurd (cc)
scripts_same path (f ∷ fs) (g ∷ gs) e =
    let one = both_1 (is_alike f g) (are_alike fs gs) e in
    let more = scripts_same path fs gs (both_2 (is_alike f g) (are_alike fs gs) e) in
    one_script path (is_script f) f g fs gs (path_of f g one) more
    ∙ ap (λ own. any_if path (is_php own) g gs) (path_of f g one)

pub route_same : (path : List ℕ) (statics : List (String Global × Vec ℕ Global)) (fs gs : List AppFile) (route : Route) → are_alike fs gs ≡ true
    → IsRoute (script_paths fs) statics path route → IsRoute (script_paths gs) statics path route
route_same path statics fs gs (Script script) e r = (sym (scripts_same path fs gs e) ∙ r.0, r.1)
route_same path statics fs gs (Static number) e r = (sym (scripts_same path fs gs e) ∙ r.0, r.1)
route_same path statics fs gs NotFound e r = (sym (scripts_same path fs gs e) ∙ r.0, r.1)

-- ---- all files

pub all_alike_itself : (fs : List AppFile) → are_alike fs fs ≡ true
all_alike_itself [] = refl
all_alike_itself (f ∷ fs) = ap (λ b. b && are_alike fs fs) (alike_itself f) ∙ all_alike_itself fs
