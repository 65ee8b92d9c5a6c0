-- What the form of a file says of its values.
use Rattle.std.proofs.Common.{◌≡◌, ℕ, suc, Bool, true, false, List, [], ◌∷◌, length, codes, Option, Some, None, if◌then◌else◌, refl, sym, ap, subst, ◌∙◌, Ordering, Less, Equal, Greater, nat_cmp, is_eq}
use Rattle.std.proofs.lemmas.Bool.{false≢true, and_parts}
use Rattle.std.proofs.lemmas.Slice.Eq.{bytes_eq-Decides}
use Rattle.std.proofs.lemmas.Map.Text.{is_eq-slice_cmp}
use Rattle.std.specs.Cmp.Lexicographic.{slice_cmp}
use Rattle.std.specs.List.{list_all}
use Rattle.std.specs.Ordering.{match_ordering}
use Rattle.less_terms.specs.Forms.{is_role}
use Rattle.toml.specs.Data.{Data, string, integer, float, boolean, datetime, array, table, Items, no_items, item, Members, no_members, member, get_member}
use Rattle.toml.specs.declared.value.Value.{Value}
use Rattle.toml.specs.View.{items_view}
use Rattle.role_routing.specs.Forms.{is_role_value, all_items, count_items, is_role_count, is_role_list, is_well_formed, bad_member, or_roles, bad_key}
use Rattle.role_routing.specs.Files.{text_of, texts_of, list_of}

formed_step : (b : Bool) (key : List ℕ) (rest : Option (List ℕ)) → (if b then rest else Some key) ≡ None → (b ≡ true) × (rest ≡ None)
formed_step true key rest e = (refl, e)
formed_step false key rest e = absurd (cc)

same_text : (k l : List ℕ) → slice_cmp nat_cmp k l ≡ Equal → k ≡ l
same_text k l e = (bytes_eq-Decides k l).0 (sym (is_eq-slice_cmp k l) ∙ ap is_eq e)

found_step : (o : Ordering) (key l : List ℕ) (d e : Data) (rest : Option Data) → slice_cmp nat_cmp key l ≡ o → is_well_formed l e ≡ true → (rest ≡ Some d → is_well_formed key d ≡ true)
    → match_ordering o rest (Some e) rest ≡ Some d → is_well_formed key d ≡ true
found_step Less key l d e rest same formed ih h = ih h
found_step Greater key l d e rest same formed ih h = ih h
found_step Equal key l d e rest same formed ih h =
    let v : e ≡ d = cc in
    subst (λ k. is_well_formed k d ≡ true) (sym (same_text key l same)) (subst (λ x. is_well_formed l x ≡ true) v formed)

-- each value that stands at a key has that key's form
formed-at : (key : List ℕ) (ms : Members) (d : Data) → bad_member ms ≡ None → get_member key ms ≡ Some d → is_well_formed key d ≡ true
formed-at key no_members d b h = absurd (cc)
formed-at key (member l e ms) d b h =
    let f = formed_step (is_well_formed l e) l (bad_member ms) b in
    found_step (slice_cmp nat_cmp key l) key l d e (get_member key ms) refl f.0 (λ r. formed-at key ms d f.1 r) h

roles-form : (d : Data) → is_well_formed (codes "roles") d ≡ true → is_role_list d ≡ true
unfolding is_well_formed
roles-form d h = h

roles_step : (value : Option Data) (bad : Option (List ℕ)) → or_roles value bad ≡ None → (d : Data) × (value ≡ Some d) × (bad ≡ None)
roles_step None bad e = absurd (cc)
roles_step (Some d) bad e = (d, refl, e)

text-role : (d : Data) → is_role_value d ≡ true → is_role (text_of d) ≡ true
text-role (string s) h = h
text-role (integer z) h = absurd (false≢true h)
text-role (float x) h = absurd (false≢true h)
text-role (boolean b) h = absurd (false≢true h)
text-role (datetime t) h = absurd (false≢true h)
text-role (array ds) h = absurd (false≢true h)
text-role (table ms) h = absurd (false≢true h)

texts-roles : (ds : Items) → all_items is_role_value ds ≡ true → list_all is_role (texts_of ds) ≡ true
texts-roles no_items h = refl
texts-roles (item d ds) h =
    let p = and_parts (is_role_value d) (all_items is_role_value ds) h in
    rw (text-role d p.0) (texts-roles ds p.1)

texts-count : (ds : Items) → length (texts_of ds) ≡ count_items ds
texts-count no_items = refl
texts-count (item d ds) = ap suc (texts-count ds)

-- a list of roles has 1 to 16 texts, each of a role's form
pub record AreRoleTexts (names : List (List ℕ)) : Type 0 where
  pub count : is_role_count (length names) ≡ true
  pub forms : list_all is_role names ≡ true

list-roles : (d : Data) → is_role_list d ≡ true → AreRoleTexts (list_of (Some d))
list-roles (array ds) h =
    let p = and_parts (is_role_count (count_items ds)) (all_items is_role_value ds) h in
    record { count = ap is_role_count (texts-count ds) ∙ p.0; forms = texts-roles ds p.1 }
list-roles (string s) h = absurd (false≢true h)
list-roles (integer z) h = absurd (false≢true h)
list-roles (float x) h = absurd (false≢true h)
list-roles (boolean b) h = absurd (false≢true h)
list-roles (datetime t) h = absurd (false≢true h)
list-roles (table ms) h = absurd (false≢true h)

-- where no key is bad, `roles` is such a list
pub roles-formed : (ms : Members) → bad_key ms ≡ None → AreRoleTexts (list_of (get_member (codes "roles") ms))
roles-formed ms h =
    let r = roles_step (get_member (codes "roles") ms) (bad_member ms) h in
    subst (λ o. AreRoleTexts (list_of o)) (sym r.1) (list-roles r.0 (roles-form r.0 (formed-at (codes "roles") ms r.0 r.2 r.1)))

pub count_view : (vs : List Value) → count_items (items_view vs) ≡ length vs
count_view [] = refl
count_view (v ∷ vs) = ap suc (count_view vs)
