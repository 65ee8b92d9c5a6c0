-- What seven fields tell, and when they tell nothing.
use Rattle.std.proofs.Common.{◌≡◌, ℕ, ◌-◌, ◌^◌, ◌≤◌, true, false, List, [], ◌∷◌, slice_index_or, codes, Option, Some, None, arith, refl, ap, sym, ◌∙◌}
use Rattle.std.proofs.lemmas.Grind.{common_steps}
use Rattle.std.proofs.lemmas.Bool.{true≢false}
use Rattle.std.specs.Fmt.{decimal}
use Rattle.less_terms.specs.Decimals.{decimal_value}
use Rattle.less_terms.specs.Forms.{is_role}
use Rattle.less_terms.specs.Paths.{is_path, is_function_name}
use Rattle.less_terms.proofs.Written.{read_written, written_read}
use Rattle.app_load.specs.Entries.{Entry, file, function}
use Rattle.removal_reports.specs.LogLines.{AreFieldsOf, AreNoFields, TellsEntry, TellsNoEntry}

none_or_some : (n : ℕ) (t : Option ℕ) → t ≡ None → t ≡ Some n → ⊥
none_or_some n t e f = grind (arith, common_steps)

pub no_path : (kind path name : List ℕ) → is_path path ≡ false → TellsNoEntry kind path name
no_path kind path name f e tells = true≢false (sym tells.path_form ∙ ap is_path (sym tells.path_is) ∙ f)

pub no_kind : (kind path name : List ℕ) → (kind ≡ codes "file" → ⊥) → (kind ≡ codes "function" → ⊥) → TellsNoEntry kind path name
no_kind kind path name f g (file p) tells = f tells.kind_is
no_kind kind path name f g (function p n) tells = g tells.kind_is

pub no_file : (kind path name : List ℕ) → kind ≡ codes "file" → (name ≡ codes "-" → ⊥) → TellsNoEntry kind path name
no_file kind path name k f (file p) tells = f tells.name_is
no_file kind path name k f (function p n) tells = other (sym k ∙ tells.kind_is)
  where
    other : codes "file" ≡ codes "function" → ⊥
    other e = grind (arith, common_steps)

pub no_function_name : (kind path name : List ℕ) → kind ≡ codes "function" → is_function_name name ≡ false → TellsNoEntry kind path name
no_function_name kind path name k f (file p) tells = other (sym tells.kind_is ∙ k)
  where
    other : codes "file" ≡ codes "function" → ⊥
    other e = grind (arith, common_steps)
no_function_name kind path name k f (function p n) tells = true≢false (sym tells.name_form ∙ ap is_function_name (sym tells.name_is) ∙ f)

pub tells_file : (kind path name named : List ℕ) → named ≡ path → is_path path ≡ true → kind ≡ codes "file" → name ≡ codes "-" → TellsEntry (file named) kind path name
tells_file kind path name named e f k n = record { kind_is = k; path_is = sym e; name_is = n; path_form = ap is_path e ∙ f; name_form = refl }

pub tells_function : (kind path name named called : List ℕ) → named ≡ path → is_path path ≡ true → kind ≡ codes "function" → called ≡ name → is_function_name name ≡ true → TellsEntry (function named called) kind path name
tells_function kind path name named called e f k g h = record { kind_is = k; path_is = sym e; name_is = sym g; path_form = ap is_path e ∙ f; name_form = ap is_function_name g ∙ h }

pub no_word : (word moment role slot kind path name : List ℕ) → (word ≡ codes "removed" → ⊥) → AreNoFields (word ∷ moment ∷ role ∷ slot ∷ kind ∷ path ∷ name ∷ [])
no_word word moment role slot kind path name f r are = f (ap (λ fs. slice_index_or fs 0 []) are.texts)

pub no_role : (word moment role slot kind path name : List ℕ) → is_role role ≡ false → AreNoFields (word ∷ moment ∷ role ∷ slot ∷ kind ∷ path ∷ name ∷ [])
no_role word moment role slot kind path name f r are = true≢false (sym are.forms.role ∙ ap is_role (sym (ap (λ fs. slice_index_or fs 2 []) are.texts)) ∙ f)

pub no_entry : (word moment role slot kind path name : List ℕ) → TellsNoEntry kind path name → AreNoFields (word ∷ moment ∷ role ∷ slot ∷ kind ∷ path ∷ name ∷ [])
no_entry word moment role slot kind path name f r are = f r.entry (record {
  kind_is = ap (λ fs. slice_index_or fs 4 []) are.texts;
  path_is = ap (λ fs. slice_index_or fs 5 []) are.texts;
  name_is = ap (λ fs. slice_index_or fs 6 []) are.texts;
  path_form = are.forms.path;
  name_form = are.forms.name;
})

pub no_moment : (word moment role slot kind path name : List ℕ) → decimal_value (2 ^ 64 - 1) moment ≡ None → AreNoFields (word ∷ moment ∷ role ∷ slot ∷ kind ∷ path ∷ name ∷ [])
no_moment word moment role slot kind path name none r are =
    let same : moment ≡ decimal r.moment = ap (λ fs. slice_index_or fs 1 []) are.texts in
    none_or_some r.moment (decimal_value (2 ^ 64 - 1) moment) none (ap (decimal_value (2 ^ 64 - 1)) same ∙ read_written (2 ^ 64 - 1) r.moment are.forms.moment (omega (arith, are.forms.moment)))

pub no_slot : (word moment role slot kind path name : List ℕ) → decimal_value 255 slot ≡ None → AreNoFields (word ∷ moment ∷ role ∷ slot ∷ kind ∷ path ∷ name ∷ [])
no_slot word moment role slot kind path name none r are =
    let same : slot ≡ decimal r.slot = ap (λ fs. slice_index_or fs 3 []) are.texts in
    none_or_some r.slot (decimal_value 255 slot) none (ap (decimal_value 255) same ∙ read_written 255 r.slot (omega (arith, are.forms.slot)) (omega (arith, are.forms.slot)))

within : (most n : ℕ) (text : List ℕ) → decimal_value most text ≡ Some n → n ≤ most
within most n text e = grind (arith, common_steps)

pub are_fields : (word moment role slot kind path name : List ℕ) (m s : ℕ) (named : List ℕ) (e : Entry) → word ≡ codes "removed" → decimal_value (2 ^ 64 - 1) moment ≡ Some m → named ≡ role → is_role role ≡ true → decimal_value 255 slot ≡ Some s → TellsEntry e kind path name
    → AreFieldsOf (record { moment = m; role = named; slot = s; entry = e }) (word ∷ moment ∷ role ∷ slot ∷ kind ∷ path ∷ name ∷ [])
are_fields word moment role slot kind path name m s named e w mo na ro sl tells =
    let moment_is = written_read (2 ^ 64 - 1) m moment (omega arith) mo in
    let slot_is = written_read 255 s slot (omega arith) sl in
    record {
      forms = record {
        moment = omega (arith, within (2 ^ 64 - 1) m moment mo);
        role = ap is_role na ∙ ro;
        slot = omega (arith, within 255 s slot sl);
        path = tells.path_form;
        name = tells.name_form;
      };
      texts = λ i. w i ∷ moment_is i ∷ sym na i ∷ slot_is i ∷ tells.kind_is i ∷ tells.path_is i ∷ tells.name_is i ∷ [];
    }
