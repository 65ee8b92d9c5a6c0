-- Arrays that are taken out of their variables, over plain data.
use Rattle.std.proofs.Common.{◌≡◌, ℕ, zero, suc, Bool, true, false, List, [], ◌∷◌, refl, sym, subst, ap, ◌∙◌, Ok, slice_set}
use Rattle.std.proofs.lemmas.Bool.{false≢true}
use Rattle.std.specs.declared.option.Option.{Option}
use Rattle.std.specs.declared.option.Option.TheVariants.{Some, None}
use Rattle.php_values.specs.Data.{Data, null}
use Rattle.php_world.specs.declared.cell.Cell.{Cell}
use Rattle.php_world.specs.declared.cell.Cell.TheVariants.{Lasting, Local}
use Rattle.php_world.specs.Variables.{Variables, Binding, cell_in, item_of, cell_value, with_value, slot_of, value_if, value_of, write_slot}
use Rattle.php_meaning.specs.World.{Name}
use Rattle.php_meaning.specs.Calls.{assigned, or_same}
use Rattle.php_library_steps.specs.Taking.{is_array, IsTaken, Takes}

set_again : (xs : List Data) (n : ℕ) (a d : Data) → slice_set (slice_set xs n a) n d ≡ slice_set xs n d
set_again [] n a d = refl
set_again (x ∷ xs) zero a d = refl
set_again (x ∷ xs) (suc n) a d = ap (λ l. x ∷ l) (set_again xs n a d)

set_back : (xs : List Data) (n : ℕ) (a : Data) → slice_set (slice_set xs n a) n (item_of n xs) ≡ xs
set_back [] n a = refl
set_back (x ∷ xs) zero a = refl
set_back (x ∷ xs) (suc n) a = ap (λ l. x ∷ l) (set_back xs n a)

cell_again : (c : Cell) (a d : Data) (vs : Variables) → with_value c d (with_value c a vs) ≡ with_value c d vs
cell_again (Lasting n) a d vs = ap (λ l. record vs { lasting = l }) (set_again vs.lasting n a d)
cell_again (Local n) a d vs = ap (λ l. record vs { locals = l }) (set_again vs.locals n a d)

cell_back : (c : Cell) (a : Data) (vs : Variables) → with_value c (cell_value c vs) (with_value c a vs) ≡ vs
cell_back (Lasting n) a vs = ap (λ l. record vs { lasting = l }) (set_back vs.lasting n a)
cell_back (Local n) a vs = ap (λ l. record vs { locals = l }) (set_back vs.locals n a)

same_slot : (x : Name) (c : Cell) (a : Data) (vs : Variables) → slot_of x (with_value c a vs) ≡ slot_of x vs
same_slot x (Lasting n) a vs = refl
same_slot x (Local n) a vs = refl

in_cell : (x : Name) (d : Data) (vs : Variables) (b : Binding) → slot_of x vs ≡ Some b → assigned x d vs ≡ with_value (cell_in b) d vs
in_cell x d vs b e = ap (λ o. or_same vs (write_slot x [] (λ old. Ok d) vs o)) e

taken_in : (x : Name) (vs : Variables) (o : Option Binding) → slot_of x vs ≡ o → is_array (value_if vs o) ≡ true → IsTaken x vs (assigned x null vs)
taken_in x vs None e h = absurd (false≢true h)
taken_in x vs (Some b) e h = record {
  next = λ d. ap (assigned x d) (in_cell x null vs b e) ∙ in_cell x d (with_value (cell_in b) null vs) b (same_slot x (cell_in b) null vs ∙ e) ∙ cell_again (cell_in b) null d vs ∙ sym (in_cell x d vs b e);
  back =
      (λ i. assigned x (value_if vs (e i)) (in_cell x null vs b e i))
      ∙ in_cell x (cell_value (cell_in b) vs) (with_value (cell_in b) null vs) b (same_slot x (cell_in b) null vs ∙ e)
      ∙ cell_back (cell_in b) null vs;
}

-- an array was taken out of its variable, which holds null
pub taken : (x : Name) (old new : Variables) → is_array (value_of x old) ≡ true → new ≡ assigned x null old → IsTaken x old new
taken x old new h e = subst (IsTaken x old) (sym e) (taken_in x old (slot_of x old) refl h)

-- another value after it, as if nothing had been taken
pub assigned_next : (x : Name) (d : Data) (old held new : Variables) (b : Bool) → Takes x old held b → new ≡ assigned x d held → new ≡ assigned x d old
assigned_next x d old held new true h e = e ∙ h.next d
assigned_next x d old held new false h e = e ∙ ap (assigned x d) h

-- the value that was taken is put back
pub assigned_back : (x : Name) (d : Data) (old held new : Variables) → IsTaken x old held → d ≡ value_of x old → new ≡ assigned x d held → new ≡ old
assigned_back x d old held new h is e = e ∙ ap (λ d. assigned x d held) is ∙ h.back
