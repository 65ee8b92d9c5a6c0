-- Calls and cells of a store, over plain values.
use Rattle.std.proofs.Common.{rules, ◌≡◌, ℕ, zero, suc, ◌≤◌, ◌<◌, true, false, ◌==◌, if◌then◌else◌, List, [], ◌∷◌, map, take, length, refl, sym, subst, ap, ◌∙◌, Option, Some, None, Ok, Err, OnOk, IfOk, slice_set, slice_index_or, arith}
use Rattle.std.specs.declared.result.Result.{Result}
use Rattle.std.proofs.lemmas.Bool.Decides.{nat_tests}
use Rattle.php_values.specs.declared.value.Value.{Value}
use Rattle.php_values.specs.Data.{Data, null, data_of}
use Rattle.php_world.specs.declared.fault.PlaceFault.{PlaceFault}
use Rattle.php_world.specs.declared.cell.Cell.{Cell}
use Rattle.php_world.specs.declared.cell.Held.{Held}
use Rattle.php_world.specs.declared.scopes.Item.{Item}
use Rattle.php_world.specs.declared.scopes.Item.TheVariants.{Named, Begins}
use Rattle.php_world.specs.Answers.{Answer, when_ok, Makes}
use Rattle.php_world.specs.Variables.{Scope, Call, Variables, Binding, call_with, variables_with, scope_of, or_else, slot_of, with_global, rebound, new_global, new_local, new_cell, new_in, left, is_superglobal, item_of, with_slot, change_if, cell_held, cell_in, write_place, write_cell, write_slot, unset_place, unset_cell, unset_slot}
use Rattle.php_world.specs.Steps.{Step}
use Rattle.php_world.specs.Places.{write_at}
use Rattle.php_world.specs.Naming.{Naming}
use Rattle.php_world.specs.Slots.{count_calls, base_of, after_call, IsBound}
use Rattle.php_world.specs.View.{held_of, scope_at, calls_at, bind_newest}
use Rattle.php_world.proofs.Writes.{makes_in}

-- ---- calls

pub top_calls : (name : ℕ → List ℕ) (items : List Item) → count_calls items ≡ 0 → calls_at name items ≡ []
top_calls name [] e = refl
top_calls name (Named n b old ∷ items) e = ap (bind_newest (name n) (held_of b)) (top_calls name items e)
top_calls name (Begins base ∷ items) e = absurd (omega arith)

abbrev pub base_or : List Item → ℕ
base_or [] = 0
base_or (Named n b old ∷ items) = base_or items
base_or (Begins base ∷ items) = base

pub calls_is : (name : ℕ → List ℕ) (items : List Item) → (count_calls items ≡ 0 → ⊥) → calls_at name items ≡ call_with (scope_at name items) (base_or items) ∷ calls_at name (after_call items)
calls_is name [] e = absurd (e refl)
calls_is name (Named n b old ∷ items) e = ap (bind_newest (name n) (held_of b)) (calls_is name items e)
calls_is name (Begins base ∷ items) e = refl

pub is_zero : (n : ℕ) → true ≡ (n == 0) → n ≡ 0
is_zero zero e = refl
is_zero (suc n) e = search (rules, e)

pub not_zero : (n : ℕ) → false ≡ (n == 0) → n ≡ 0 → ⊥
not_zero zero e is = search (rules, e)
not_zero (suc n) e is = search (rules, is)

pub scope_top : (name : ℕ → List ℕ) (items : List Item) (g : Scope) (n : List ℕ) → true ≡ (count_calls items == 0) → g n ≡ scope_of g (calls_at name items) n
scope_top name items g n e = ap (λ cs. scope_of g cs n) (sym (top_calls name items (is_zero (count_calls items) e)))

pub scope_call : (name : ℕ → List ℕ) (items : List Item) (g : Scope) (n : List ℕ) → false ≡ (count_calls items == 0) → scope_at name items n ≡ scope_of g (calls_at name items) n
scope_call name items g n e = ap (λ cs. scope_of g cs n) (sym (calls_is name items (not_zero (count_calls items) e)))

-- what a name of the first six is bound to, and another one
pub slot_first : (t : Naming) (vs : Variables) (n : ℕ) → n < 6 → or_else (scope_of vs.globals vs.calls (t.name n)) (vs.globals (t.name n)) ≡ slot_of (t.name n) vs
slot_first t vs n h =
    let is : is_superglobal (t.name n) ≡ true = t.superglobals n ∙ grind (arith, nat_tests) in
    ap (λ b. or_else (scope_of vs.globals vs.calls (t.name n)) (if b then vs.globals (t.name n) else None)) (sym is)

or_none : (o : Option Binding) → o ≡ or_else o None
or_none None = refl
or_none (Some b) = refl

pub slot_other : (t : Naming) (vs : Variables) (n : ℕ) → 6 ≤ n → scope_of vs.globals vs.calls (t.name n) ≡ slot_of (t.name n) vs
slot_other t vs n h =
    let is : is_superglobal (t.name n) ≡ false = t.superglobals n ∙ grind (arith, nat_tests) in
    or_none (scope_of vs.globals vs.calls (t.name n)) ∙ ap (λ b. or_else (scope_of vs.globals vs.calls (t.name n)) (if b then vs.globals (t.name n) else None)) (sym is)

-- ---- binding

pub rebound_top : (name : ℕ → List ℕ) (globals new calls : List Item) (ls vs : List Data) (ss : Scope) (n : ℕ) (b : Held) → true ≡ (count_calls calls == 0) → IsBound n b globals new
    → variables_with ls vs (scope_at name new) (calls_at name calls) ss ≡ rebound (name n) (held_of b) (variables_with ls vs (scope_at name globals) (calls_at name calls) ss)
rebound_top name globals new calls ls vs ss n b e h =
    let none = top_calls name calls (is_zero (count_calls calls) e) in
    (λ i. variables_with ls vs (scope_at name (h.is i)) (none i) ss) ∙ ap (λ cs. rebound (name n) (held_of b) (variables_with ls vs (scope_at name globals) cs ss)) (sym none)

pub rebound_call : (name : ℕ → List ℕ) (g : Scope) (calls new : List Item) (ls vs : List Data) (ss : Scope) (n : ℕ) (b : Held) → false ≡ (count_calls calls == 0) → IsBound n b calls new
    → variables_with ls vs g (calls_at name new) ss ≡ rebound (name n) (held_of b) (variables_with ls vs g (calls_at name calls) ss)
rebound_call name g calls new ls vs ss n b e h =
    let some = calls_is name calls (not_zero (count_calls calls) e) in
    ap (λ cs. variables_with ls vs g cs ss) (ap (calls_at name) h.is ∙ ap (bind_newest (name n) (held_of b)) some) ∙ ap (λ cs. rebound (name n) (held_of b) (variables_with ls vs g cs ss)) (sym some)

pub global_bound : (name : ℕ → List ℕ) (globals new : List Item) (cs : List Call) (ls vs : List Data) (ss : Scope) (n : ℕ) (b : Held) → IsBound n b globals new
    → variables_with ls vs (scope_at name new) cs ss ≡ with_global (name n) (held_of b) (variables_with ls vs (scope_at name globals) cs ss)
global_bound name globals new cs ls vs ss n b h = ap (λ items. variables_with ls vs (scope_at name items) cs ss) h.is

-- a name is bound where it stands
pub slot_bound : (n : List ℕ) (b : Option Binding) (vs : Variables) (o : Option Binding) (cell : Cell) → o ≡ scope_of vs.globals vs.calls n → Some cell ≡ cell_held o → rebound n b vs ≡ with_slot n b vs
slot_bound n b vs None cell is some = search (rules, some)
slot_bound n b vs (Some old) cell is some = ap (change_if n b vs) is

pub slot_global : (n : List ℕ) (b : Option Binding) (vs : Variables) (o : Option Binding) → o ≡ scope_of vs.globals vs.calls n → None ≡ cell_held o → with_global n b vs ≡ with_slot n b vs
slot_global n b vs None is none = ap (change_if n b vs) is
slot_global n b vs (Some old) is none = search (rules, none)

-- ---- new cells

pub new_top : (name : List ℕ) (d : Data) (vs : Variables) → vs.calls ≡ [] → new_global name d vs ≡ new_cell name d vs
new_top name d vs e = ap (λ cs. new_in name d cs vs) (sym e)

pub new_first : (name : List ℕ) (d : Data) (vs : Variables) (c : Call) (cs : List Call) → vs.calls ≡ c ∷ cs → is_superglobal name ≡ true → new_global name d vs ≡ new_cell name d vs
new_first name d vs c cs e is = ap (λ b. if b then new_global name d vs else new_local name d vs) (sym is) ∙ ap (λ cs. new_in name d cs vs) (sym e)

pub new_other : (name : List ℕ) (d : Data) (vs : Variables) (c : Call) (cs : List Call) → vs.calls ≡ c ∷ cs → is_superglobal name ≡ false → new_local name d vs ≡ new_cell name d vs
new_other name d vs c cs e is = ap (λ b. if b then new_global name d vs else new_local name d vs) (sym is) ∙ ap (λ cs. new_in name d cs vs) (sym e)

pub is_first : (t : Naming) (n : ℕ) → n < 6 → is_superglobal (t.name n) ≡ true
is_first t n h = t.superglobals n ∙ grind (arith, nat_tests)

pub is_other : (t : Naming) (n : ℕ) → 6 ≤ n → is_superglobal (t.name n) ≡ false
is_other t n h = t.superglobals n ∙ grind (arith, nat_tests)

-- ---- leaving

take-map : (n : ℕ) (vs : List Value) → map data_of (take n vs) ≡ take n (map data_of vs)
take-map zero [] = refl
take-map (suc n) [] = refl
take-map zero (v ∷ vs) = refl
take-map (suc n) (v ∷ vs) = ap (λ l. data_of v ∷ l) (take-map n vs)

based_calls : (name : ℕ → List ℕ) (items : List Item) (base : ℕ) → Some base ≡ base_of items → calls_at name items ≡ call_with (scope_at name items) base ∷ calls_at name (after_call items)
based_calls name [] base e = search (rules, e)
based_calls name (Named n b old ∷ items) base e = ap (bind_newest (name n) (held_of b)) (based_calls name items base e)
based_calls name (Begins first ∷ items) base e = let is : first ≡ base = grind (arith, e) in ap (λ k. call_with (scope_at name (Begins first ∷ items)) k ∷ calls_at name items) is

no_calls : (name : ℕ → List ℕ) (items : List Item) → None ≡ base_of items → calls_at name items ≡ []
no_calls name [] e = refl
no_calls name (Named n b old ∷ items) e = ap (bind_newest (name n) (held_of b)) (no_calls name items e)
no_calls name (Begins base ∷ items) e = search (rules, e)

no_more : (items : List Item) → None ≡ base_of items → after_call items ≡ []
no_more [] e = refl
no_more (Named n b old ∷ items) e = no_more items e
no_more (Begins base ∷ items) e = search (rules, e)

pub left_call : (name : ℕ → List ℕ) (calls new : List Item) (ls : List Data) (xs ys : List Value) (g ss : Scope) (base : ℕ) → Some base ≡ base_of calls → new ≡ after_call calls → ys ≡ take base xs
    → variables_with ls (map data_of ys) g (calls_at name new) ss ≡ left (variables_with ls (map data_of xs) g (calls_at name calls) ss)
left_call name calls new ls xs ys g ss base e is cut =
    (λ i. variables_with ls ((ap (map data_of) cut ∙ take-map base xs) i) g (calls_at name (is i)) ss) ∙ ap (λ cs. left (variables_with ls (map data_of xs) g cs ss)) (sym (based_calls name calls base e))

pub left_top : (name : ℕ → List ℕ) (calls new : List Item) (ls vs : List Data) (g ss : Scope) → None ≡ base_of calls → new ≡ after_call calls
    → variables_with ls vs g (calls_at name new) ss ≡ left (variables_with ls vs g (calls_at name calls) ss)
left_top name calls new ls vs g ss e is =
    ap (λ items. variables_with ls vs g (calls_at name items) ss) (is ∙ no_more calls e) ∙ ap (λ cs. left (variables_with ls vs g cs ss)) (sym (no_calls name calls e))

-- ---- cells

pub cells_put : (xs : List Value) (c : ℕ) (v : Value) → map data_of (slice_set xs c v) ≡ slice_set (map data_of xs) c (data_of v)
cells_put [] c v = refl
cells_put (x ∷ xs) zero v = refl
cells_put (x ∷ xs) (suc c) v = ap (λ l. data_of x ∷ l) (cells_put xs c v)

pub cells_past : (xs : List Value) (c : ℕ) (d : Data) → length xs ≤ c → slice_set (map data_of xs) c d ≡ map data_of xs
cells_past [] c d h = refl
cells_past (x ∷ xs) zero d h = absurd (omega arith)
cells_past (x ∷ xs) (suc c) d h = ap (λ l. data_of x ∷ l) (cells_past xs c d (omega arith))

cells_same : (xs : List Value) (c : ℕ) → slice_set (map data_of xs) c (item_of c (map data_of xs)) ≡ map data_of xs
cells_same [] c = refl
cells_same (x ∷ xs) zero = refl
cells_same (x ∷ xs) (suc c) = ap (λ l. data_of x ∷ l) (cells_same xs c)

pub item_past : (xs : List Value) (c : ℕ) → length xs ≤ c → item_of c (map data_of xs) ≡ null
item_past [] c h = refl
item_past (x ∷ xs) zero h = absurd (omega arith)
item_past (x ∷ xs) (suc c) h = item_past xs c (omega arith)

pub item_there : (xs : List Value) (c : ℕ) (v d : Value) → c < length xs → v ≡ slice_index_or xs c d → item_of c (map data_of xs) ≡ data_of v
item_there [] c v d h e = absurd (omega arith)
item_there (x ∷ xs) zero v d h e = ap data_of (sym e)
item_there (x ∷ xs) (suc c) v d h e = item_there xs c v d (omega arith) e

-- what is made of a cell's value is made of the cells
pub cell_made : {C : Type 0} (r : Result C PlaceFault) (xs ys : List Value) (c : ℕ) (change : Data → Answer Data) (v w d : Value) → c < length xs → v ≡ slice_index_or xs c d → ys ≡ slice_set xs c w → Makes (change (data_of v)) (data_of v) (data_of w) r
    → Makes (when_ok (slice_set (map data_of xs) c) (change (item_of c (map data_of xs)))) (map data_of xs) (map data_of ys) r
cell_made r xs ys c change v w d long is out h =
    let at = item_there xs c v d long is in
    subst (λ x. Makes (when_ok (slice_set (map data_of xs) c) (change x)) (map data_of xs) (map data_of ys) r) (sym at)
    (makes_in r (change (data_of v)) (slice_set (map data_of xs) c) (data_of v) (data_of w) (map data_of xs) (map data_of ys) (ap (map data_of) out ∙ cells_put xs c w) (ap (slice_set (map data_of xs) c) (sym at) ∙ cells_same xs c) h)

pub past_made : {C : Type 0} (r : Result C PlaceFault) (xs : List Value) (c : ℕ) (change : Data → Answer Data) (v w : Value) → length xs ≤ c → data_of v ≡ null → Makes (change (data_of v)) (data_of v) (data_of w) r
    → Makes (when_ok (slice_set (map data_of xs) c) (change (item_of c (map data_of xs)))) (map data_of xs) (map data_of xs) r
past_made r xs c change v w past none h =
    let at = item_past xs c past ∙ sym none in
    subst (λ x. Makes (when_ok (slice_set (map data_of xs) c) (change x)) (map data_of xs) (map data_of xs) r) (sym at)
    (makes_in r (change (data_of v)) (slice_set (map data_of xs) c) (data_of v) (data_of w) (map data_of xs) (map data_of xs) (sym (cells_past xs c (data_of w) past)) (cells_past xs c (data_of v) past) h)

-- ---- results

pub when_done : {T E A B : Type 0} (r : Result T E) → (A → B) → OnOk r A → OnOk r B
when_done (Ok x) f h = f h
when_done (Err e) f h = h

pub when_given : {T E : Type 0} {P Q : T → Type 0} (r : Result T E) → ((x : T) → P x → Q x) → IfOk r P → IfOk r Q
when_given (Ok x) f h = f x h
when_given (Err e) f h = h

-- ---- places of variables

same_cell : (a b : Cell) → Some a ≡ Some b → b ≡ a
same_cell a b e = grind (arith, e)

pub place_found : (name : List ℕ) (path : List Step) (change : Data → Answer Data) (vs : Variables) (o : Option Binding) (cell : Cell) → o ≡ slot_of name vs → Some cell ≡ cell_held o → write_place name path change vs ≡ write_cell cell path change vs
place_found name path change vs None cell is some = search (rules, some)
place_found name path change vs (Some b) cell is some = ap (write_slot name path change vs) (sym is) ∙ ap (λ c. write_cell c path change vs) (same_cell cell (cell_in b) some)

pub place_new : (name : List ℕ) (path : List Step) (change : Data → Answer Data) (vs : Variables) (o : Option Binding) → o ≡ slot_of name vs → None ≡ cell_held o
    → write_place name path change vs ≡ when_ok (λ d. (new_cell name d vs).1) (write_at path change null)
place_new name path change vs None is none = ap (write_slot name path change vs) (sym is)
place_new name path change vs (Some b) is none = search (rules, none)

pub unset_found : (name : List ℕ) (path : List Step) (vs : Variables) (o : Option Binding) (cell : Cell) → o ≡ slot_of name vs → Some cell ≡ cell_held o → unset_place name path vs ≡ unset_cell cell path vs
unset_found name path vs None cell is some = search (rules, some)
unset_found name path vs (Some b) cell is some = ap (unset_slot path vs) (sym is) ∙ ap (λ c. unset_cell c path vs) (same_cell cell (cell_in b) some)
