-- The variables of a run, over plain data: cells that last, cells of the calls, and names bound to cells.
use Rattle.std.specs.Prelude.{ℕ, List, [], ◌∷◌, ◌++◌, Bool, ◌||◌, length, take, slice_set, slice_index_or, codes, if◌then◌else◌}
use Rattle.std.specs.declared.option.Option.{Option}
use Rattle.std.specs.declared.option.Option.TheVariants.{Some, None}
use Rattle.std.specs.Str.{bytes_eq}
use Rattle.php_values.specs.Data.{Data, null}
use Rattle.php_world.specs.Answers.{Answer, when_ok}
use Rattle.php_world.specs.Steps.{Step, read_by}
use Rattle.php_world.specs.Places.{write_at, unset_at}
use Rattle.php_world.specs.declared.reading.Reading.{Reading}
use Rattle.php_world.specs.declared.reading.Reading.TheVariants.{Plain, Quiet}
use Rattle.php_world.specs.declared.cell.Cell.{Cell}
use Rattle.php_world.specs.declared.cell.Cell.TheVariants.{Lasting, Local}

-- what a name is bound to: a cell that no other name was ever bound to, or one that may have other names
pub data Binding : Type 0 where
  own : (cell : Cell) → Binding
  shared : (cell : Cell) → Binding

-- what the names of a scope are bound to
abbrev pub Scope : Type 0
Scope = List ℕ → Option Binding

-- a call that runs: its names, and how many local cells there were before it
pub record Call : Type 0 where
  pub scope : Scope
  pub base : ℕ

pub record Variables : Type 0 where
  -- what the cells of global and static variables hold
  pub lasting : List Data
  -- what the cells of the calls hold, the newest call last
  pub locals : List Data
  -- the names of the top level
  pub globals : Scope
  -- the calls that run, the newest first
  pub calls : List Call
  -- the cells of static variables, each under the text of its declaration
  pub statics : Scope

abbrev pub call_with : Scope → ℕ → Call
call_with scope base = record { scope = scope; base = base }

abbrev pub variables_with : List Data → List Data → Scope → List Call → Scope → Variables
variables_with ls vs gs cs ss = record { lasting = ls; locals = vs; globals = gs; calls = cs; statics = ss }

-- no name is bound
abbrev pub no_names : Scope
no_names name = None

-- the variables at a run's beginning
abbrev pub no_variables : Variables
no_variables = variables_with [] [] no_names [] no_names

-- a scope with another binding of a name, or without one
abbrev pub with_binding : List ℕ → Option Binding → Scope → Scope
with_binding name b scope = λ n. if bytes_eq name n then b else scope n

-- ---- cells

abbrev pub cell_in : Binding → Cell
cell_in (own cell) = cell
cell_in (shared cell) = cell

-- what a cell holds: null past the cells
abbrev pub item_of : ℕ → List Data → Data
item_of c cs = slice_index_or cs c null

abbrev pub cell_value : Cell → Variables → Data
cell_value (Lasting c) vs = item_of c vs.lasting
cell_value (Local c) vs = item_of c vs.locals

-- a cell holds another value: past the cells nothing changes
abbrev pub with_value : Cell → Data → Variables → Variables
with_value (Lasting c) d vs = record vs { lasting = slice_set vs.lasting c d }
with_value (Local c) d vs = record vs { locals = slice_set vs.locals c d }

-- ---- names

-- `_GET`, `_POST`, `_COOKIE`, `_REQUEST`, `_SERVER`, `_SESSION`: seen in every scope that binds them to nothing else
abbrev pub is_superglobal : List ℕ → Bool
is_superglobal name =
    bytes_eq name (codes "_GET") || bytes_eq name (codes "_POST") || bytes_eq name (codes "_COOKIE") || bytes_eq name (codes "_REQUEST") || bytes_eq name (codes "_SERVER")
    || bytes_eq name (codes "_SESSION")

-- the names of the code that runs
abbrev pub scope_of : Scope → List Call → Scope
scope_of globals [] = globals
scope_of globals (c ∷ cs) = c.scope

-- the first binding, if there is one, else another
abbrev pub or_else : Option Binding → Option Binding → Option Binding
or_else (Some b) other = Some b
or_else None other = other

abbrev pub superglobal : List ℕ → Variables → Option Binding
superglobal name vs = if is_superglobal name then vs.globals name else None

-- what a name is bound to
abbrev pub slot_of : List ℕ → Variables → Option Binding
slot_of name vs = or_else (scope_of vs.globals vs.calls name) (superglobal name vs)

abbrev pub with_global : List ℕ → Option Binding → Variables → Variables
with_global name b vs = record vs { globals = with_binding name b vs.globals }

-- a name of the code that runs is bound to something else, or to nothing
abbrev pub bind_in : List ℕ → Option Binding → List Call → Variables → Variables
bind_in name b [] vs = with_global name b vs
bind_in name b (c ∷ cs) vs = record vs { calls = call_with (with_binding name b c.scope) c.base ∷ cs }

abbrev pub rebound : List ℕ → Option Binding → Variables → Variables
rebound name b vs = bind_in name b vs.calls vs

-- a name for a cell that has another name: what a reference, a parameter, `global` and `static` do
abbrev pub bound : List ℕ → Cell → Variables → Variables
bound name cell vs = rebound name (Some (shared cell)) vs

-- ---- the cell of a name

-- a new cell of a global variable
abbrev pub new_global : List ℕ → Data → Variables → Cell × Variables
new_global name d vs = (Lasting (length vs.lasting), with_global name (Some (own (Lasting (length vs.lasting)))) (record vs { lasting = vs.lasting ++ d ∷ [] }))

-- a new cell of the call that runs
abbrev pub new_local : List ℕ → Data → Variables → Cell × Variables
new_local name d vs = (Local (length vs.locals), rebound name (Some (own (Local (length vs.locals)))) (record vs { locals = vs.locals ++ d ∷ [] }))

abbrev pub new_in : List ℕ → Data → List Call → Variables → Cell × Variables
new_in name d [] vs = new_global name d vs
new_in name d (c ∷ cs) vs = if is_superglobal name then new_global name d vs else new_local name d vs

-- a new cell for a name that has none
abbrev pub new_cell : List ℕ → Data → Variables → Cell × Variables
new_cell name d vs = new_in name d vs.calls vs

abbrev pub cell_if : List ℕ → Variables → Option Binding → Cell × Variables
cell_if name vs None = new_cell name null vs
cell_if name vs (Some b) = (cell_in b, vs)

-- the cell of a name, which is made for a name that has none
abbrev pub cell_of : List ℕ → Variables → Cell × Variables
cell_of name vs = cell_if name vs (slot_of name vs)

abbrev pub change_if : List ℕ → Option Binding → Variables → Option Binding → Variables
change_if name b vs None = with_global name b vs
change_if name b vs (Some old) = rebound name b vs

-- what a name is bound to is changed where it stands: in the scope, or, of a superglobal, among the globals
abbrev pub with_slot : List ℕ → Option Binding → Variables → Variables
with_slot name b vs = change_if name b vs (scope_of vs.globals vs.calls name)

abbrev pub share_found : List ℕ → Cell × Variables → Cell × Variables
share_found name found = (found.0, with_slot name (Some (shared found.0)) found.1)

-- the cell of a name, which gets another name
abbrev pub shared_cell : List ℕ → Variables → Cell × Variables
shared_cell name vs = share_found name (cell_of name vs)

abbrev pub refer_found : List ℕ → Cell × Variables → Variables
refer_found name found = bound name found.0 found.1

-- name =& other: both are names of one cell
abbrev pub referred : List ℕ → List ℕ → Variables → Variables
referred name other vs = refer_found name (shared_cell other vs)

abbrev pub global_if : List ℕ → Variables → Option Binding → Cell × Variables
global_if name vs None = new_global name null vs
global_if name vs (Some b) = (cell_in b, vs)

-- the cell of a global variable, which gets another name
abbrev pub share_global : List ℕ → Cell × Variables → Cell × Variables
share_global name found = (found.0, with_global name (Some (shared found.0)) found.1)

abbrev pub global_cell : List ℕ → Variables → Cell × Variables
global_cell name vs = share_global name (global_if name vs (vs.globals name))

-- `global name`: it is a name of the global variable's cell
abbrev pub global_named : List ℕ → Variables → Variables
global_named name vs = refer_found name (global_cell name vs)

-- the cell of a static variable, by the text of its declaration, if it was used before
abbrev pub cell_held : Option Binding → Option Cell
cell_held None = None
cell_held (Some b) = Some (cell_in b)

abbrev pub static_cell : List ℕ → Variables → Option Cell
static_cell key vs = cell_held (vs.statics key)

-- its first use: a new cell with its first value
abbrev pub with_static : List ℕ → Data → Variables → Cell × Variables
with_static key d vs = (Lasting (length vs.lasting), record vs { lasting = vs.lasting ++ d ∷ []; statics = with_binding key (Some (shared (Lasting (length vs.lasting)))) vs.statics })

-- ---- calls

-- a call begins with no name bound
abbrev pub entered : Variables → Variables
entered vs = record vs { calls = call_with no_names (length vs.locals) ∷ vs.calls }

abbrev pub leave_in : List Call → Variables → Variables
leave_in [] vs = vs
leave_in (c ∷ cs) vs = record vs { locals = take c.base vs.locals; calls = cs }

-- a call ends: its cells are gone, and the caller's names are back
abbrev pub left : Variables → Variables
left vs = leave_in vs.calls vs

-- ---- places

abbrev pub value_if : Variables → Option Binding → Data
value_if vs None = null
value_if vs (Some b) = cell_value (cell_in b) vs

-- what a variable holds: null where it has no cell
abbrev pub value_of : List ℕ → Variables → Data
value_of name vs = value_if vs (slot_of name vs)

abbrev pub place_by : Reading → List ℕ → List Step → Variables → Answer Data
place_by how name path vs = read_by how path (value_of name vs)

abbrev pub read_place : List ℕ → List Step → Variables → Answer Data
read_place = place_by Plain

abbrev pub quiet_place : List ℕ → List Step → Variables → Answer Data
quiet_place = place_by Quiet

-- a change of what a cell holds, along a path
abbrev pub write_cell : Cell → List Step → (Data → Answer Data) → Variables → Answer Variables
write_cell cell path change vs = when_ok (λ d. with_value cell d vs) (write_at path change (cell_value cell vs))

abbrev pub write_slot : List ℕ → List Step → (Data → Answer Data) → Variables → Option Binding → Answer Variables
write_slot name path change vs None = when_ok (λ d. (new_cell name d vs).1) (write_at path change null)
write_slot name path change vs (Some b) = write_cell (cell_in b) path change vs

-- the variables after a change of a place; a variable that has no cell gets one where it is written
abbrev pub write_place : List ℕ → List Step → (Data → Answer Data) → Variables → Answer Variables
write_place name path change vs = write_slot name path change vs (slot_of name vs)

-- a variable is unset: the name is bound to nothing, and a cell that has no other name holds null
abbrev pub unset_binding : List ℕ → Variables → Option Binding → Variables
unset_binding name vs None = vs
unset_binding name vs (Some (own cell)) = with_value cell null vs
unset_binding name vs (Some (shared cell)) = with_slot name None vs

abbrev pub unset_variable : List ℕ → Variables → Variables
unset_variable name vs = unset_binding name vs (slot_of name vs)

abbrev pub unset_cell : Cell → List Step → Variables → Answer Variables
unset_cell cell path vs = when_ok (λ d. with_value cell d vs) (unset_at path (cell_value cell vs))

abbrev pub unset_slot : List Step → Variables → Option Binding → Answer Variables
unset_slot path vs None = when_ok (λ d. vs) (unset_at path null)
unset_slot path vs (Some b) = unset_cell (cell_in b) path vs

-- the variables after `unset` of a place within one
abbrev pub unset_place : List ℕ → List Step → Variables → Answer Variables
unset_place name path vs = unset_slot path vs (slot_of name vs)
