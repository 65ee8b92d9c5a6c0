-- The world in which a run begins.
use Rattle.std.proofs.Common.{◌≡◌, ℕ, zero, suc, ◌<◌, List, [], ◌∷◌, map, take, slice_get, codes, refl, sym, ap, subst, ◌∙◌, arith}
use Rattle.std.proofs.lemmas.Option.{slice_get-map}
use Rattle.std.specs.Option.{option_map}
use Rattle.std.specs.declared.option.Option.{Option}
use Rattle.std.specs.declared.option.Option.TheVariants.{Some, None}
use Rattle.app_load.specs.Entries.{file}
use Rattle.php_tables.specs.Functions.{functions_of}
use Rattle.php_tables.specs.declared.functions.Functions.{Functions}
use Rattle.php_tree.specs.declared.name.VarName.{VarName}
use Rattle.php_values.specs.Data.{data_of}
use Rattle.php_values.specs.declared.value.ArrayValue.{ArrayValue}
use Rattle.php_values.specs.declared.value.Value.{Value}
use Rattle.php_values.specs.declared.value.Value.TheVariants as value
use Rattle.php_values.proofs.Datas.{data-List}
use Rattle.php_world.specs.Naming.{Naming}
use Rattle.php_world.specs.Variables.{Variables, no_variables}
use Rattle.php_meaning.specs.Calls.{assigned}
use Rattle.php_meaning.specs.Course.{Course, Enters}
use Rattle.php_meaning.specs.Run.{Look, run}
use Rattle.php_meaning.specs.RunResult.{result_of}
use Rattle.php_meaning.specs.Trace.{opening_variables, opening_world, trace_by, finish}
use Rattle.php_rest.specs.Rest.{rest}
use Rattle.php_rest.specs.Views.{function_named}
use Rattle.php_rest.specs.declared.frame.Frame.{Frame}
use Rattle.php_state.specs.Fits.{Fits}
use Rattle.php_state.specs.Linked.{IsLinked, text_of_name, superglobals}
use Rattle.php_state.specs.Views.{constant_of, world_of}
use Rattle.php_state.specs.declared.program.Program.{Program}
use Rattle.php_state.specs.declared.state.State.{State}
use Rattle.php_tally.specs.Comes.{comes_to}
use Rattle.php_tally.specs.declared.tally.Tally.{Tally}
use Rattle.php_machine.specs.Opening.{opened_store, opened_world, input_of}
use Rattle.php_machine.specs.declared.opening.Input as code

-- ---- the state

pub opens : (t : Naming) (vars : Variables) (script : List ℕ) (files : List (List ℕ)) (fs : Functions) (cs : List (List ℕ × Value)) (es : List (List ℕ)) → functions_of fs ≡ [] → cs ≡ [] → es ≡ script ∷ []
    → (record { vars = vars; context = record { owner = file script; gives = None; depth = 0 }; at = record { file = script; line = 1 }; functions = map (function_named t) (functions_of fs); constants = map constant_of cs; entered = es; printed = 0; script = script; files = files }) ≡ opened_world vars script files
opens t vars script files fs cs es f g h = λ i. record { vars = vars; context = record { owner = file script; gives = None; depth = 0 }; at = record { file = script; line = 1 }; functions = map (function_named t) (f i); constants = map constant_of (g i); entered = h i; printed = 0; script = script; files = files }

-- ---- the superglobals

take_get : (n k : ℕ) (xs : List (List ℕ)) → k < n → slice_get (take n xs) k ≡ slice_get xs k
take_get zero k xs below = absurd (omega arith)
take_get (suc n) k [] below = refl
take_get (suc n) zero (x ∷ xs) below = refl
take_get (suc n) (suc k) (x ∷ xs) below = take_get n k xs (omega arith)

or_it : List ℕ → Option (List ℕ) → List ℕ
or_it x None = x
or_it x (Some y) = y

some_same : (x y : List ℕ) → Some x ≡ Some y → x ≡ y
unfolding or_it
some_same x y e = ap (or_it x) e

module _ (t : Naming) (s : State) (linked : IsLinked s.program.now) (fits : Fits t s) where
  name_by : (k : ℕ) (text : List ℕ) (o : Option VarName) → slice_get s.program.now.names k ≡ o → option_map text_of_name o ≡ Some text → t.name k ≡ text
  name_by k text None e g = absurd cc
  name_by k text (Some x) e g = fits.names_are k x e ∙ some_same x.text text g

  named_at : (k : ℕ) (text : List ℕ) → k < 6 → slice_get superglobals k ≡ Some text → t.name k ≡ text
  named_at k text below e = name_by k text (slice_get s.program.now.names k) refl
      (sym (slice_get-map text_of_name s.program.now.names k) ∙ sym (take_get 6 k (map text_of_name s.program.now.names) below) ∙ ap (λ l. slice_get l k) linked.names_begin ∙ e)

  store_opens : (i : code.Input) → opened_store t i.get i.post i.cookie i.request i.server ≡ opening_variables (input_of i)
  store_opens i =
      let n0 : t.name 0 ≡ codes "_GET" = named_at 0 (codes "_GET") (omega arith) refl in
      let n1 : t.name 1 ≡ codes "_POST" = named_at 1 (codes "_POST") (omega arith) refl in
      let n2 : t.name 2 ≡ codes "_COOKIE" = named_at 2 (codes "_COOKIE") (omega arith) refl in
      let n3 : t.name 3 ≡ codes "_REQUEST" = named_at 3 (codes "_REQUEST") (omega arith) refl in
      let n4 : t.name 4 ≡ codes "_SERVER" = named_at 4 (codes "_SERVER") (omega arith) refl in
      λ j. assigned (n4 j) (data-List i.server j) (assigned (n3 j) (data-List i.request j) (assigned (n2 j) (data-List i.cookie j) (assigned (n1 j) (data-List i.post j) (assigned (n0 j) (data-List i.get j) no_variables))))

  -- what a run comes to that begins
  pub begins : (look : Look) (y : Tally) (stack : List Frame) (i : code.Input) (budget : ℕ) (vars : Variables) → stack ≡ [] → ((l : Look) (c : Course) → comes_to l y c ≡ result_of (run l budget c))
      → vars ≡ opened_store t i.get i.post i.cookie i.request i.server → world_of t s ≡ opened_world vars i.script.now s.program.now.paths
      → comes_to look y (Enters (file i.script.now) (world_of t s) (rest t stack finish)) ≡ result_of (trace_by look s.program.now.paths (input_of i) budget)
  begins look y stack i budget vars none law store world =
      ap (λ fs. comes_to look y (Enters (file i.script.now) (world_of t s) (rest t fs finish))) none
      ∙ ap (λ w. comes_to look y (Enters (file i.script.now) w finish)) (world ∙ ap (λ v. opened_world v i.script.now s.program.now.paths) (store ∙ store_opens i))
      ∙ law look (Enters (file i.script.now) (opening_world (input_of i) s.program.now.paths) finish)

pub begins_at : (t : Naming) (s : State) (p : Program) → s.program.now ≡ p → IsLinked p → Fits t s → (look : Look) (y : Tally) (stack : List Frame) (i : code.Input) (budget : ℕ) (vars : Variables) → stack ≡ []
    → ((l : Look) (c : Course) → comes_to l y c ≡ result_of (run l budget c)) → vars ≡ opened_store t i.get i.post i.cookie i.request i.server → world_of t s ≡ opened_world vars i.script.now p.paths
    → comes_to look y (Enters (file i.script.now) (world_of t s) (rest t stack finish)) ≡ result_of (trace_by look p.paths (input_of i) budget)
begins_at t s p e linked fits look y stack i budget vars none law store world =
    subst (λ q. IsLinked q → world_of t s ≡ opened_world vars i.script.now q.paths → comes_to look y (Enters (file i.script.now) (world_of t s) (rest t stack finish)) ≡ result_of (trace_by look q.paths (input_of i) budget)) e
    (λ l w. begins t s l fits look y stack i budget vars none law store w) linked world

-- five variables, one after another
pub five_set : (t : Naming) (get post cookie request server : ArrayValue) (v0 v1 v2 v3 v4 v5 : Variables) → v0 ≡ no_variables
    → v1 ≡ assigned (t.name 0) (data_of (value.List get)) v0 → v2 ≡ assigned (t.name 1) (data_of (value.List post)) v1 → v3 ≡ assigned (t.name 2) (data_of (value.List cookie)) v2
    → v4 ≡ assigned (t.name 3) (data_of (value.List request)) v3 → v5 ≡ assigned (t.name 4) (data_of (value.List server)) v4 → v5 ≡ opened_store t get post cookie request server
five_set t get post cookie request server v0 v1 v2 v3 v4 v5 e0 e1 e2 e3 e4 e5 =
    e5 ∙ ap (assigned (t.name 4) (data_of (value.List server))) (e4 ∙ ap (assigned (t.name 3) (data_of (value.List request))) (e3 ∙ ap (assigned (t.name 2) (data_of (value.List cookie)))
    (e2 ∙ ap (assigned (t.name 1) (data_of (value.List post))) (e1 ∙ ap (assigned (t.name 0) (data_of (value.List get))) e0))))
