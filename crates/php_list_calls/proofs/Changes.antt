-- Calls that change their first argument.
use Rattle.std.proofs.Common.{rules, ◌≡◌, ◌∙◌, ℕ, List, [], ◌∷◌, drop, Ok, Err, refl, sym, ◌≢◌}
use Rattle.php_values.specs.Data.{Data, null, truth, int, bytes, array, object, ArrayData}
use Rattle.php_arguments.specs.Answers.{CallAnswer, go_on}
use Rattle.php_arguments.specs.Arguments.{Two, AndMore, two, one_and_more, array_argument}
use Rattle.php_list_calls.specs.Firsts.{first_of, with_first, array_in}
use Rattle.std.proofs.Common.{length, Option, None, pos, ap, subst}
use Rattle.php_values.specs.declared.value.Value.{Value}
use Rattle.php_values.specs.Data.{array_pairs, count_of, data_of}
use Rattle.php_arguments.specs.declared.fault.CallFault.{CallFault}
use Rattle.php_arguments.specs.declared.fault.CallFault.TheVariants.{Memory}
use Rattle.php_list_calls.specs.Items.{with_values}
use Rattle.php_list_calls.specs.Ends.{lack, unless, pushed}
use Rattle.php_list_calls.specs.ListCalls.{Result, GivesValue, GivesAfter, ListAnswer, gives, size, only_array, array_push}

pub array-is : (d : Data) (a : ArrayData) → array_argument d ≡ Ok a → array_in d ≡ a
array-is null a e = absurd (cc)
array-is (truth b) a e = absurd (cc)
array-is (int n) a e = absurd (cc)
array-is (bytes t) a e = absurd (cc)
array-is (array b) a e = cc
array-is (object n) a e = absurd (cc)

ok-same : (d e : Data) → (let x : CallAnswer Data = Ok d in x) ≡ Ok e → d ≡ e
ok-same d e h = cc

ok-err : (d : Data) (f : CallFault) → (let x : CallAnswer Data = Ok d in x) ≡ Err f → ⊥
ok-err d f h = cc

-- a value that is given, and the arguments after it
pub given-after : (d : Data) (expected : CallAnswer ListAnswer) (old new : List Data) (r : Result Value CallFault) → GivesValue (Ok d) r → expected ≡ Ok (record { value = d; after = new }) → GivesAfter expected old new r
given-after d expected old new (Ok v) g e = e ∙ ap (λ d. Ok (record { value = d; after = new })) (ok-same d (data_of v) g)
given-after d expected old new (Err f) g e = λ known. absurd (ok-err d f (g known))

-- ---- values that are pushed

rest_or : CallAnswer AndMore → List Data → List Data
rest_or (Ok p) ds = p.rest
rest_or (Err f) ds = ds

first_or : CallAnswer AndMore → Data → Data
first_or (Ok p) d = p.first
first_or (Err f) d = d

more-is : (ds rest : List Data) (f : Data) → one_and_more ds ≡ Ok (record { first = f; rest = rest }) → ds ≡ f ∷ rest
unfolding rest_or first_or
more-is [] rest f e = absurd (cc)
more-is (x ∷ ds) rest f e = λ i. (ap (λ r. first_or r f) e i) ∷ (ap (λ r. rest_or r rest) e i)

pushes : (f : Data) (rest new : List Data) (a b : ArrayData) (k : ℕ) → array_argument f ≡ Ok a → None ≡ lack a k → k ≡ length rest → b ≡ with_values (array_in f) rest → new ≡ array b ∷ rest
    → array_push (f ∷ rest) ≡ Ok (record { value = size b; after = new })
pushes f rest new a b k is room few h n =
    let own : with_values a rest ≡ b = ap (λ a. with_values a rest) (sym (array-is f a is)) ∙ sym h in
    let fits : pushed a rest ≡ Ok b = ap (λ k. unless (lack a k) (with_values a rest)) (sym few) ∙ ap (λ o. unless o (with_values a rest)) (sym room) ∙ ap Ok own in
    ap (λ x. go_on x (λ a. go_on (pushed a rest) (λ b. Ok (gives (size b) b rest)))) is
    ∙ ap (λ x. go_on x (λ b. Ok (gives (size b) b rest))) fits
    ∙ ap (λ new. Ok (record { value = size b; after = new })) (sym n)

pub push-done : (ds rest more mid new : List Data) (f : Data) (a b c : ArrayData) (k n : ℕ) (r : Result Value CallFault) → one_and_more ds ≡ Ok (record { first = f; rest = rest }) → array_argument f ≡ Ok a
    → None ≡ lack a k → k ≡ length rest → c ≡ array_in (first_of ds) → mid ≡ with_first null ds → more ≡ drop 1 mid → b ≡ with_values c more → n ≡ count_of (array_pairs b) → new ≡ with_first (array b) mid
    → GivesValue (Ok (int (pos n))) r → GivesAfter (array_push ds) ds new r
push-done ds rest more mid new f a b c k n r e is room few own taken behind h count put g =
    let whole = more-is ds rest f e in
    let left : mid ≡ null ∷ rest = taken ∙ ap (with_first null) whole in
    let values : more ≡ rest = behind ∙ ap (drop 1) left in
    let made : b ≡ with_values (array_in f) rest = h ∙ (λ i. with_values ((own ∙ ap (λ ds. array_in (first_of ds)) whole) i) (values i)) in
    let after : new ≡ array b ∷ rest = put ∙ ap (with_first (array b)) left in
    given-after (int (pos n)) (array_push ds) ds new r g
    (ap array_push whole ∙ pushes f rest new a b k is room few made after ∙ ap (λ n. Ok (record { value = int (pos n); after = new })) (sym count))
