-- Values of arguments, one after another.
use Rattle.std.proofs.Common.{◌≡◌, ℕ, zero, suc, ◌+◌, ◌<◌, ◌≤◌, List, [], ◌∷◌, ◌++◌, length, map, take, get_or, add-one, sym, ap, ◌∙◌, arith}
use Rattle.std.proofs.lemmas.List.{map-append, take_all}
use Rattle.php_values.specs.declared.value.Value.{Value}
use Rattle.php_values.specs.Data.{data_of}
use Rattle.php_world.specs.Naming.{Naming}
use Rattle.php_world.specs.Variables.{Variables}
use Rattle.php_arguments.specs.Answers.{datas}
use Rattle.php_meaning.specs.Calls.{argument_value, argument_values}
use Rattle.php_rest.specs.Views.{argument_named, arguments_named}
use Rattle.php_rest.specs.declared.call_frame.Argument.{Argument}

last_of_taken : {A B C : Type 0} (f : B → C) (g : A → B) (xs : List A) (n : ℕ) (a : A) → n < length xs → a ≡ get_or xs n a
    → map f (map g (take (suc n) xs)) ≡ map f (map g (take n xs)) ++ f (g a) ∷ []
last_of_taken f g [] n a less is = absurd (omega arith)
last_of_taken f g (x ∷ xs) zero a less is = ap (λ b. f (g b) ∷ []) (sym is)
last_of_taken f g (x ∷ xs) (suc n) a less is = ap (λ l. f (g x) ∷ l) (last_of_taken f g xs n a (omega arith) is)

-- the values of one argument more
pub one_more : (t : Naming) (vs : Variables) (xs : List Argument) (n : ℕ) (a : Argument) (old new : List Value) (v : Value)
    → n < length xs → a ≡ get_or xs n a → datas old ≡ argument_values vs (arguments_named t (take n xs)) → new ≡ old ++ v ∷ [] → data_of v ≡ argument_value vs (argument_named t a)
    → datas new ≡ argument_values vs (arguments_named t (take (n + 1) xs))
one_more t vs xs n a old new v less is e push value =
    ap datas push ∙ map-append data_of old (v ∷ [])
    ∙ (λ i. e i ++ value i ∷ [])
    ∙ sym (last_of_taken (argument_value vs) (argument_named t) xs n a less is)
    ∙ ap (λ m. argument_values vs (arguments_named t (take m xs))) (sym (add-one n))

-- the values of them all
pub all_taken : (t : Naming) (vs : Variables) (xs : List Argument) (n : ℕ) (values : List Value)
    → length xs ≤ n → datas values ≡ argument_values vs (arguments_named t (take n xs)) → datas values ≡ argument_values vs (arguments_named t xs)
all_taken t vs xs n values past e = e ∙ ap (λ l. argument_values vs (arguments_named t l)) (take_all n xs past)
