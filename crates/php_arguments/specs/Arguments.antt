-- The arguments of a library call: how many it takes, and what it takes each one for.
use Rattle.std.specs.Prelude.{List, [], ◌∷◌, ◌≡◌, ◌≢◌, ℤ, ℕ, Option}
use Rattle.std.specs.declared.option.Option.TheVariants.{Some, None}
use Rattle.std.specs.Option.{option_map}
use Rattle.std.specs.Borrow.{Bor}
use Rattle.php_values.specs.declared.value.Value.{Value}
use Rattle.php_values.specs.Data.{Data, null, truth, int, bytes, array, object, ArrayData, data_of}
use Rattle.php_values.specs.Convert.{text_of, int_of}
use Rattle.php_arguments.specs.declared.fault.CallFault.{CallFault}
use Rattle.php_arguments.specs.declared.fault.CallFault.TheVariants.{Arity, Mistyped, Memory}
use Rattle.php_arguments.specs.Answers.{CallAnswer, Result, Ok, Err, as_call, go_on, datas}

-- ---- how many

-- exactly one argument, two, or three; any other count is the fault `Arity`
abbrev pub one : List Data → CallAnswer Data
one [] = Err Arity
one (a ∷ []) = Ok a
one (a ∷ b ∷ rest) = Err Arity

pub record Two : Type 0 where
  pub first : Data
  pub second : Data

abbrev pub two : List Data → CallAnswer Two
two [] = Err Arity
two (a ∷ []) = Err Arity
two (a ∷ b ∷ []) = Ok (record { first = a; second = b })
two (a ∷ b ∷ c ∷ rest) = Err Arity

pub record Three : Type 0 where
  pub first : Data
  pub second : Data
  pub third : Data

abbrev pub three : List Data → CallAnswer Three
three [] = Err Arity
three (a ∷ []) = Err Arity
three (a ∷ b ∷ []) = Err Arity
three (a ∷ b ∷ c ∷ []) = Ok (record { first = a; second = b; third = c })
three (a ∷ b ∷ c ∷ d ∷ rest) = Err Arity

-- one argument, and a second that may be left out
pub record OneMore : Type 0 where
  pub first : Data
  pub second : Option Data

abbrev pub one_or_two : List Data → CallAnswer OneMore
one_or_two [] = Err Arity
one_or_two (a ∷ []) = Ok (record { first = a; second = None })
one_or_two (a ∷ b ∷ []) = Ok (record { first = a; second = Some b })
one_or_two (a ∷ b ∷ c ∷ rest) = Err Arity

-- two arguments, and a third that may be left out
pub record TwoMore : Type 0 where
  pub first : Data
  pub second : Data
  pub third : Option Data

abbrev pub two_or_three : List Data → CallAnswer TwoMore
two_or_three [] = Err Arity
two_or_three (a ∷ []) = Err Arity
two_or_three (a ∷ b ∷ []) = Ok (record { first = a; second = b; third = None })
two_or_three (a ∷ b ∷ c ∷ []) = Ok (record { first = a; second = b; third = Some c })
two_or_three (a ∷ b ∷ c ∷ d ∷ rest) = Err Arity

-- two arguments, and two that may be left out, the last one first
pub record TwoToFour : Type 0 where
  pub first : Data
  pub second : Data
  pub third : Option Data
  pub fourth : Option Data

abbrev pub two_to_four : List Data → CallAnswer TwoToFour
two_to_four [] = Err Arity
two_to_four (a ∷ []) = Err Arity
two_to_four (a ∷ b ∷ []) = Ok (record { first = a; second = b; third = None; fourth = None })
two_to_four (a ∷ b ∷ c ∷ []) = Ok (record { first = a; second = b; third = Some c; fourth = None })
two_to_four (a ∷ b ∷ c ∷ d ∷ []) = Ok (record { first = a; second = b; third = Some c; fourth = Some d })
two_to_four (a ∷ b ∷ c ∷ d ∷ e ∷ rest) = Err Arity

-- one argument, and any number of further ones
pub record AndMore : Type 0 where
  pub first : Data
  pub rest : List Data

abbrev pub one_and_more : List Data → CallAnswer AndMore
one_and_more [] = Err Arity
one_and_more (a ∷ rest) = Ok (record { first = a; rest = rest })

-- ---- what for

-- a text: the table of conversions to a text, but no array and no object
abbrev pub text_argument : Data → CallAnswer (List ℕ)
text_argument null = as_call (text_of null)
text_argument (truth b) = as_call (text_of (truth b))
text_argument (int n) = as_call (text_of (int n))
text_argument (bytes t) = as_call (text_of (bytes t))
text_argument (array a) = Err Mistyped
text_argument (object n) = Err Mistyped

-- a number: the table of conversions to a number, but no array and no object; a text of float form is the fault `Float`
abbrev pub int_argument : Data → CallAnswer ℤ
int_argument null = as_call (int_of null)
int_argument (truth b) = as_call (int_of (truth b))
int_argument (int n) = as_call (int_of (int n))
int_argument (bytes t) = as_call (int_of (bytes t))
int_argument (array a) = Err Mistyped
int_argument (object n) = Err Mistyped

-- an array
abbrev pub array_argument : Data → CallAnswer ArrayData
array_argument null = Err Mistyped
array_argument (truth b) = Err Mistyped
array_argument (int n) = Err Mistyped
array_argument (bytes t) = Err Mistyped
array_argument (array a) = Ok a
array_argument (object n) = Err Mistyped

-- any value by the table of conversions to a text, or to a number, where no object is taken
abbrev pub text_row : Data → CallAnswer (List ℕ)
text_row d = as_call (text_of d)

abbrev pub int_row : Data → CallAnswer ℤ
int_row d = as_call (int_of d)

-- a number, or what stands for it where it is left out
abbrev pub int_or : ℤ → Option Data → CallAnswer ℤ
int_or n None = Ok n
int_or n (Some d) = int_argument d

-- a number, if it is not left out
abbrev pub int_if_given : Option Data → CallAnswer (Option ℤ)
int_if_given None = Ok None
int_if_given (Some d) = go_on (int_argument d) (λ n. Ok (Some n))

-- a text, or what stands for it where it is left out
abbrev pub text_or : List ℕ → Option Data → CallAnswer (List ℕ)
text_or t None = Ok t
text_or t (Some d) = text_argument d

-- ---- what calls that lend arguments answer

abbrev pub optional : Option (Bor Value) → Option Data
optional None = None
optional (Some v) = Some (data_of v.now)

abbrev pub GivesOne : CallAnswer Data → Result (Bor Value) CallFault → Type 0
GivesOne expected (Ok v) = expected ≡ Ok (data_of v.now)
GivesOne expected (Err f) = f ≢ Memory → expected ≡ Err f

abbrev pub GivesTwo : CallAnswer Two → Result (Bor Value × Bor Value) CallFault → Type 0
GivesTwo expected (Ok p) = expected ≡ Ok (record { first = data_of p.0.now; second = data_of p.1.now })
GivesTwo expected (Err f) = f ≢ Memory → expected ≡ Err f

abbrev pub GivesThree : CallAnswer Three → Result (Bor Value × Bor Value × Bor Value) CallFault → Type 0
GivesThree expected (Ok p) = expected ≡ Ok (record { first = data_of p.0.now; second = data_of p.1.now; third = data_of p.2.now })
GivesThree expected (Err f) = f ≢ Memory → expected ≡ Err f

abbrev pub GivesOneMore : CallAnswer OneMore → Result (Bor Value × Option (Bor Value)) CallFault → Type 0
GivesOneMore expected (Ok p) = expected ≡ Ok (record { first = data_of p.0.now; second = optional p.1 })
GivesOneMore expected (Err f) = f ≢ Memory → expected ≡ Err f

abbrev pub GivesTwoMore : CallAnswer TwoMore → Result (Bor Value × Bor Value × Option (Bor Value)) CallFault → Type 0
GivesTwoMore expected (Ok p) = expected ≡ Ok (record { first = data_of p.0.now; second = data_of p.1.now; third = optional p.2 })
GivesTwoMore expected (Err f) = f ≢ Memory → expected ≡ Err f

abbrev pub GivesTwoToFour : CallAnswer TwoToFour → Result (Bor Value × Bor Value × Option (Bor Value) × Option (Bor Value)) CallFault → Type 0
GivesTwoToFour expected (Ok p) = expected ≡ Ok (record { first = data_of p.0.now; second = data_of p.1.now; third = optional p.2; fourth = optional p.3 })
GivesTwoToFour expected (Err f) = f ≢ Memory → expected ≡ Err f

abbrev pub GivesAndMore : CallAnswer AndMore → Result (Bor Value × Bor (List Value)) CallFault → Type 0
GivesAndMore expected (Ok p) = expected ≡ Ok (record { first = data_of p.0.now; rest = datas p.1.now })
GivesAndMore expected (Err f) = f ≢ Memory → expected ≡ Err f
