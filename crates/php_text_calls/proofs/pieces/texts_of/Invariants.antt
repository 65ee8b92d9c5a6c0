use Rattle.std.proofs.Common.{◌≡◌, ◌++◌, List, drop}
use Rattle.order_map.specs.Arrays.{pairs_of, place_of}
use Rattle.php_values.specs.Data.{data_pairs}
use Rattle.php_arguments.specs.Answers.{Ok, go_on}
use Rattle.php_text_calls.specs.Pieces.{texts_of}
use Rattle.php_text_calls.proofs.pieces.texts_of.Given as goal

abbrev pub invariant-loop-number : goal.invariant-loop-number
invariant-loop-number l = record {
  place : l.place ≡ place_of l.array l.number;
  rest : go_on (texts_of (data_pairs (drop l.number (pairs_of l.array)))) (λ ts. Ok (l.texts.items ++ ts)) ≡ texts_of (data_pairs (pairs_of l.array));
}
