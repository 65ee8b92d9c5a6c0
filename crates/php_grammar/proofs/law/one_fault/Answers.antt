use Rattle.php_grammar.proofs.Single.{one_place, one_kind}
use Rattle.php_grammar.proofs.law.one_fault.Goals as goal

pub returns : goal.returns
returns c = record {
  place = λ ts m n i j. one_place ts m n c.args.fault c.args.other i j;
  kind = λ ts m n i j. one_kind ts m n c.args.fault c.args.other i j;
}
