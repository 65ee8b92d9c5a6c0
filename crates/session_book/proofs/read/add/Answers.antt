use Rattle.std.proofs.Common.{◌∙◌, ap}
use Rattle.order_map.specs.Arrays.{pairs_of}
use Rattle.php_values.specs.Data.{data_pairs}
use Rattle.php_values.proofs.Datas.{put-missing, data_pairs-push}
use Rattle.session_book.proofs.read.add.Goals as goal

pub returns-clause-pairs : goal.returns-clause-pairs
returns-clause-pairs c =
    let ps = pairs_of c.args.map.now in
    ap data_pairs (c.in_ok-set.ensures.pairs ∙ put-missing c.args.key c.args.value ps c.requires.free) ∙ data_pairs-push ps c.args.key c.args.value
