use Rattle.std.proofs.Common.{◌∙◌, ap, option_map}
use Rattle.order_map.specs.Arrays.{pairs_of}
use Rattle.php_values.specs.Data.{data_of}
use Rattle.php_values.proofs.Datas.{look-data}
use Rattle.php_values.proofs.Meetings.{optional-copied}
use Rattle.php_values.proofs.beside.Beside.next.Goals as goal

pub returns-clause-found : goal.returns-clause-found
returns-clause-found c =
    optional-copied c.get-other.result ∙ ap (option_map data_of) c.get-other.ensures ∙ look-data c.in-Some.key.now (pairs_of c.args.self.now.right.now)
