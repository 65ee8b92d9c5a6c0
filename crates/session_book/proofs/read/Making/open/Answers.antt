use Rattle.session_book.proofs.Making.{list-opened}
use Rattle.std.proofs.Common.{◌∙◌, ap}
use Rattle.order_map.specs.Arrays.{pairs_of, next_of}
use Rattle.php_values.specs.Data.{data_pairs}
use Rattle.session_book.proofs.read.Making.open.Goals as goal

pub returns : goal.returns
returns c pss =
    list-opened c.args.self.now (record { above = c.push.new.self; map = c.replace-outer.new.dest }) (record { map = c.replace-outer.result; key = c.args.key }) c.args.next
    c.in_ok-push.ensures.items c.replace-outer.ensures.value
    (ap (λ m. data_pairs (pairs_of m)) c.replace-outer.ensures.after ∙ c.empty.ensures.pairs) (ap next_of c.replace-outer.ensures.after ∙ c.empty.ensures.next) pss
