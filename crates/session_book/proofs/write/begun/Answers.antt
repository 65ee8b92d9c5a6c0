use Rattle.std.proofs.Common.{ap, sym, subst, [], ◌∷◌}
use Rattle.php_values.specs.Data.{array, data_pairs, array_of}
use Rattle.session_book.specs.declared.mark.Mark.TheVariants.{Open}
use Rattle.session_book.specs.Kept.{kept_pairs, kept_array}
use Rattle.session_book.specs.Marks.{key_data, with_list}
use Rattle.session_book.specs.Steps.{Adds}
use Rattle.session_book.proofs.Writing.{adds-list}
use Rattle.session_book.proofs.write.begun.Goals as goal

pub returns : goal.returns
returns c =
    let key = key_data c.args.key in
    let map = c.args.map.now in
    subst (λ ps. Adds key (array (kept_array (array_of map))) (Open c.args.key c.next_number-next.result) (kept_pairs (data_pairs ps) ∷ [])) (sym c.new.ensures)
    (adds-list key map (Open c.args.key c.next_number-next.result) c.len-pairs.ensures.array (λ pss. ap (λ n. with_list key n pss) c.next_number-next.ensures))
