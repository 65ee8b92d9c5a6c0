use Rattle.std.proofs.Common.{◌≡◌, ◌∙◌, true, refl, sym, ap, is_some}
use Rattle.std.specs.List.{list_all}
use Rattle.std.specs.Ordering.{is_lt, int_cmp, nat_cmp}
use Rattle.std.specs.Cmp.Lexicographic.{slice_cmp}
use Rattle.php_values.specs.Data.{int}
use Rattle.php_arguments.specs.Answers.{Ok}
use Rattle.php_list_calls.specs.Pairs.{lent_items}
use Rattle.php_list_calls.specs.Orders.{ranked_by, is_number, is_word}
use Rattle.php_list_calls.specs.Ranks.{text_data}
use Rattle.php_list_calls.proofs.Orders.{numbers-in-order, words-in-order, ordered}
use Rattle.php_list_calls.proofs.order.in_order.Goals as goal

pub returns-in-Some-clause-ok : goal.returns-in-Some-clause-ok
returns-in-Some-clause-ok c =
    let es = lent_items c.args.pairs.now in
    let all : list_all (λ e. is_number (ranked_by c.args.part e)) es ≡ true = sym c.in_ok-ranked.ensures.all ∙ ap is_some c.in-Some.is in
    let ranked = rw c.in-Some.is at c.in_ok-ranked.ensures.ranked in
    numbers-in-order c.args.way c.args.part es all
    ∙ ap Ok (sym (ap lent_items c.in_ok-sorted.ensures ∙ ordered int (λ x y. is_lt (int_cmp x y)) (λ x y. refl) c.args.way c.args.part es c.in-Some.ranked.items ranked))

pub returns-in-Some-2-clause-ok : goal.returns-in-Some-2-clause-ok
returns-in-Some-2-clause-ok c =
    let es = lent_items c.args.pairs.now in
    let all : list_all (λ e. is_word (ranked_by c.args.part e)) es ≡ true = sym c.in_ok-ranked-2.ensures.all ∙ ap is_some c.in-Some-2.is in
    let ranked = rw c.in-Some-2.is at c.in_ok-ranked-2.ensures.ranked in
    words-in-order c.args.way c.args.part es all
    ∙ ap Ok (sym (ap lent_items c.in_ok-sorted-2.ensures ∙ ordered text_data (λ x y. is_lt (slice_cmp nat_cmp x.now y.now)) (λ x y. refl) c.args.way c.args.part es c.in-Some-2.ranked.items ranked))
