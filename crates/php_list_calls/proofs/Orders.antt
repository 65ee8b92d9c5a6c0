-- Pairs that are sorted by what was taken out of them.
use Rattle.std.proofs.Common.{rules, ◌≡◌, ◌∙◌, ℕ, ℤ, Bool, true, false, not, ◌&&◌, ◌||◌, List, [], ◌∷◌, ◌++◌, map, Option, Some, None, is_some, Bor, Ok, Err, refl, sym, ap, if◌then◌else◌, append_assoc, append-nil}
use Rattle.std.specs.List.{list_all}
use Rattle.stable_sort.specs.declared.Ranked.{Ranked}
use Rattle.stable_sort.specs.Sorting.{sort_by}
use Rattle.stable_sort.proofs.Mapped.{sort-map}
use Rattle.php_values.specs.Data.{Data, null, truth, int, bytes, array, object}
use Rattle.php_values.specs.Convert.{is_numeric}
use Rattle.php_arguments.specs.declared.fault.CallFault.TheVariants.{Sort}
use Rattle.php_list_calls.specs.declared.pairs.Pair.{Pair}
use Rattle.php_list_calls.specs.declared.order.Part.{Part}
use Rattle.php_list_calls.specs.declared.order.Way.{Way}
use Rattle.php_list_calls.specs.declared.order.Way.TheVariants.{Rising, Falling}
use Rattle.php_list_calls.specs.Items.{Item}
use Rattle.php_list_calls.specs.Pairs.{lent_item, lent_items}
use Rattle.php_list_calls.specs.Orders.{ranked_by, is_number, is_word, less, before, in_order}
use Rattle.php_list_calls.specs.Ranks.{number_in, word, word_in, lent, with_ranks, ranked_items, text_data, earlier}

-- ---- what a value is sorted by

-- ---- pairs that get their ranks one by one

-- whether all items of pairs pass a test of what they are sorted by
abbrev pub all_pass : (Data → Bool) → Part → List Pair → Bool
all_pass test part ps = list_all (λ e. test (ranked_by part e)) (lent_items ps)

-- ---- what is sorted

abbrev rank_less : Way → Data × Item → Data × Item → Bool
rank_less Rising p q = less p.0 q.0
rank_less Falling p q = less q.0 p.0

seconds : {K : Type 0} (rank : K → Data) (rs : List (Ranked K Pair)) → lent_items (map (λ r. r.thing) rs) ≡ map (λ p. p.1) (with_ranks rank rs)
seconds rank [] = refl
seconds rank (r ∷ rs) = ap (λ l. lent_item r.thing ∷ l) (seconds rank rs)

second-items : (part : Part) (es : List Item) → map (λ p. p.1) (ranked_items part es) ≡ es
second-items part [] = refl
second-items part (e ∷ es) = ap (λ l. e ∷ l) (second-items part es)

same-ranks : {K : Type 0} (rank : K → Data) (lt : K → K → Bool) → ((x y : K) → less (rank x) (rank y) ≡ lt x y) → (way : Way) (x y : Ranked K Pair)
    → earlier lt way x y ≡ rank_less way (rank x.rank, lent_item x.thing) (rank y.rank, lent_item y.thing)
same-ranks rank lt h Rising x y = sym (h x.rank y.rank)
same-ranks rank lt h Falling x y = sym (h y.rank x.rank)

same-items : (way : Way) (part : Part) (x y : Item) → before way part x y ≡ rank_less way (ranked_by part x, x) (ranked_by part y, y)
same-items Rising part x y = refl
same-items Falling part x y = refl

pub ordered : {K : Type 0} (rank : K → Data) (lt : K → K → Bool) → ((x y : K) → less (rank x) (rank y) ≡ lt x y) → (way : Way) (part : Part) (es : List Item) (rs : List (Ranked K Pair))
    → with_ranks rank rs ≡ ranked_items part es → lent_items (map (λ r. r.thing) (sort_by (earlier lt way) rs)) ≡ sort_by (before way part) es
ordered rank lt h way part es rs e =
    seconds rank (sort_by (earlier lt way) rs)
    ∙ ap (λ l. map (λ p. p.1) l)
    (sort-map (λ r. (rank r.rank, lent_item r.thing)) (earlier lt way) (rank_less way) (same-ranks rank lt h way) rs
    ∙ ap (sort_by (rank_less way)) e
    ∙ sym (sort-map (λ x. (ranked_by part x, x)) (before way part) (rank_less way) (same-items way part) es))
    ∙ second-items part (sort_by (before way part) es)

-- ---- whether there is an order

pub numbers-in-order : (way : Way) (part : Part) (es : List Item) → list_all (λ e. is_number (ranked_by part e)) es ≡ true → in_order way part es ≡ Ok (sort_by (before way part) es)
numbers-in-order way part es e = ap (λ b. if (b || list_all (λ e. is_word (ranked_by part e)) es) then Ok (sort_by (before way part) es) else Err Sort) e

words_by : (b : Bool) (way : Way) (part : Part) (es : List Item) → (if (b || true) then Ok (sort_by (before way part) es) else Err Sort) ≡ Ok (sort_by (before way part) es)
words_by true way part es = refl
words_by false way part es = refl

pub words-in-order : (way : Way) (part : Part) (es : List Item) → list_all (λ e. is_word (ranked_by part e)) es ≡ true → in_order way part es ≡ Ok (sort_by (before way part) es)
words-in-order way part es e =
    ap (λ b. if (list_all (λ e. is_number (ranked_by part e)) es || b) then Ok (sort_by (before way part) es) else Err Sort) e ∙ words_by (list_all (λ e. is_number (ranked_by part e)) es) way part es

pub no-order : (way : Way) (part : Part) (es : List Item) → list_all (λ e. is_number (ranked_by part e)) es ≡ false → list_all (λ e. is_word (ranked_by part e)) es ≡ false → in_order way part es ≡ Err Sort
no-order way part es e f = λ i. if (e i || f i) then Ok (sort_by (before way part) es) else Err Sort
