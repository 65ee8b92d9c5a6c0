use Rattle.std.proofs.Common.{rules, ◌≡◌, ◌≢◌, ◌∙◌, ◌∷◌, [], List, ℕ, map, refl, sym, ap, subst, arith}
use Rattle.php_values.specs.Data.{Data, bytes, data_of, array, array_of}
use Rattle.php_values.proofs.Datas.{data-List}
use Rattle.php_arguments.specs.Answers.{Ok, Err}
use Rattle.php_arguments.specs.declared.fault.CallFault.TheVariants.{Memory}
use Rattle.php_arguments.specs.Results.{IsListed, listed, array_list, sized_list}
use Rattle.php_text_calls.specs.Pieces.{piece_values}
use Rattle.php_text_calls.proofs.Listings.{Listing, pushed, full, listed-all}
use Rattle.php_text_calls.proofs.pieces.split.Goals as goal

pub loop-piece-preserved : goal.loop-piece-preserved
loop-piece-preserved c =
    let taken : c.loop-piece.piece-iterator ≡ c.in-Some.piece.now ∷ c.next.new.self = search (rules, c.in-Some.ensures.steps) in
    let d : data_of c.in_ok-piece.piece ≡ bytes c.in-Some.piece.now = search (rules, c.in_ok-piece.ensures) in
    let all = piece_values c.args.separator.now c.args.text.now in
    let old = subst (λ rest. Listing c.loop-piece.list (map bytes rest) all) taken c.loop-piece.invariant.2 in
    let more = subst (λ d. (ds : List Data) → array_of c.loop-piece.list ≡ array_list ds → IsListed (listed ds d) (array_of c.push_value.new.map)) d c.in_ok-push_value.ensures in
    (search rules, search rules, pushed c.loop-piece.list c.push_value.new.map (bytes c.in-Some.piece.now) (map bytes c.next.new.self) all more old)

pub returns-in_err-push_value : goal.returns-in_err-push_value
returns-in_err-push_value c =
    let taken : c.loop-piece.piece-iterator ≡ c.in-Some.piece.now ∷ c.next.new.self = search (rules, c.in-Some.ensures.steps) in
    let d : data_of c.in_ok-piece.piece ≡ bytes c.in-Some.piece.now = search (rules, c.in_ok-piece.ensures) in
    let all = piece_values c.args.separator.now c.args.text.now in
    let old = subst (λ rest. Listing c.loop-piece.list (map bytes rest) all) taken c.loop-piece.invariant.2 in
    let none : c.in_err-push_value.field-0.0 ≢ Memory → sized_list all ≡ Err c.in_err-push_value.field-0.0 =
    λ known. full c.loop-piece.list (bytes c.in-Some.piece.now) (map bytes c.next.new.self) all _
    (λ ds e. subst (λ d. listed ds d ≡ Err c.in_err-push_value.field-0.0) d (c.in_err-push_value.ensures ds e known)) old in
    search (rules, none)

pub returns : goal.returns
returns c =
    let ended : c.loop-piece.piece-iterator ≡ [] = search (rules, c.in-None.ensures.steps) in
    let all = piece_values c.args.separator.now c.args.text.now in
    let old = subst (λ rest. Listing c.loop-piece.list (map bytes rest) all) ended c.loop-piece.invariant.2 in
    listed-all c.loop-piece.list all old ∙ ap (λ m. Ok (array (array_of m))) (sym c.in_ok-array.ensures) ∙ ap Ok (sym (data-List c.in_ok-array.array))
