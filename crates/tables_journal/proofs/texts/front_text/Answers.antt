use Rattle.std.proofs.Common.{◌≡◌, ◌∙◌, ◌+◌, ◌-◌, ◌<◌, ◌^◌, ◌++◌, ◌∷◌, Some, None, List, length, take, drop, eqb, decimal, ap, sym, rules, arith}
use Rattle.std.specs.List.{position}
use Rattle.std.proofs.lemmas.List.{length-append}
use Rattle.less_terms.specs.Decimals.{decimal_value}
use Rattle.tables_journal.specs.Texts.{HasNoText}
use Rattle.tables_journal.proofs.TextLemmas.{front_of, text_found, no_colon, no_number, too_short}
use Rattle.tables_journal.proofs.texts.front_text.Goals as goal

pub returns-in_err-place-clause-none : goal.returns-in_err-place-clause-none
returns-in_err-place-clause-none c =
    let none : position (λ byte. eqb byte 58) c.args.bytes.now ≡ None = search rules in
    let no : HasNoText c.args.bytes.now = no_colon c.args.bytes.now (omega arith) none in
    search (rules, no)

pub returns-in_err-length-clause-none : goal.returns-in_err-length-clause-none
returns-in_err-length-clause-none c =
    let found : position (λ byte. eqb byte 58) c.args.bytes.now ≡ Some c.in_ok-place.place = search rules in
    let none : decimal_value (2 ^ 64 - 1) (take c.in_ok-place.place c.args.bytes.now) ≡ None = search rules in
    let no : HasNoText c.args.bytes.now = no_number c.args.bytes.now c.in_ok-place.place (omega arith) found none in
    search (rules, no)

pub returns-then-length-behind-clause-none : goal.returns-then-length-behind-clause-none
returns-then-length-behind-clause-none c =
    let found : position (λ byte. eqb byte 58) c.args.bytes.now ≡ Some c.in_ok-place.place = search rules in
    let value : decimal_value (2 ^ 64 - 1) (take c.in_ok-place.place c.args.bytes.now) ≡ Some c.in_ok-length.length = search rules in
    let behind : c.split_at-2.result.1.now ≡ drop 1 (drop c.in_ok-place.place c.args.bytes.now) = search rules in
    too_short c.args.bytes.now c.in_ok-place.place c.in_ok-length.length (omega arith) found value (omega (arith, ap (λ (l : List _). length l) behind, c.if-length-behind.true))

pub returns-clause-found : goal.returns-clause-found
returns-clause-found c =
    let found : position (λ byte. eqb byte 58) c.args.bytes.now ≡ Some c.in_ok-place.place = search rules in
    let value : decimal_value (2 ^ 64 - 1) (take c.in_ok-place.place c.args.bytes.now) ≡ Some c.in_ok-length.length = search rules in
    let behind : c.split_at-2.result.1.now ≡ drop 1 (drop c.in_ok-place.place c.args.bytes.now) = search rules in
    let text : c.split_at-3.result.0.now ≡ take c.in_ok-length.length (drop 1 (drop c.in_ok-place.place c.args.bytes.now)) = search (rules, behind) in
    let rest : c.split_at-3.result.1.now ≡ drop c.in_ok-length.length (drop 1 (drop c.in_ok-place.place c.args.bytes.now)) = search (rules, behind) in
    rw (text, rest) (text_found c.args.bytes.now c.in_ok-place.place c.in_ok-length.length found value (omega (arith, ap (λ (l : List _). length l) behind, c.if-length-behind.false)))
