use Rattle.std.proofs.Common.{◌≡◌, ◌-◌, ◌<◌, ◌≤◌, ◌^◌, ℕ, Some, None, List, length, take, drop, eqb, ap, rules, arith}
use Rattle.std.specs.List.{position}
use Rattle.std.proofs.lemmas.Bool.Decides.{nat_tests}
use Rattle.less_terms.specs.Decimals.{decimal_value}
use Rattle.tables_journal.proofs.JournalLemmas.{early_part}
use Rattle.tables_journal.proofs.CutLemmas.{not_early_digits, not_early_long}
use Rattle.tables_journal.proofs.journal.length_ends_early.Goals as goal

pub returns-in-Some-read_decimal-2-clause-early : goal.returns-in-Some-read_decimal-2-clause-early
returns-in-Some-read_decimal-2-clause-early c = λ short.
    let found : position (λ byte. eqb byte 58) c.args.bytes.now ≡ Some c.in-Some.place = search rules in
    let value : decimal_value (2 ^ 64 - 1) (take c.in-Some.place c.args.bytes.now) ≡ Some c.in-Some-read_decimal-2.length = search rules in
    let behind : c.split_at-2.result.1.now ≡ drop 1 (drop c.in-Some.place c.args.bytes.now) = search rules in
    let less : length c.split_at-2.result.1.now < c.in-Some-read_decimal-2.length = grind (arith, nat_tests, short) in
    early_part c.args.bytes.now c.in-Some.place c.in-Some-read_decimal-2.length found value (omega (arith, less, ap (λ (l : List ℕ). length l) behind))

pub returns-in-Some-read_decimal-2-clause-other : goal.returns-in-Some-read_decimal-2-clause-other
returns-in-Some-read_decimal-2-clause-other c = λ long.
    let found : position (λ byte. eqb byte 58) c.args.bytes.now ≡ Some c.in-Some.place = search rules in
    let value : decimal_value (2 ^ 64 - 1) (take c.in-Some.place c.args.bytes.now) ≡ Some c.in-Some-read_decimal-2.length = search rules in
    let behind : c.split_at-2.result.1.now ≡ drop 1 (drop c.in-Some.place c.args.bytes.now) = search rules in
    let fits : c.in-Some-read_decimal-2.length ≤ length c.split_at-2.result.1.now = grind (arith, nat_tests, long) in
    not_early_long c.args.bytes.now c.in-Some.place c.in-Some-read_decimal-2.length found value (omega (arith, fits, ap (λ (l : List ℕ). length l) behind))

pub returns-in-None-clause-other : goal.returns-in-None-clause-other
returns-in-None-clause-other c = λ _.
    let none : position (λ byte. eqb byte 58) c.args.bytes.now ≡ None = search rules in
    let value : decimal_value (2 ^ 64 - 1) c.args.bytes.now ≡ None = search rules in
    let some : 0 < length c.args.bytes.now = first_of (search rules, omega arith, grind (arith, nat_tests)) in
    not_early_digits c.args.bytes.now none value some
