use Rattle.std.proofs.Common.{ℕ, ◌+◌, ◌==◌, length, take, drop, sym, ap, ◌∙◌, arith, rules, take_all}
use Rattle.std.proofs.lemmas.List.Sums.{position_or_len_is}
use Rattle.std.proofs.lemmas.List.{take_rest, drop_all}
use Rattle.parameters.proofs.cookies.split_pair.Goals as goal

pub returns-in-Some : goal.returns-in-Some
returns-in-Some c =
    let piece = c.args.piece.now in
    let found = position_or_len_is (λ (b : ℕ). b == 61) piece c.in-Some.place 0 (search rules) (search rules) (search rules) in
    record { name = ap (λ n. take n piece) (sym found); value = take_rest piece _ ∙ ap (λ n. drop (n + 1) piece) (sym found) }

pub returns-in-None : goal.returns-in-None
returns-in-None c =
    let piece = c.args.piece.now in
    let none = position_or_len_is (λ (b : ℕ). b == 61) piece (length piece) 0 (omega arith) (search rules) (search rules) in
    record {
      name = sym (ap (λ n. take n piece) none ∙ take_all (length piece) piece (omega arith));
      value = sym (ap (λ n. drop (n + 1) piece) none ∙ drop_all (length piece + 1) piece (omega arith));
    }
