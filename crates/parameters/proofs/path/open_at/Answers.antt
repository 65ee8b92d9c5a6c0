use Rattle.std.proofs.Common.{ℕ, ◌==◌, length, sym, arith, rules}
use Rattle.std.proofs.lemmas.List.Sums.{position_or_len_is}
use Rattle.parameters.proofs.path.open_at.Goals as goal

pub returns-in-Some-clause-value : goal.returns-in-Some-clause-value
returns-in-Some-clause-value c =
    sym (position_or_len_is (λ (b : ℕ). b == 91) c.args.name.now c.in-Some.place 0 (search rules) (search rules) (search rules))

pub returns-in-None-clause-value : goal.returns-in-None-clause-value
returns-in-None-clause-value c =
    sym (position_or_len_is (λ (b : ℕ). b == 91) c.args.name.now (length c.args.name.now) 0 (omega arith) (search rules) (search rules))
