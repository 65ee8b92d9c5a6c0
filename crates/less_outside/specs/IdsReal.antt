-- Ids over a file of random bytes.
use Rattle.std.specs.Prelude.{◌≡◌, ℕ, None}
use Rattle.less_outside.specs.declared.ids_real.IdsReal.{IdsReal}

-- how often a call has failed
abbrev pub faults_of : {R F D : Type 0} → IdsReal R F D → ℕ
faults_of ids = ids.faults

-- it has this runtime, its file is not opened yet, and nothing has failed
pub record IsNewIdsReal {R F D : Type 0} (ids : IdsReal R F D) (runtime : R) : Type 0 where
  pub over : ids.rt ≡ runtime
  pub closed : ids.source ≡ None
  pub fresh : ids.faults ≡ 0
