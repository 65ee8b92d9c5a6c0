-- Which end an exit status tells of.
use Rattle.std.proofs.Common.{◌≡◌, refl, arith}
use Rattle.less_cmd.specs.declared.status.Status.{Status}
use Rattle.less_cmd.specs.declared.status.Status.TheVariants.{Done, NotBuilt, AppRefused, ReadFault, WriteFault, CopyRefused, Memory}
use Rattle.less_cmd.specs.Status.{code_of, IsSilent, WritesNothing}

pub is_done : (status : Status) → code_of status ≡ 0 → status ≡ Done
is_done Done e = refl
is_done NotBuilt e = absurd (omega (arith, e))
is_done (AppRefused note) e = absurd (omega (arith, e))
is_done ReadFault e = absurd (omega (arith, e))
is_done WriteFault e = absurd (omega (arith, e))
is_done (CopyRefused note) e = absurd (omega (arith, e))
is_done Memory e = absurd (omega (arith, e))

pub is_not_built : (status : Status) → code_of status ≡ 1 → status ≡ NotBuilt
is_not_built Done e = absurd (omega (arith, e))
is_not_built NotBuilt e = refl
is_not_built (AppRefused note) e = absurd (omega (arith, e))
is_not_built ReadFault e = absurd (omega (arith, e))
is_not_built WriteFault e = absurd (omega (arith, e))
is_not_built (CopyRefused note) e = absurd (omega (arith, e))
is_not_built Memory e = absurd (omega (arith, e))

pub is_read_fault : (status : Status) → code_of status ≡ 6 → status ≡ ReadFault
is_read_fault Done e = absurd (omega (arith, e))
is_read_fault NotBuilt e = absurd (omega (arith, e))
is_read_fault (AppRefused note) e = absurd (omega (arith, e))
is_read_fault ReadFault e = refl
is_read_fault WriteFault e = absurd (omega (arith, e))
is_read_fault (CopyRefused note) e = absurd (omega (arith, e))
is_read_fault Memory e = absurd (omega (arith, e))

pub is_write_fault : (status : Status) → code_of status ≡ 7 → status ≡ WriteFault
is_write_fault Done e = absurd (omega (arith, e))
is_write_fault NotBuilt e = absurd (omega (arith, e))
is_write_fault (AppRefused note) e = absurd (omega (arith, e))
is_write_fault ReadFault e = absurd (omega (arith, e))
is_write_fault WriteFault e = refl
is_write_fault (CopyRefused note) e = absurd (omega (arith, e))
is_write_fault Memory e = absurd (omega (arith, e))

pub is_silent : (status : Status) → WritesNothing (code_of status) → IsSilent status
is_silent Done quiet = quiet.0 refl
is_silent NotBuilt quiet = tt
is_silent (AppRefused note) quiet = tt
is_silent ReadFault quiet = tt
is_silent WriteFault quiet = quiet.1 refl
is_silent (CopyRefused note) quiet = tt
is_silent Memory quiet = tt
