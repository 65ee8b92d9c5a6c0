-- What a folder told before and after its calls, and their faults.
use Rattle.std.proofs.Common.{ℕ, ◌∙◌, subst, Option, None, Some, IfSome, Result, Err, IsErrOf, refl, arith}
use Rattle.less_terms.specs.Causes.{Rose, Steady}
use Rattle.less_outside.specs.declared.fault.FolderFault.{FolderFault}
use Rattle.less_outside.specs.declared.fault.FolderFault.TheVariants.{Failed, Memory}
use Rattle.less_outside.specs.Files.{Files}
use Rattle.less_outside.specs.Told.{Stays}
use Rattle.less_outside.specs.Folder.{HasFolderCause}
use Rattle.app_reading.specs.declared.fault.TextsFault.TheVariants as t
use Rattle.app_reading.specs.Texts.{HasReadCause}
use Rattle.app_reading.specs.Reading.{fault_of}

-- what stays, and stays again, has stayed
pub stays_on : (a b c : Option Files) → Stays a b → Stays b c → Stays a c
stays_on None b c first second = tt
stays_on (Some x) None c first second = absurd first
stays_on (Some x) (Some y) None first second = absurd second
stays_on (Some x) (Some y) (Some z) first second = second ∙ first

-- a fact of what is told now is one of what was told before
pub seen_before : (a b : Option Files) (P : Files → Type 0) → Stays a b → IfSome b P → IfSome a P
seen_before None b P stays fact = tt
seen_before (Some x) None P stays fact = absurd stays
seen_before (Some x) (Some y) P stays fact = subst P stays fact

pub told_both : (a : Option Files) (P Q R : Files → Type 0) → ((files : Files) → P files → Q files → R files) → IfSome a P → IfSome a Q → IfSome a R
told_both None P Q R step p q = tt
told_both (Some files) P Q R step p q = step files p q

pub told_so : (a : Option Files) (P Q : Files → Type 0) → ((files : Files) → P files → Q files) → IfSome a P → IfSome a Q
told_so None P Q step p = tt
told_so (Some files) P Q step p = step files p

-- ---- causes

rose_on : (a b c : ℕ) → Steady a b → Rose b c → Rose a c
rose_on a b c steady rose = omega arith

pub cause_on : {T E : Type 0} (fault : E) (a b c : ℕ) (r : Result T E) → Steady a b → HasReadCause fault b c r → HasReadCause fault a c r
cause_on fault a b c r steady cause = let later = cause.later in record { later = omega arith; failed = λ e. rose_on a b c steady (cause.failed e) }

-- a fault of the folder is one of the texts
pub cause_of : {T U : Type 0} (before now : ℕ) (f : FolderFault) → HasFolderCause {T = T} before now (Err f) → HasReadCause {T = U} t.ReadFault before now (Err (fault_of f))
cause_of before now Failed cause = record { later = cause.later; failed = λ e. cause.failed refl }
cause_of before now Memory cause = record { later = cause.later; failed = λ e. absurd (cc) }

pub no_cause : {T E : Type 0} (fault : E) (before now : ℕ) (r : Result T E) → Steady before now → (IsErrOf r fault → ⊥) → HasReadCause fault before now r
no_cause fault before now r later none = record { later = later; failed = λ e. absurd (none e) }
