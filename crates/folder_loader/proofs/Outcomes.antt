-- What is told of the texts that were read from a folder is told of the folder.
use Rattle.std.proofs.Common.{◌≡◌, ℕ, List, [], map, Option, None, Some, IfSome, sym, subst, String, string_bytes, Vec}
use Rattle.std.proofs.lemmas.List.Sorted.{Contains-permutation, IsPermutation-sym}
use Rattle.std.specs.declared.alloc.Global.{Global}
use Rattle.less_outside.specs.Files.{Files}
use Rattle.app_load.specs.declared.fault.AppKind.TheVariants as kind
use Rattle.app_load.specs.declared.fault.LimitName.{LimitName}
use Rattle.app_load.specs.declared.fault.CopyKind.{CopyKind}
use Rattle.app_load.specs.declared.fault.CopyKind.TheVariants.{BadFile, Placeholder}
use Rattle.app_load.specs.declared.fault.CopyFault.TheVariants as copy
use Rattle.app_load.specs.declared.judge.Setting.{Setting}
use Rattle.app_load.specs.declared.judge.Setting.TheVariants.{Application, Copy}
use Rattle.app_load.specs.Applications.{text_of, Outcome, refused, IsOutcomeOf, past_limit, IsCopyFault}
use Rattle.app_reading.specs.declared.fault.TextsFault.TheVariants as texts
use Rattle.app_reading.specs.Texts.{AreTextsIn, IsOutcomeIn, IsLimitIn}
use Rattle.folder_loader.specs.declared.fault.AppRefusal.TheVariants as app
use Rattle.folder_loader.specs.declared.fault.CopyRefusal.TheVariants as refusal
use Rattle.folder_loader.specs.Folders.{IsAppRefusalIn, IsCopyRefusalIn}

abbrev Pair : Type 0
Pair = String Global × Vec ℕ Global

in_order : (below : List ℕ) (files : Files) (setting : Setting) (given : List Pair) (o : Outcome) → AreTextsIn below files (map text_of given) → (told : IsOutcomeOf setting given o) → AreTextsIn below files told.texts
in_order below files setting given o are told = record {
  ascending = told.in_order.ascending;
  exact = λ t. (
    λ m. (are.exact t).0 (Contains-permutation told.texts (map text_of given) t (IsPermutation-sym (map text_of given) told.texts told.in_order.all) m),
    λ k. Contains-permutation (map text_of given) told.texts t told.in_order.all ((are.exact t).1 k),
  );
}

outcome_in : (setting : Setting) (below : List ℕ) (files : Files) (given : List Pair) (o : Outcome) → IsOutcomeOf setting given o → AreTextsIn below files (map text_of given) → IsOutcomeIn setting below files o
outcome_in setting below files given o told are = record { texts = told.texts; texts_in = in_order below files setting given o are told; told = told.told }

-- what was told of the texts is told of the folder
pub told_in : (setting : Setting) (seen : Option Files) (below : List ℕ) (given : List Pair) (o : Outcome) → IsOutcomeOf setting given o → IfSome seen (λ files. AreTextsIn below files (map text_of given)) → IfSome seen (λ files. IsOutcomeIn setting below files o)
told_in setting None below given o told are = tt
told_in setting (Some files) below given o told are = outcome_in setting below files given o told are

limit_in : (setting : Setting) (below : List ℕ) (files : Files) (name : LimitName) (file : String Global) → string_bytes file ≡ [] → IsLimitIn below files (texts.Limit name) → IsOutcomeIn setting below files (refused (string_bytes file) 0 (kind.Limit name))
limit_in setting below files name file e h = subst (λ path. IsOutcomeIn setting below files (refused path 0 (kind.Limit name))) (sym e) (record { texts = h.0; texts_in = h.1; told = past_limit h.2 })

pub app_limit : (seen : Option Files) (below : List ℕ) (name : LimitName) (file : String Global) → string_bytes file ≡ [] → IfSome seen (λ files. IsLimitIn below files (texts.Limit name)) → IfSome seen (λ files. IsAppRefusalIn below files (app.At file 0 (kind.Limit name)))
app_limit None below name file e h = tt
app_limit (Some files) below name file e h = limit_in Application below files name file e h

pub copy_limit : (seen : Option Files) (below : List ℕ) (name : LimitName) (file : String Global) → string_bytes file ≡ [] → IfSome seen (λ files. IsLimitIn below files (texts.Limit name)) → IfSome seen (λ files. IsCopyRefusalIn below files (refusal.At file 0 BadFile))
copy_limit None below name file e h = tt
copy_limit (Some files) below name file e h = (kind.Limit name, limit_in Copy below files name file e h)

copy_fault : (below : List ℕ) (files : Files) (given : List Pair) (file : String Global) (line : ℕ) (k : CopyKind) → IsCopyFault given (copy.At file line k) → AreTextsIn below files (map text_of given) → IsCopyRefusalIn below files (refusal.At file line k)
copy_fault below files given file line BadFile fault are = (fault.0, outcome_in Copy below files given (refused (string_bytes file) line fault.0) fault.1 are)
copy_fault below files given file line Placeholder fault are = outcome_in Copy below files given _ fault are

pub copy_told : (seen : Option Files) (below : List ℕ) (given : List Pair) (file : String Global) (line : ℕ) (k : CopyKind) → IsCopyFault given (copy.At file line k) → IfSome seen (λ files. AreTextsIn below files (map text_of given)) → IfSome seen (λ files. IsCopyRefusalIn below files (refusal.At file line k))
copy_told None below given file line k fault are = tt
copy_told (Some files) below given file line k fault are = copy_fault below files given file line k fault are
