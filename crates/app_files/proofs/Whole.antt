-- Files of which each is whole.
use Rattle.std.proofs.Common.{◌≡◌, List, [], sym, subst}
use Rattle.std.specs.List.Sorted.{IsStrictlySortedBy}
use Rattle.std.proofs.lemmas.List.Elements.{All-from_recursion}
use Rattle.app_load.specs.declared.app.AppFile.{AppFile}
use Rattle.app_files.specs.FileSets.{AreWhole, IsWhole}

pub none_whole : (files : List AppFile) → files ≡ [] → AreWhole files
unfolding IsStrictlySortedBy
none_whole files e = subst AreWhole (sym e) (record { each = All-from_recursion IsWhole [] tt; ascending = tt })
