-- One file that is whole, as the tests make it.
use Rattle.std.proofs.Common.{◌≡◌, List, [], ◌∷◌, is_some, sym, subst}
use Rattle.std.specs.List.Sorted.{IsStrictlySortedBy}
use Rattle.std.proofs.lemmas.List.Elements.{All-from_recursion}
use Rattle.app_load.specs.declared.app.AppFile.{AppFile}
use Rattle.app_load.specs.Files.{is_php}
use Rattle.app_files.specs.FileSets.{AreWhole, IsWhole, HasFunctions, path_bytes}

pub one_whole : (files : List AppFile) (f : AppFile) → files ≡ f ∷ [] → is_some f.tree ≡ is_php (path_bytes f) → HasFunctions f.tree → AreWhole files
unfolding IsStrictlySortedBy
one_whole files f e tree functions = subst AreWhole (sym e) (record {
  each = All-from_recursion IsWhole (f ∷ []) (record { tree = tree; functions = functions }, tt);
  ascending = (tt, tt);
})
