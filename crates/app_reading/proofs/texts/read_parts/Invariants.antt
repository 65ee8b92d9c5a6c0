use Rattle.std.proofs.Common.{◌≡◌, ◌++◌, IfSome, map, take, drop, string_bytes}
use Rattle.std.specs.List.Sorted.{IsStrictlySortedBy}
use Rattle.std.specs.Ordering.{nat_cmp}
use Rattle.std.specs.Cmp.Lexicographic.{slice_cmp}
use Rattle.less_terms.specs.Causes.{Steady}
use Rattle.less_outside.specs.Told.{Stays}
use Rattle.app_reading.specs.Reading.{HasRead, texts_in, paths_of}
use Rattle.app_reading.proofs.texts.read_parts.Given as goal

abbrev pub invariant-loop-path : goal.invariant-loop-path
invariant-loop-path g l = record {
  kept : Stays (g.F.Folder.told l.fn.folder) (g.F.Folder.told l.folder);
  reads : Steady (g.F.Folder.read_count l.fn.folder) (g.F.Folder.read_count l.folder);
  writes : g.F.Folder.write_count l.folder ≡ g.F.Folder.write_count l.fn.folder;
  read : IfSome (g.F.Folder.told l.fn.folder) (λ files. HasRead (texts_in l.below files (map string_bytes (take l.path-index l.paths))) l.reading);
  ascending : IsStrictlySortedBy (slice_cmp nat_cmp) (paths_of l.reading.texts.items ++ map string_bytes (drop l.path-index l.paths));
}
