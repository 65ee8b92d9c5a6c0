-- What a call that did not fail makes of a folder.
use Rattle.std.proofs.Common.{◌≡◌, false, true}
use Rattle.less_outside.specs.Files.{Files}
use Rattle.less_outside.specs.FolderMem.{FolderState, is_failing, called, after_write}

-- the call was counted, and then the files were changed
pub done_write : (before counted : FolderState) (files new : Files) → counted ≡ called before → is_failing before ≡ false → new ≡ files → record counted { files = new } ≡ after_write before files true
done_write before counted files new is goes same = rw goes (λ i. record (is i) { files = same i })
