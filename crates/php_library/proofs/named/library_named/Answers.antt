use Rattle.std.proofs.Common.{sym}
use Rattle.php_library.proofs.Ascii.{differs}
use Rattle.php_library.proofs.Foreign.{no_call}
use Rattle.php_library.proofs.named.library_named.Goals as goal

pub returns-in-Err : goal.returns-in-Err
returns-in-Err c = sym (no_call c.args.name.now (differs c.args.name.now c.in-Err.ensures.cases.0))
