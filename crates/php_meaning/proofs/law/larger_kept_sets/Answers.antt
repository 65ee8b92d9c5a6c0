use Rattle.php_meaning.specs.Trace.{trace_by}
use Rattle.php_meaning.proofs.Copies.{uncut}
use Rattle.php_meaning.proofs.law.larger_kept_sets.Goals as goal

pub returns : goal.returns
returns c = λ keeps more look files i budget within q. uncut keeps more within (trace_by look files i budget) q
