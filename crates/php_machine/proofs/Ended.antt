-- The end of a run whose last frame is gone.
use Rattle.std.proofs.Common.{◌≡◌, List, [], sym, ap, ◌∙◌}
use Rattle.php_world.specs.Naming.{Naming}
use Rattle.php_meaning.specs.Events.{Done}
use Rattle.php_meaning.specs.Run.{Look}
use Rattle.php_meaning.specs.Trace.{finish}
use Rattle.php_meaning.specs.World.{World}
use Rattle.php_rest.specs.Rest.{rest, signal_of}
use Rattle.php_rest.specs.declared.frame.Frame.{Frame}
use Rattle.php_rest.specs.declared.now.Ending.{Ending}
use Rattle.php_rest.specs.declared.now.Ending.TheVariants as ending
use Rattle.php_tally.specs.Comes.{comes_to, closed}
use Rattle.php_tally.specs.declared.tally.Tally.{Tally}
use Rattle.php_tally.proofs.Runs.{stopped}

done : (look : Look) (y : Tally) (e : Ending) (w : World) → comes_to look y (finish (signal_of e) w) ≡ closed y Done
done look y ending.Normal w = stopped look (closed y Done) y.left Done w
done look y (ending.Returned value) w = stopped look (closed y Done) y.left Done w
done look y (ending.Breaks n) w = stopped look (closed y Done) y.left Done w
done look y (ending.Continues n) w = stopped look (closed y Done) y.left Done w

pub over : (look : Look) (y : Tally) (t : Naming) (w : World) (e : Ending) (stack : List Frame) → stack ≡ [] → closed y Done ≡ comes_to look y (rest t stack finish (signal_of e) w)
over look y t w e stack none = sym (ap (λ fs. comes_to look y (rest t fs finish (signal_of e) w)) none ∙ done look y e w)
