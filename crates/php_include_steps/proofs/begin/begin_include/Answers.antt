use Rattle.std.proofs.Common.{ap}
use Rattle.php_world.specs.declared.reading.Reading.TheVariants.{Plain}
use Rattle.php_meaning.specs.Course.{Ticks}
use Rattle.php_meaning.specs.Expressions.{read}
use Rattle.php_rest.specs.Named.{named}
use Rattle.php_rest.specs.Rest.{rest}
use Rattle.php_include_steps.proofs.begin.begin_include.Goals as goal

pub returns : goal.returns
returns c = λ how line t w k. ap (λ s. Ticks w (read Plain (named t c.args.path.now) w (rest t s k))) c.in_ok-push.ensures.ok
