use Rattle.std.proofs.Common.{◌∙◌}
use Rattle.php_bodies.specs.Look.{look_in}
use Rattle.php_machine.proofs.Kept.{fits_before}
use Rattle.php_machine.proofs.script.run_script.Goals as goal

pub returns : goal.returns
returns g c = λ linked. record {
  last = c.advance.new.self.state;
  program_is = c.in_ok-end.ensures.keeps.0 ∙ c.in_ok-machine.ensures.program;
  law = λ t fits. c.finish.ensures ∙ c.in_ok-end.ensures.law c.args.program.now (c.in_ok-bodies.ensures linked) t fits
      ∙ c.in_ok-machine.ensures.law (look_in c.args.program.now t) t linked (fits_before t c.in_ok-machine.machine.state c.advance.new.self.state c.in_ok-end.ensures.keeps fits);
}
