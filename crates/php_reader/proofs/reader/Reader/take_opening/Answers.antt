use Rattle.std.proofs.Common.{◌≡◌, None}
use Rattle.php_grammar.specs.Grammar.{production}
use Rattle.php_grammar.specs.Split.{head_in}
use Rattle.php_reading.proofs.Symbols.{none_read}
use Rattle.php_reader.proofs.reader.Reader.take_opening.Goals as goal

pub returns-in-None-clause-ok : goal.returns-in-None-clause-ok
returns-in-None-clause-ok g c =
    let e : head_in (production c.args.rule) ≡ None = cc in
    rw e (none_read _ _ _)
