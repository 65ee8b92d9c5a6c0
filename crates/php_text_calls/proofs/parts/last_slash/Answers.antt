use Rattle.memchr.specs.Find.{is_byte}
use Rattle.memchr.proofs.lemmas.ValueLemmas.{IsLastByte-value}
use Rattle.php_text_calls.proofs.parts.last_slash.Goals as goal

pub returns-clause-value : goal.returns-clause-value
returns-clause-value c = IsLastByte-value (is_byte 47) c.args.text.now _ c.memrchr.ensures
