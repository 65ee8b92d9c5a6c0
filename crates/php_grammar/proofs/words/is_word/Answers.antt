use Rattle.php_grammar.proofs.words.is_word.Goals as goal
use Rattle.php_grammar.proofs.Choices.{no_word}

-- src/words.rt
pub returns-in-Equality : goal.returns-in-Equality
returns-in-Equality c = no_word _ c.in-Equality.is
