use Rattle.php_lexer.proofs.PlaceLaws as laws
use Rattle.php_lexer.proofs.laws.places_never_fall.Goals as goal

pub returns : goal.returns
returns c = laws.places_never_fall
