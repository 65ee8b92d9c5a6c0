use Rattle.std.proofs.Common.{◌≡◌, ◌-◌, [], length}
use Rattle.php_arguments.specs.Answers.{datas}
use Rattle.php_text_calls.specs.Formats.{printed, printing}
use Rattle.php_text_calls.proofs.format.formatted.Given as goal

abbrev pub invariant-loop-number : goal.invariant-loop-number
invariant-loop-number l = printed (length l.text - l.number) (printing l.out.items l.left (datas l.values)) ≡ printed (length l.text) (printing [] l.text (datas l.initial.values))
