use Rattle.std.proofs.Common.{ap, sym, ◌∙◌}
use Rattle.php_rest.specs.Rest.{after_stmt, rest, signal_of}
use Rattle.php_statement_steps.specs.Standing.{stands}
use Rattle.php_statement_ends.proofs.Passing.{passed}
use Rattle.php_statement_ends.proofs.resume.resume_ending.Goals as goal

pub returns-in-EchoOf : goal.returns-in-EchoOf
returns-in-EchoOf c = λ t w k. passed _ _ c.in-EchoOf.is tt t (rest t c.args.stack.now k) c.args.ending (stands t c.args.store.now c.args.scene.now w)

pub returns-in-Discard : goal.returns-in-Discard
returns-in-Discard c = λ t w k. passed _ _ c.in-Discard.is tt t (rest t c.args.stack.now k) c.args.ending (stands t c.args.store.now c.args.scene.now w)

pub returns-in-Choose : goal.returns-in-Choose
returns-in-Choose c = λ t w k. passed _ _ c.in-Choose.is tt t (rest t c.args.stack.now k) c.args.ending (stands t c.args.store.now c.args.scene.now w)

pub returns-in-Test : goal.returns-in-Test
returns-in-Test c = λ t w k. passed _ _ c.in-Test.is tt t (rest t c.args.stack.now k) c.args.ending (stands t c.args.store.now c.args.scene.now w)

pub returns-in-ForList : goal.returns-in-ForList
returns-in-ForList c = λ t w k. passed _ _ c.in-ForList.is tt t (rest t c.args.stack.now k) c.args.ending (stands t c.args.store.now c.args.scene.now w)

pub returns-in-ForTest : goal.returns-in-ForTest
returns-in-ForTest c = λ t w k. passed _ _ c.in-ForTest.is tt t (rest t c.args.stack.now k) c.args.ending (stands t c.args.store.now c.args.scene.now w)

pub returns-in-EachOf : goal.returns-in-EachOf
returns-in-EachOf c = λ t w k. passed _ _ c.in-EachOf.is tt t (rest t c.args.stack.now k) c.args.ending (stands t c.args.store.now c.args.scene.now w)

pub returns-in-SwitchOf : goal.returns-in-SwitchOf
returns-in-SwitchOf c = λ t w k. passed _ _ c.in-SwitchOf.is tt t (rest t c.args.stack.now k) c.args.ending (stands t c.args.store.now c.args.scene.now w)

pub returns-in-CaseOf : goal.returns-in-CaseOf
returns-in-CaseOf c = λ t w k. passed _ _ c.in-CaseOf.is tt t (rest t c.args.stack.now k) c.args.ending (stands t c.args.store.now c.args.scene.now w)

pub returns-in-ReturnOf : goal.returns-in-ReturnOf
returns-in-ReturnOf c = λ t w k. passed _ _ c.in-ReturnOf.is tt t (rest t c.args.stack.now k) c.args.ending (stands t c.args.store.now c.args.scene.now w)

pub returns : goal.returns
returns c = λ t w k. passed _ _ c.in-ThrowOf.is tt t (rest t c.args.stack.now k) c.args.ending (stands t c.args.store.now c.args.scene.now w)

pub returns-in-ThenUnset : goal.returns-in-ThenUnset
returns-in-ThenUnset c = λ t w k. c.in_ok-now-in-ThenUnset.ensures t (stands t c.args.store.now c.args.scene.now w) k ∙ ap (λ z. after_stmt t z (rest t c.args.stack.now k) (signal_of c.args.ending) (stands t c.args.store.now c.args.scene.now w)) (sym c.in-ThenUnset.is)
