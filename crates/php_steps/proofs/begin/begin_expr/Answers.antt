use Rattle.std.proofs.Common.{refl}
use Rattle.php_steps.proofs.Begun.{begun-Empty, begun-ExitWith, begun-Chain, begun-Print, begun-Choice, begun-Coalesce, begun-Compare, begun-Unary, begun-InstanceOf, begun-Clone, begun-Post}
use Rattle.php_steps.proofs.begin.begin_expr.Goals as goal

pub returns-in_ok-push-in-Empty-clause-law : goal.returns-in_ok-push-in-Empty-clause-law
returns-in_ok-push-in-Empty-clause-law c = λ t w k. begun-Empty _ _ _ _ _ _ _ c.in-Empty.is c.get-in-Empty.ensures c.in_ok-push-in-Empty.ensures.ok t _ k

pub returns-in_ok-push-in-ExitWith-clause-law : goal.returns-in_ok-push-in-ExitWith-clause-law
returns-in_ok-push-in-ExitWith-clause-law c = λ t w k. begun-ExitWith _ _ _ _ _ _ _ c.in-ExitWith.is c.get-in-ExitWith.ensures c.in_ok-push-in-ExitWith.ensures.ok t _ k

pub returns-in_ok-push-in-Chain-clause-law : goal.returns-in_ok-push-in-Chain-clause-law
returns-in_ok-push-in-Chain-clause-law c = λ t w k. begun-Chain _ _ _ _ _ _ _ _ _ c.in-Chain.is c.get-in-Chain.ensures c.as_slice-in-Chain.ensures c.in_ok-push-in-Chain.ensures.ok t _ k

pub returns-in_ok-push-in-Print-clause-law : goal.returns-in_ok-push-in-Print-clause-law
returns-in_ok-push-in-Print-clause-law c = λ t w k. begun-Print _ _ _ _ _ _ _ c.in-Print.is c.get-in-Print.ensures c.in_ok-push-in-Print.ensures.ok t _ k

pub returns-in_ok-push-in-Choice-clause-law : goal.returns-in_ok-push-in-Choice-clause-law
returns-in_ok-push-in-Choice-clause-law c = λ t w k. begun-Choice _ _ _ _ _ _ _ _ _ c.in-Choice.is c.get-in-Choice.ensures c.as_slice-in-Choice.ensures c.in_ok-push-in-Choice.ensures.ok t _ k

pub returns-in_ok-push-in-Coalesce-clause-law : goal.returns-in_ok-push-in-Coalesce-clause-law
returns-in_ok-push-in-Coalesce-clause-law c = λ t w k. begun-Coalesce _ _ _ _ _ _ _ _ _ c.in-Coalesce.is c.get-in-Coalesce.ensures refl c.in_ok-push-in-Coalesce.ensures.ok t _ k

pub returns-in_ok-push-in-Compare-clause-law : goal.returns-in_ok-push-in-Compare-clause-law
returns-in_ok-push-in-Compare-clause-law c = λ t w k. begun-Compare _ _ _ _ _ _ _ _ _ _ c.in-Compare.is c.get-in-Compare.ensures refl c.in_ok-push-in-Compare.ensures.ok t _ k

pub returns-in_ok-push-in-Unary-clause-law : goal.returns-in_ok-push-in-Unary-clause-law
returns-in_ok-push-in-Unary-clause-law c = λ t w k. begun-Unary _ _ _ _ _ _ _ _ c.in-Unary.is c.get-in-Unary.ensures c.in_ok-push-in-Unary.ensures.ok t _ k

pub returns-in_ok-push-in-InstanceOf-clause-law : goal.returns-in_ok-push-in-InstanceOf-clause-law
returns-in_ok-push-in-InstanceOf-clause-law c = λ t w k. begun-InstanceOf _ _ _ _ _ _ _ _ c.in-InstanceOf.is c.get-in-InstanceOf.ensures c.in_ok-push-in-InstanceOf.ensures.ok t _ k

pub returns-in_ok-push-in-Clone-clause-law : goal.returns-in_ok-push-in-Clone-clause-law
returns-in_ok-push-in-Clone-clause-law c = λ t w k. begun-Clone _ _ _ _ _ _ _ c.in-Clone.is c.get-in-Clone.ensures c.in_ok-push-in-Clone.ensures.ok t _ k

pub returns-in_ok-push-in-Post-clause-law : goal.returns-in_ok-push-in-Post-clause-law
returns-in_ok-push-in-Post-clause-law c = λ t w k. begun-Post _ _ _ _ _ _ _ _ _ _ _ c.in-Post.is c.is_place.ensures c.reading_of-how.ensures c.get-in-Post.ensures c.as_slice-in-Post.ensures c.in_ok-push-in-Post.ensures.ok t _ k
