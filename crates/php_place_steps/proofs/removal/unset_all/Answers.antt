use Rattle.std.proofs.Common.{rules, ◌∙◌}
use Rattle.php_rest.specs.Tails.{left_in}
use Rattle.php_place_steps.proofs.Written.{unset-post}
use Rattle.php_place_steps.proofs.removal.unset_all.Goals as goal

pub returns-in_ok-now-in-Post : goal.returns-in_ok-now-in-Post
returns-in_ok-now-in-Post c = λ t w k. c.in_ok-now-in-Post.ensures t w k ∙ unset-post (left_in c.args.places) c.in-Some.place.now _ _ _ c.new-in-Post.result _ _ _ c.in-Some.more _ (search (rules, c.in-Some.ensures)) c.in-Post.is c.get.ensures c.in-Var-get.is c.new-in-Post.ensures c.new.ensures t _ _
