use Rattle.std.proofs.Common.{◌∙◌}
use Rattle.php_values.specs.Data.{array_of}
use Rattle.parameters.proofs.Cutting.{one_cookie, last_cookie}
use Rattle.parameters.proofs.cookies.add_cookies.Goals as goal

pub loop-end-preserved : goal.loop-end-preserved
loop-end-preserved c =
    one_cookie c.loop-end.rest.now c.split_at.result.0.now c.split_at-in-Some.result.1.now c.in-Some.end (array_of c.loop-end.map) (array_of c.add_cookie.new.map) c.in-Some.ensures.value c.split_at.ensures.front
    c.split_at-in-Some.ensures.back c.in_ok-add_cookie.ensures
    ∙ c.loop-end.invariant

pub returns : goal.returns
returns c = last_cookie c.loop-end.rest.now (array_of c.loop-end.map) (array_of c.add_cookie-2.new.map) c.in_default.ensures.value c.in_ok-add_cookie-2.ensures ∙ c.loop-end.invariant
