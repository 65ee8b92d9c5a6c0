use Rattle.std.proofs.Common.{arith}
use Rattle.request_map.proofs.Links.{piece_put, piece_within, only_trans}
use Rattle.request_map.proofs.reading.fill.Goals as goal

pub loop-at-preserved : goal.loop-at-preserved
loop-at-preserved g c = record {
  within = piece_within c.loop-at.room c.read.new.room c.loop-at.at c.in_ok-count.count c.loop-at.invariant.within c.in_ok-count.ensures.within (omega (arith, c.read.auto.room));
  taken = piece_put _ _ _ c.loop-at.room c.read.new.room c.loop-at.at c.in_ok-count.count c.loop-at.invariant.taken c.in_ok-count.ensures.taken c.loop-at.invariant.within;
  only = only_trans _ _ _ _ _ _ _ _ _ c.loop-at.invariant.only (record { count = c.in_ok-count.ensures.cause.later; kept = c.in_ok-count.ensures.sent; same = c.in_ok-count.ensures.writes });
}
