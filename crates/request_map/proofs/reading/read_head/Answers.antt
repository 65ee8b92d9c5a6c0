use Rattle.std.proofs.Common.{◌≡◌, true, false, length, arith, ap, sym, ◌∙◌, length-append}
use Rattle.request_map.specs.Scans.{scan_after, is_ended}
use Rattle.request_map.proofs.Links.{scan_starts, scan_more, scan_ends, scan_runs_out, scan_stops, only_refl, only_trans, rose_later}
use Rattle.request_map.proofs.reading.read_head.Goals as goal

pub head-init : goal.head-init
head-init g c = record {
  scans = rw c.new-bytes.ensures.items (scan_starts _);
  index = ap length c.new-bytes.ensures.items;
  only = only_refl _ _ _;
}

pub returns-in_err-next-clause-cause : goal.returns-in_err-next-clause-cause
returns-in_err-next-clause-cause g c = λ link. rose_later _ _ _ c.head.invariant.only.count c.in_err-next.ensures.cause

pub returns-in_err-next-clause-only : goal.returns-in_err-next-clause-only
returns-in_err-next-clause-only g c = only_trans _ _ _ _ _ _ _ _ _ c.head.invariant.only c.in_err-next.ensures.only

pub returns-in-None-clause-read : goal.returns-in-None-clause-read
returns-in-None-clause-read g c = scan_runs_out _ _ _ c.head.bytes.items c.head.scan c.head.invariant.scans (rw c.in-None.is at c.in_ok-next.ensures.next) (omega arith)

pub returns-in-None-clause-short : goal.returns-in-None-clause-short
returns-in-None-clause-short g c = omega arith

pub returns-in-None-clause-only : goal.returns-in-None-clause-only
returns-in-None-clause-only g c = only_trans _ _ _ _ _ _ _ _ _ c.head.invariant.only c.in_ok-next.ensures.only

pub returns-in_err-push-clause-only : goal.returns-in_err-push-clause-only
returns-in_err-push-clause-only g c = only_trans _ _ _ _ _ _ _ _ _ c.head.invariant.only c.in_ok-next.ensures.only

pub returns-then-is_ended-clause-read : goal.returns-then-is_ended-clause-read
returns-then-is_ended-clause-read g c =
    let ended : is_ended (scan_after c.head.scan c.in-Some.byte) ≡ true = ap is_ended (sym c.after-scan.ensures) ∙ sym c.is_ended.ensures ∙ c.if-is_ended.true in
    rw c.in_ok-push.ensures.items (scan_ends _ _ _ c.head.bytes.items c.head.scan c.in-Some.byte c.head.invariant.scans (rw c.in-Some.is at c.in_ok-next.ensures.next) ended (omega arith))

pub returns-then-is_ended-clause-short : goal.returns-then-is_ended-clause-short
returns-then-is_ended-clause-short g c = rw (c.in_ok-push.ensures.items, length-append) (omega arith)

pub returns-then-is_ended-clause-only : goal.returns-then-is_ended-clause-only
returns-then-is_ended-clause-only g c = only_trans _ _ _ _ _ _ _ _ _ c.head.invariant.only c.in_ok-next.ensures.only

pub head-preserved : goal.head-preserved
head-preserved g c =
    let going : is_ended (scan_after c.head.scan c.in-Some.byte) ≡ false = ap is_ended (sym c.after-scan.ensures) ∙ sym c.is_ended.ensures ∙ c.if-is_ended.false in
    record {
      scans = rw (c.in_ok-push.ensures.items, c.after-scan.ensures) (scan_more _ _ _ c.head.bytes.items c.head.scan c.in-Some.byte c.head.invariant.scans (rw c.in-Some.is at c.in_ok-next.ensures.next) going);
      index = rw (c.in_ok-push.ensures.items, length-append) (omega arith);
      only = only_trans _ _ _ _ _ _ _ _ _ c.head.invariant.only c.in_ok-next.ensures.only;
    }

pub returns-clause-read : goal.returns-clause-read
returns-clause-read g c = scan_stops _ _ c.head.bytes.items c.head.scan c.head.invariant.scans (omega arith)

pub returns-clause-short : goal.returns-clause-short
returns-clause-short g c = omega arith

pub returns-clause-only : goal.returns-clause-only
returns-clause-only g c = c.head.invariant.only
