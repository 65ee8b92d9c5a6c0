use Rattle.php_values.specs.Data.{data_of}
use Rattle.php_world.specs.Places.{write_at}
use Rattle.php_world.specs.View.{step_of, path_of, change_of}
use Rattle.php_world.proofs.Writes.{fresh, write_found, missing_full, missing_ok, missing_err, put_back}
use Rattle.php_world.proofs.write.+write.Goals as goal

pub write_fresh-returns : goal.write_fresh-returns
write_fresh-returns t c =
    fresh (step_of c.args.step.now) (write_at (path_of c.args.more.now) (change_of c.args.change)) c.new-map.result c.write_map.new.map c.in_ok-array.array c.new-map.ensures.pairs c.new-map.ensures.next
    c.in_ok-write_map.ensures c.in_ok-array.ensures

pub write_key-returns-then-is_full : goal.write_key-returns-then-is_full
write_key-returns-then-is_full t c n =
    missing_full c.args.key (write_at (path_of c.args.more.now) (change_of c.args.change)) c.args.map.now c.replace.new.self c.in-None.ensures.found c.in-None.ensures.pairs c.in-None.ensures.next c.if-is_full.ensures

pub write_key-returns-in-Some : goal.write_key-returns-in-Some
write_key-returns-in-Some t c =
    write_found c.write_value-done.result c.replace-hole.result c.args.key (write_at (path_of c.args.more.now) (change_of c.args.change)) c.in-Some.inner c.write_value-done.new.old c.args.map.now c.replace.new.self
    c.replace-hole.new.self c.in-Some.ensures.found c.in-Some.ensures.pairs c.in-Some.ensures.next c.replace-hole.ensures.found c.replace-hole.ensures.pairs c.replace-hole.ensures.next c.write_value-done.ensures

pub write_key-returns-in_ok-_none-in-Ok : goal.write_key-returns-in_ok-_none-in-Ok
write_key-returns-in_ok-_none-in-Ok t c =
    missing_ok c.args.key (write_at (path_of c.args.more.now) (change_of c.args.change)) c.in-Ok.inner c.args.map.now c.replace.new.self c.set.new.self c.in-None.ensures.found c.in-None.ensures.pairs c.in-None.ensures.next
    c.if-is_full.ensures c.in-Ok.ensures c.in_ok-_none-in-Ok.ensures.pairs c.in_ok-_none-in-Ok.ensures.next

pub write_key-returns-in-Err : goal.write_key-returns-in-Err
write_key-returns-in-Err t c n =
    missing_err c.args.key (write_at (path_of c.args.more.now) (change_of c.args.change)) c.args.map.now c.replace.new.self c.in-Err.fault c.in-None.ensures.found c.in-None.ensures.pairs c.in-None.ensures.next
    c.if-is_full.ensures (c.in-Err.ensures n)

pub write_step-returns : goal.write_step-returns
write_step-returns t c =
    put_back c.write_shared-done.result (step_of c.args.step.now) (write_at (path_of c.args.more.now) (change_of c.args.change)) (data_of c.args.old.now) c.in_ok-array.array _ c.if-is_blank.ensures c.in_ok-array.ensures
    c.write_shared-done.ensures
