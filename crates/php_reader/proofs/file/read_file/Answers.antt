use Rattle.std.proofs.Common.{◌≡◌, true, false}
use Rattle.php_reading.specs.Reading.{is_empty}
use Rattle.php_reading.proofs.File.{file_read, file_left, file_stopped, read_fewer, stopped_fewer}
use Rattle.php_reader.proofs.file.read_file.Goals as goal

pub returns-then-is_at_end-clause-ok : goal.returns-then-is_at_end-clause-ok
returns-then-is_at_end-clause-ok g c =
    let e : is_empty (g.P.Pieces.left c.read.new.self.pieces) ≡ true = cc in file_read _ _ (g.P.Pieces.left c.read.new.self.pieces) c.in-Ok.ensures.ok e

pub overflow_sub-result : goal.overflow_sub-result
overflow_sub-result g c =
    let n = read_fewer (g.P.Pieces.left c.args.pieces) (g.P.Pieces.left c.read.new.self.pieces) c.in-Ok.ensures.ok in rw (c.count.ensures, c.count-all.ensures) n

pub returns-in-Ok-clause-err : goal.returns-in-Ok-clause-err
returns-in-Ok-clause-err g c =
    let e : is_empty (g.P.Pieces.left c.read.new.self.pieces) ≡ false = cc in
    rw (c.count.ensures, c.count-all.ensures) (file_left (g.P.Pieces.left c.args.pieces) _ (g.P.Pieces.left c.read.new.self.pieces) c.in-Ok.ensures.ok e)

pub overflow_sub-result-in-Err-At : goal.overflow_sub-result-in-Err-At
overflow_sub-result-in-Err-At g c =
    let s = rw c.in-Err-At.field-0-is at c.in-Err-At.ensures.err in
    rw (c.count-in-Err-At.ensures, c.count-all.ensures) (stopped_fewer (g.P.Pieces.left c.args.pieces) c.in-Err-At.fault (g.P.Pieces.left c.read.new.self.pieces) s)

pub returns-in-Err-At-clause-err : goal.returns-in-Err-At-clause-err
returns-in-Err-At-clause-err g c =
    let s = rw c.in-Err-At.field-0-is at c.in-Err-At.ensures.err in
    rw (c.count-in-Err-At.ensures, c.count-all.ensures) (file_stopped (g.P.Pieces.left c.args.pieces) c.in-Err-At.fault (g.P.Pieces.left c.read.new.self.pieces) s)
