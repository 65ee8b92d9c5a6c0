use Rattle.std.proofs.Common.{◌≡◌, false, codes, rules}
use Rattle.std.specs.Str.{bytes_eq}
use Rattle.tables_keeper.specs.declared.cell.Column.{Column}
use Rattle.tables_keeper.specs.Rows.{put_column}
use Rattle.tables_bench.proofs.NoteLemmas.{plain_put}
use Rattle.tables_bench.proofs.load.put_cell.Goals as goal

pub returns : goal.returns
returns c =
    let column : Column = record { name = c.in_ok-name.name; cell = c.args.cell } in
    let new : c.put.new.self ≡ put_column c.args.row.now column = search rules in
    let other : bytes_eq column.name (codes "id") ≡ false = search rules in
    rw new (plain_put c.args.row.now column c.requires.plain other)
