use Rattle.std.proofs.Common.{◌≡◌, true, rules, arith}
use Rattle.tables_keeper.specs.Tables.{tables_of, table_at, row_at, fits_in_place}
use Rattle.tables_keeper.proofs.ViewLemmas.{in_place_parts}
use Rattle.tables_keeper.proofs.tables.Tables.update_at.Goals as goal

pub replace_cells-cells-requires-clause-fits : goal.replace_cells-cells-requires-clause-fits
replace_cells-cells-requires-clause-fits c =
    let tables = tables_of c.args.self.now in
    let old = (row_at c.args.row (table_at c.args.place tables)).cells in
    let yes : fits_in_place old c.in_ok-new.new tables ≡ true = search rules in
    omega (arith, in_place_parts tables old c.in_ok-new.new yes)
