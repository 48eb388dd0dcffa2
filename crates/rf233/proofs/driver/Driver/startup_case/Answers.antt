-- `startup_case` meets its contract: the startup table has what the trees of 4 to 24 write. Assumes nothing.
use Rattle.std.proofs.Common.{refl, ◌∙◌, arith}
use Rattle.rf233.specs.Case.{trees, tree_at}
use Rattle.rf233.specs.Startup.{startup_row}
use Rattle.rf233.proofs.Tables.{table_case}
use Rattle.rf233.proofs.driver.Driver.startup_case.Goals as goal

pub returns : goal.returns
unfolding trees tree_at
returns c =
    let n = c.from in
    c.startup_write.ensures
    ∙ table_case startup_row 2 4 21 refl c.args.a c.args.self n.result n.ensures (omega arith) (omega arith)
