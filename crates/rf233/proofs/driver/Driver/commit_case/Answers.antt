-- `commit_case` meets its contract: the commit table has what the trees of 45 to 57 write. Assumes nothing.
use Rattle.std.proofs.Common.{refl, ap, ◌∙◌, ◌-◌, arith}
use Rattle.rf233.specs.Case.{trees, tree_at}
use Rattle.rf233.specs.Commit.{commit_table, commit_row}
use Rattle.rf233.specs.Write.{table_write}
use Rattle.rf233.specs.declared.write.Write.{Write}
use Rattle.rf233.proofs.Tables.{same_row, table_case}
use Rattle.rf233.proofs.driver.Driver.commit_case.Goals as goal

pub returns : goal.returns
unfolding trees tree_at
returns c =
    let n = c.from in
    let row = n.result - 45 in
    c.table_write.ensures
    ∙ (ap (λ (w : Write). table_write w c.args.self) (same_row commit_table _ _ row (omega arith))
    ∙ table_case commit_row 45 45 13 refl c.args.a c.args.self n.result n.ensures (omega arith) (omega arith))
