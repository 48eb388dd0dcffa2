-- `startup_write` meets its contract: the table in the code is the definition's, row by row (`same_row`). Assumes nothing.
use Rattle.std.proofs.Common.{ap, ◌∙◌}
use Rattle.rf233.specs.Startup.{startup_table}
use Rattle.rf233.specs.Write.{table_write}
use Rattle.rf233.specs.declared.write.Write.{Write}
use Rattle.rf233.proofs.Tables.{same_row}
use Rattle.rf233.proofs.driver.Driver.startup_write.Goals as goal

pub returns : goal.returns
returns c = c.table_write.ensures ∙ ap (λ (w : Write). table_write w c.args.self) (same_row startup_table _ _ c.args.k c.requires)
