-- A commit: how it starts, the table of its writes, and the cases of its states, 45 to 58.
use Rattle.std.specs.Prelude.{ℕ, false, List, [], ◌∷◌, ◌++◌, map}
use Rattle.rf233_const.specs.declared.register.RF233Register.TheVariants as register
use Rattle.rf233.specs.Action.{actions}
use Rattle.rf233.specs.Driver.Assignment.{put}
use Rattle.rf233.specs.Driver.Flag.{config_pending}
use Rattle.rf233.specs.Rows.{Tree, write}
use Rattle.rf233.specs.Rows.Access.{reads}
use Rattle.rf233.specs.Rows.Next.{to}
use Rattle.rf233.specs.Rows.Row.{does}
use Rattle.rf233.specs.Rows.Shown.{config_done}
use Rattle.rf233.specs.Rows.Tree.{leaf}
use Rattle.rf233.specs.Step.{step_of, quiet, by_answer}
use Rattle.rf233.specs.Write.{row, row_at, row_starter}
use Rattle.rf233.specs.declared.answer.Outcome.{Outcome}
use Rattle.rf233.specs.declared.driver.Driver.{Driver}
use Rattle.rf233.specs.declared.state.InternalState.TheVariants as state
use Rattle.rf233.specs.declared.write.Value.TheVariants.{Channel, Power, PanHigh, PanLow, AddrHigh, AddrLow, Long}
use Rattle.rf233.specs.declared.write.Write.{Write}

-- the first write of a commit: the low byte of the short address (the datasheet's SHORT_ADDR_0)
abbrev pub first_write : Write
first_write = row register.SHORT_ADDR_0 AddrLow state.CONFIG_SHORT0_SET

-- a commit starts with its first write, and the step ends there; where a transfer is under way, or waits, the commit only waits (requests
-- 2026-02 and 2026-05)
unfoldable pub start_commit : Driver → Outcome
start_commit d =
    let first = row_starter first_write d in
    by_answer first.answer (step_of first (actions [])) (quiet d (actions [])) (quiet d (actions []))

-- what is written in the states 45 to 57
abbrev pub commit_table : List Write
commit_table =
    row register.SHORT_ADDR_1 AddrHigh state.CONFIG_SHORT1_SET
    ∷ row register.PAN_ID_0 PanLow state.CONFIG_PAN0_SET
    ∷ row register.PAN_ID_1 PanHigh state.CONFIG_PAN1_SET
    ∷ row register.IEEE_ADDR_0 (Long 0) state.CONFIG_IEEE0_SET
    ∷ row register.IEEE_ADDR_1 (Long 1) state.CONFIG_IEEE1_SET
    ∷ row register.IEEE_ADDR_2 (Long 2) state.CONFIG_IEEE2_SET
    ∷ row register.IEEE_ADDR_3 (Long 3) state.CONFIG_IEEE3_SET
    ∷ row register.IEEE_ADDR_4 (Long 4) state.CONFIG_IEEE4_SET
    ∷ row register.IEEE_ADDR_5 (Long 5) state.CONFIG_IEEE5_SET
    ∷ row register.IEEE_ADDR_6 (Long 6) state.CONFIG_IEEE6_SET
    ∷ row register.IEEE_ADDR_7 (Long 7) state.CONFIG_IEEE7_SET
    ∷ row register.PHY_TX_PWR Power state.CONFIG_POWER_SET
    ∷ row register.PHY_CC_CCA Channel state.CONFIG_DONE
    ∷ []

-- row k of the table, of 13
abbrev pub commit_row : ℕ → Write
commit_row = row_at commit_table

-- the cases of the states 45 to 58
abbrev pub commit_trees : List Tree
commit_trees =
    map write commit_table
    ++ (leaf (does (put config_pending false ∷ []) (reads register.TRX_STATUS) (to state.READY) (config_done ∷ [])) ∷ [])
