-- A new driver (document 01, refusal 15; the Rust's `new`).
use Rattle.std.specs.Prelude.{ℕ, true, false, ◌&&◌, [], replicate, None}
use Rattle.rf233.specs.Action.{actions}
use Rattle.rf233.specs.Step.{quiet}
use Rattle.rf233.specs.Answer.{refused}
use Rattle.rf233.specs.Config.{channel_fits}
use Rattle.rf233.specs.Choice.{pick, within}
use Rattle.rf233.specs.Driver.{flags_of}
use Rattle.rf233.specs.Power.{setting_to_power}
use Rattle.rf233.specs.declared.answer.Outcome.{Outcome}
use Rattle.rf233.specs.declared.driver.Command.TheVariants as command
use Rattle.rf233.specs.declared.driver.Driver.{Driver}
use Rattle.rf233.specs.declared.driver.Under.TheVariants.{Idle}
use Rattle.rf233.specs.declared.line.Line.TheVariants.{Empty}
use Rattle.rf233.specs.declared.state.InternalState.TheVariants.{START}

-- the driver of a length of spi_buf and a channel: in START, every flag clear, no listener, addresses 0, the power of setting 0, its own
-- buffers in their places, no register transfer yet, no length held
abbrev pub new_driver : ℕ → ℕ → Driver
new_driver l c =
    record {
      state = START;
      flags = flags_of false false false false false false false false false false;
      clients = record { tx_client = false; rx_client = false; cfg_client = false; power_client = false };
      settings = record { addr = 0; addr_long = replicate 8 0; pan = 0; tx_power = setting_to_power 0; channel = c };
      buffers =
          record {
            spi_tx = true;
            spi_rx = true;
            spi_buf = true;
            spi_buf_whole = l;
            spi_buf_len = l;
            tx_buf = None;
            rx_line = Empty;
            tx_len = 0;
            under = Idle;
            command = command.Read 0 0;
          };
      reception = record { length = 0; spoiled = false };
    }

-- 15: a length outside 129 to 160 or a bad channel; the driver beside it is that of 129 and channel 26
unfoldable pub new_call : ℕ → ℕ → Outcome
new_call l c =
    pick (within 129 160 l && channel_fits c) (quiet (new_driver l c) (actions [])) (refused 15 (new_driver 129 26))
