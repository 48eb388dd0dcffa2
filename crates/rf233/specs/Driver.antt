-- The driver's flags, listeners and parts, each read by its name, and the driver with one of them changed. The fields of the flags are
-- listed in one definition (`flags_of`); everything else changes a field by its name.
use Rattle.std.specs.Prelude.{ℕ, Bool, cond, List, [], ◌∷◌, eqb, ℤ, Option}
use Rattle.rf233_const.specs.Bits.{bit_set}
use Rattle.rf233_const.specs.Flags.{rx_crc_valid_bit}
use Rattle.rf233.specs.State.{state_no}
use Rattle.rf233.specs.declared.driver.Command.{Command}
use Rattle.rf233.specs.declared.state.InternalState.{InternalState}
use Rattle.rf233.specs.declared.driver.Flags.{Flags}
use Rattle.rf233.specs.declared.driver.Client.{Client}
use Rattle.rf233.specs.declared.driver.Client.TheVariants as listener
use Rattle.rf233.specs.declared.driver.Clients.{Clients}
use Rattle.rf233.specs.declared.driver.Settings.{Settings}
use Rattle.rf233.specs.declared.driver.Buffers.{Buffers}
use Rattle.rf233.specs.declared.driver.Driver.{Driver}
use Rattle.rf233.specs.declared.driver.Lent.{Lent}
use Rattle.rf233.specs.declared.driver.Under.{Under}
use Rattle.rf233.specs.declared.reception.Reception.{Reception}
use Rattle.rf233.specs.Line.{line_of}

-- the Rust's cells of a bool, in the order of `Flags`
pub data Flag : Type 0 where
  radio_on transmitting receiving crc_valid interrupt_handling interrupt_pending : Flag
  config_pending sleep_pending wake_pending power_client_pending : Flag

-- the flags of these values, in that order
abbrev pub flags_of : Bool → Bool → Bool → Bool → Bool → Bool → Bool → Bool → Bool → Bool → Flags
flags_of a b c d e f g h i j =
    record {
      radio_on = a;
      transmitting = b;
      receiving = c;
      crc_valid = d;
      interrupt_handling = e;
      interrupt_pending = f;
      config_pending = g;
      sleep_pending = h;
      wake_pending = i;
      power_client_pending = j;
    }

-- the value of a flag
abbrev pub flag : Flag → Flags → Bool
flag radio_on f = f.radio_on
flag transmitting f = f.transmitting
flag receiving f = f.receiving
flag crc_valid f = f.crc_valid
flag interrupt_handling f = f.interrupt_handling
flag interrupt_pending f = f.interrupt_pending
flag config_pending f = f.config_pending
flag sleep_pending f = f.sleep_pending
flag wake_pending f = f.wake_pending
flag power_client_pending f = f.power_client_pending

-- numbers, to tell flags apart
abbrev pub flag_no : Flag → ℕ
flag_no radio_on = 0
flag_no transmitting = 1
flag_no receiving = 2
flag_no crc_valid = 3
flag_no interrupt_handling = 4
flag_no interrupt_pending = 5
flag_no config_pending = 6
flag_no sleep_pending = 7
flag_no wake_pending = 8
flag_no power_client_pending = 9

-- the value of flag y once flag x is v
abbrev pub after : Flag → Bool → Flags → Flag → Bool
after x v f y = cond (eqb (flag_no x) (flag_no y)) v (flag y f)

-- the flags with x set to v
abbrev pub set_flag : Flag → Bool → Flags → Flags
set_flag x v f =
    flags_of (after x v f radio_on) (after x v f transmitting) (after x v f receiving) (after x v f crc_valid)
    (after x v f interrupt_handling) (after x v f interrupt_pending) (after x v f config_pending) (after x v f sleep_pending)
    (after x v f wake_pending) (after x v f power_client_pending)

-- an assignment of a flag: its new value; `put_crc`: crc_valid becomes what the byte read from PHY_RSSI says
pub data Assignment : Type 0 where
  put : Flag → Bool → Assignment
  put_crc : Assignment

-- the flags after these assignments, made in order; r is the result byte
abbrev pub assign_all : ℕ → List Assignment → Flags → Flags
assign_all r [] f = f
assign_all r (put x v ∷ more) f = assign_all r more (set_flag x v f)
assign_all r (put_crc ∷ more) f = assign_all r more (set_flag crc_valid (bit_set rx_crc_valid_bit r) f)

-- whether a listener is there
abbrev pub client : Client → Clients → Bool
client listener.Transmit c = c.tx_client
client listener.Receive c = c.rx_client
client listener.Config c = c.cfg_client
client listener.Power c = c.power_client

-- the listeners with one made present or absent
abbrev pub listening : Client → Bool → Clients → Clients
listening listener.Transmit v c = record c { tx_client = v }
listening listener.Receive v c = record c { rx_client = v }
listening listener.Config v c = record c { cfg_client = v }
listening listener.Power v c = record c { power_client = v }

-- the settings with one of them changed
abbrev pub with_addr : ℕ → Settings → Settings
with_addr a s = record s { addr = a }

abbrev pub with_addr_long : List ℕ → Settings → Settings
with_addr_long l s = record s { addr_long = l }

abbrev pub with_pan : ℕ → Settings → Settings
with_pan p s = record s { pan = p }

abbrev pub with_tx_power : ℤ → Settings → Settings
with_tx_power t s = record s { tx_power = t }

abbrev pub with_channel : ℕ → Settings → Settings
with_channel c s = record s { channel = c }

-- the record with both register buffers in their places, or neither
abbrev pub with_registers : Bool → Buffers → Buffers
with_registers v b = record b { spi_tx = v; spi_rx = v }

-- the record with spi_buf in its place, or not
abbrev pub with_spi_buf : Bool → Buffers → Buffers
with_spi_buf v b = record b { spi_buf = v }

-- the record with another present length of spi_buf
abbrev pub with_spi_buf_len : ℕ → Buffers → Buffers
with_spi_buf_len l b = record b { spi_buf_len = l }

-- the record with another transmit place
abbrev pub with_tx : Option Lent → Buffers → Buffers
with_tx x b = record b { tx_buf = x }

-- the record with another line
abbrev pub with_line : List Lent → Buffers → Buffers
with_line l b = record b { rx_line = line_of l }

-- the record with another n
abbrev pub with_tx_len : ℕ → Buffers → Buffers
with_tx_len n b = record b { tx_len = n }

-- the record with another transfer under way or waiting
abbrev pub with_under : Under → Buffers → Buffers
with_under u b = record b { under = u }

-- the record with another command kept
abbrev pub with_command : Command → Buffers → Buffers
with_command c b = record b { command = c }

-- the driver in another state
abbrev pub with_state : InternalState → Driver → Driver
with_state s d = record d { state = s }

-- the driver with these flags
abbrev pub with_flags : Flags → Driver → Driver
with_flags f d = record d { flags = f }

-- the driver with these listeners
abbrev pub with_clients : Clients → Driver → Driver
with_clients c d = record d { clients = c }

-- the driver with these settings
abbrev pub with_settings : Settings → Driver → Driver
with_settings v d = record d { settings = v }

-- the driver with this record of its buffers
abbrev pub with_buffers : Buffers → Driver → Driver
with_buffers b d = record d { buffers = b }

-- the driver with this kept of a reception
abbrev pub with_reception : Reception → Driver → Driver
with_reception e d = record d { reception = e }

-- the driver after these assignments of its flags
abbrev pub assigning : ℕ → List Assignment → Driver → Driver
assigning r l d = with_flags (assign_all r l d.flags) d

-- the driver with one flag set
abbrev pub flagged : Flag → Bool → Driver → Driver
flagged x v d = with_flags (set_flag x v d.flags) d

-- the driver is in the state of this number
abbrev pub in_no : ℕ → Driver → Bool
in_no n d = eqb (state_no d.state) n
