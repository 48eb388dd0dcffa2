-- The SPI command byte (AT86RF233 datasheet, "SPI Command Byte Definition"): the first byte of every access.
use Rattle.std.specs.Prelude.{ℕ, ◌+◌}
use Rattle.rf233_const.specs.Bits.{field_at}
use Rattle.rf233_const.specs.declared.command.RF233BusCommand.{RF233BusCommand}
use Rattle.rf233_const.specs.declared.command.RF233BusCommand.TheVariants.{
  REGISTER_READ,
  REGISTER_WRITE,
  FRAME_READ,
  FRAME_WRITE,
  SRAM_READ,
  SRAM_WRITE,
}

-- A register read. In a register access the top two bits are 10 to read and 11 to write, the lower six are the register's address.
abbrev pub register_read : ℕ → ℕ
register_read address = field_at 6 0b10 + address

-- A register write.
abbrev pub register_write : ℕ → ℕ
register_write address = field_at 6 0b11 + address

-- A frame buffer read. In a frame buffer or SRAM access the top three bits say which, the lower five are reserved and sent as 0.
abbrev pub frame_read : ℕ
frame_read = field_at 5 0b001

-- A frame buffer write.
abbrev pub frame_write : ℕ
frame_write = field_at 5 0b011

-- An SRAM read.
abbrev pub sram_read : ℕ
sram_read = field_at 5 0b000

-- An SRAM write.
abbrev pub sram_write : ℕ
sram_write = field_at 5 0b010

-- The byte of each bus command, of a register access at address 0.
abbrev pub bus_command : RF233BusCommand → ℕ
bus_command REGISTER_READ = register_read 0
bus_command REGISTER_WRITE = register_write 0
bus_command FRAME_READ = frame_read
bus_command FRAME_WRITE = frame_write
bus_command SRAM_READ = sram_read
bus_command SRAM_WRITE = sram_write
