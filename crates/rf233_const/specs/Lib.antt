pub mod Bits
pub mod Register
pub mod Command
pub mod Interrupt
pub mod Status
pub mod TrxState
pub mod Flags
pub mod Settings
