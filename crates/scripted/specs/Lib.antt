pub mod Asked
pub mod Feeding
pub mod Recording
