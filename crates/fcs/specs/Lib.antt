pub mod Fcs
pub mod Polynomial
pub mod Word
pub mod Flip
