-- The laws of the check. What other crates cite: `Register` (the check is below 65,536, and the check of a list in two parts) and `Flip`.
-- `Product` and `Polynomial` are the claims of `specs/Polynomial`.
mod Xor
mod Turns
mod Form
pub mod Register
pub mod Product
mod Coefficients
pub mod Polynomial
mod Shortcut
mod Four
mod Bytes
pub mod Flip
