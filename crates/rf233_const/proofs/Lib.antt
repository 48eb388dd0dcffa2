pub mod Corners
pub mod Masks
