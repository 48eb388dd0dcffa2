pub mod WordLaws
pub mod Digits
pub mod ArgumentLaws
pub mod ParseLaws
