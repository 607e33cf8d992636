pub mod Fields
pub mod Lent
