-- What a set file spells, and its check.
pub mod Spelt
pub mod Judging
pub mod Fit
pub mod Naming
pub mod Check
pub mod Answer
