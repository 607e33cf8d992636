-- A text in an output, numbers in decimal, and the lines that are printed.
pub mod Puts
pub mod Decimal
pub mod Texts
