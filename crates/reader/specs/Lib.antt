-- The codes, and what stands at a place of a program file.
pub mod Codes
pub mod Bodies
