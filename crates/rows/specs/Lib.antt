-- Rows as numbers, a table in a lent slice, and adding to it.
pub mod Entries
pub mod Table
pub mod Stored
pub mod Adding
pub mod Making
pub mod Heads
