-- Appending a row to a table.
pub mod Append
