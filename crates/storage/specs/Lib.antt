-- The cells of a storage as bytes, and what an instruction does to them.
pub mod Cells
pub mod Moves
pub mod Stores
pub mod Checked
