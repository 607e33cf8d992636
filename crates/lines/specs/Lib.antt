-- The text of the set in a file, room for it, and what is printed of a program.
pub mod Sets
pub mod Room
pub mod Answer
