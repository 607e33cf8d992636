-- Choice by a row between two sets over one table: what it knows and leaves, and its laws.
pub mod Choosing
pub mod ChoiceLaws
