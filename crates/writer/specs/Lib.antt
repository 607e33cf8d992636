-- Writing a set: bytes at their places, the rows that are kept, and the contracts.
pub mod Put
pub mod Kept
pub mod Writes
pub mod Write
pub mod Table
pub mod Finish
