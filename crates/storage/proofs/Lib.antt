-- What each instruction does to the bytes of a storage, proved.
pub mod Stored
