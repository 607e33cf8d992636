-- What adding the rows of an expression asks for and leaves.
pub mod Made
pub mod Spelling
pub mod SpellLaws
