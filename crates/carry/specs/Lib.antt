-- What rewriting one set's rows onto another's knows and leaves, and its laws.
pub mod Carrying
pub mod CarryLaws
pub mod Copying
