-- What composing answers.
pub mod Contract
pub mod Answer
pub mod Unchanging
