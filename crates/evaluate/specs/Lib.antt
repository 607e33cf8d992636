-- The values of a set file's rows, and what evaluating answers.
pub mod Values
pub mod ValueLaws
pub mod Evaluate
