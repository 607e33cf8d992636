-- What the codes' instructions ask for and leave.
pub mod Perform
pub mod PerformLaws
pub mod Value
pub mod ValueLaws
