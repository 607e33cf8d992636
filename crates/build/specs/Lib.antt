-- Building: what the operation answers, and the start and the end of the turns.
pub mod Contract
pub mod Answer
