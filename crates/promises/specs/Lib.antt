-- The promises: one module for each demand, and what an answer tells.
pub mod Answers
pub mod Demand1
pub mod Demand2
pub mod Demand3
