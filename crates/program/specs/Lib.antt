-- What the crate's contracts say, and the laws that their proofs cite.
pub mod Stages
pub mod Chains
pub mod Header
pub mod Expr
pub mod Reading
pub mod Codes
pub mod Body
pub mod Walk
pub mod Last
pub mod Rest
pub mod Check
pub mod Standing
pub mod Accepted
pub mod Programs
