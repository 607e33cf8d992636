-- The laws of a turn of building.
pub mod JumpLaws
pub mod TurnLaws
