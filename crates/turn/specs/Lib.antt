-- Turns of building: what one knows and leaves.
pub mod Turning
pub mod Slots
