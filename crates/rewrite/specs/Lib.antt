-- What one set after another over one table has to know and leaves, and its laws.
pub mod Carrying
pub mod CarryLaws
pub mod Follow
pub mod FollowLaws
