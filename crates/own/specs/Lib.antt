-- What making an instruction's own set asks for and leaves.
pub mod Changes
pub mod ChangeLaws
pub mod Mains
pub mod Owning
pub mod OwnLaws
