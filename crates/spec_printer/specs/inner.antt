pub mod Marks
pub mod Follow
pub mod Same
pub mod Print
pub mod Back
