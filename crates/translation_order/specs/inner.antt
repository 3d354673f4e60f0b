pub mod Laws
pub mod Answer
pub mod Taking
pub mod Walking
pub mod Joined
pub mod Searching
