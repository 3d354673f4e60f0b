pub mod Calls
pub mod Laws
pub mod Around
pub mod Made
