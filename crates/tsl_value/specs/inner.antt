pub mod ViewCode
pub mod Laws
pub mod ScalarOrder
