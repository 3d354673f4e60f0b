pub mod Inputs
pub mod Firsts
pub mod Fits
