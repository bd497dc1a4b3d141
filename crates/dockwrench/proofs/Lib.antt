mod Laws
mod Decode
pub mod Demand3
pub mod Witness
