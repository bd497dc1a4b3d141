pub mod Laws
pub mod Maps
pub mod Tables
pub mod Walk
mod Examples
pub mod Bounds
pub mod AtKey
