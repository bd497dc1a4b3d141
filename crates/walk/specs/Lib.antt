pub mod Keys
pub mod Gives
