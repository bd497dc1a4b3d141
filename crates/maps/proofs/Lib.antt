pub mod Maps
pub mod Pairs
pub mod Last
pub mod Places
pub mod LastKeys
