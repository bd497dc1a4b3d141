pub mod Masks
pub mod ListedOnce
pub mod Laws
