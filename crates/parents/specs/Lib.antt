pub mod Roots
pub mod Chains
pub mod Sources
