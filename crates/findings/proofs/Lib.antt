pub mod Counts
pub mod Laws
pub mod Meaning
pub mod Walk
pub mod Reports
