mod Buckets
pub mod Demand3
pub mod Examples
mod DrawnRows
pub mod Rows
pub mod RuleKinds
pub mod ForeignTypes
pub mod AgeBits
