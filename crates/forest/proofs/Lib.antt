-- For this crate and those that link it: `Theorem` is demand 3 of a list, `Rules` has the rules on their own, `Absent` the laws of absent kinds.
pub mod Absent
mod Chains
pub mod Lists
mod Maps
mod Reading
mod Roots
pub mod Rules
pub mod Theorem
