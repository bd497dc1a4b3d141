pub mod Answers
pub mod Claim
pub mod Decode
pub mod Steps
