pub mod Rules
pub mod Kinds
pub mod Rows
pub mod ForeignTypes
pub mod AgeBits
