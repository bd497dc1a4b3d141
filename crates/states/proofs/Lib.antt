-- For this crate and those that link it: `Bits` ties the machine's count of bits to `distance`.
pub mod Bits
mod Examples
pub mod NeverAToss
mod Words
