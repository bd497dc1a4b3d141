pub mod Classes
pub mod Scan
pub mod Drawn
pub mod Alone
