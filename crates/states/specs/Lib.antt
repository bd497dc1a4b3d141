pub mod StateDistance
pub mod NeverAToss
pub mod CheckStateWords
pub mod Steps
