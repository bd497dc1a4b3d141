pub mod CheckKeyType
pub mod ListedOnce
pub mod Steps
