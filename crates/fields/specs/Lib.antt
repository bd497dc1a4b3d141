pub mod CheckKeyDevice
pub mod CheckKeyFields
pub mod Steps
