pub mod SubvolumeStates
pub mod Steps
