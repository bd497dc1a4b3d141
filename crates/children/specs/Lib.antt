pub mod SubvolumeChildren
pub mod Steps
