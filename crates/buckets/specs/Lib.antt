pub mod FreeSpace
pub mod Steps
