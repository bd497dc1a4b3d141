pub mod KeyFindings
pub mod Present
pub mod Steps
