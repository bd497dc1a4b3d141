pub mod SnapshotLinks
pub mod Steps
