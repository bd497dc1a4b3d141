pub mod SnapshotStates
pub mod Steps
