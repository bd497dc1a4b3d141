pub mod SnapshotClaims
pub mod Steps
