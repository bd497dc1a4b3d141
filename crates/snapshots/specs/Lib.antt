pub mod SnapshotSubvolFlags
