mod Snapshots
