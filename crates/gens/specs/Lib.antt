pub mod BucketGensAgainstAlloc
pub mod Steps
