pub mod Keys
pub mod Gather
pub mod Sets
pub mod Visits
pub mod Puts
pub mod Passed
