pub mod Lists
pub mod Forest
