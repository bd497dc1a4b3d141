pub mod Words
pub mod Trees
