-- For this crate and those that link it: `Order` has the laws of sorting, `Bounds` those of `count_below` and `has`, and `Words` those of pairs in a list of words.
pub mod Bounds
pub mod Order
pub mod Words
