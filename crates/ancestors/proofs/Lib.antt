-- For this crate and those that link it: `Laws` has what callers cite of a line.
mod Beside
mod Examples
pub mod Laws
mod Shift
mod Walked
