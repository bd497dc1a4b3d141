-- For this crate and those that link it: `Foreign` has keys of foreign types.
mod Laws
pub mod Foreign
mod Others
mod Quiet
