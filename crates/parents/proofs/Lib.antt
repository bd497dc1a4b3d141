-- For this crate and those that link it: `Links` has one link up, `Climb` a walk of them, `Laws` what callers cite of it.
pub mod Climb
mod Examples
pub mod Laws
pub mod Links
mod Viewed
pub mod Sources
