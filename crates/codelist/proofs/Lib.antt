pub mod Listing
pub mod Stepping
pub mod Worked
