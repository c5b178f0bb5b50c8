pub mod Lines
pub mod Sides
pub mod Picks
pub mod Rounded
pub mod Making
pub mod Fits
pub mod Walks
