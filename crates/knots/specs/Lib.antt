pub mod Knots
pub mod Tables
pub mod Values
pub mod Extremes
