pub mod Integers
pub mod Ring
pub mod Fractions
pub mod FractionRing
pub mod Quotients
pub mod Rounding
pub mod Dividing
