pub mod Family
pub mod FamilyLaw
