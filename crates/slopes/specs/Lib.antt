pub mod Kind
pub mod KindLaws
pub mod Family
pub mod FamilyLaw
