pub mod Limits
pub mod Cells
pub mod Readings
pub mod Meaning
pub mod Pairing
pub mod PairLaws
pub mod Items
pub mod ItemLaws
