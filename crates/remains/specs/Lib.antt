pub mod Slot
pub mod Count
