pub mod SlotLists
pub mod Product
pub mod Page
