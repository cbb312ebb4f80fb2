pub mod SlotRules
