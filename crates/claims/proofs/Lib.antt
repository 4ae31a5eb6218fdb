pub mod BitLaws
pub mod UnitLaws
pub mod SlotLaws
