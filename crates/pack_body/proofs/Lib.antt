pub mod HasLaws
pub mod PartLaws
pub mod NodeLaws
pub mod WriterLaws
pub mod ImageParts
