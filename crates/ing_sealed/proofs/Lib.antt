mod ExtentLaws
mod FoundLaws
pub mod JoinLaws
mod KeptLaws
mod ListedLaws
pub mod PutLaws
mod SlotLaws
