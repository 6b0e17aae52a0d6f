pub mod ShapeLaws
pub mod CommandLaws
pub mod PushLaws
