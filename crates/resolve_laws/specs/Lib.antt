pub mod ShapeLaws
pub mod NameLaws
