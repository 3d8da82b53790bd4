pub mod Texts
pub mod Scenes
pub mod Annotated
pub mod Comments
pub mod Reports
pub mod Solutions
