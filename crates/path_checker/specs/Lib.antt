pub mod Orders
pub mod Start
pub mod Walks
pub mod Lines
pub mod Report
pub mod Reader
pub mod Grammar
pub mod ReportChecks
