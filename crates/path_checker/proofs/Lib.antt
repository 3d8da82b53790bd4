mod Stepping
mod Splits
pub mod Numbers
pub mod Decimals
pub mod Lacking
mod Reading
mod WholeReports
mod Placed
mod Ordered
mod Sameness
pub mod ReportChecks
