pub mod Names
pub mod ReportText
pub mod ReportFits
