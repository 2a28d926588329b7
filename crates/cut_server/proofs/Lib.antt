pub mod AttendLemmas
pub mod ReportLemmas
pub mod Histories
