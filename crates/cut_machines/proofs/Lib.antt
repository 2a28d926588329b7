pub mod FilesOfShares
pub mod ResumedShares
pub mod JoinSourceLemmas
pub mod JoinTargetLemmas
pub mod JoinText
pub mod Unread
pub mod JoinEnds
pub mod ShareLemmas
