pub mod ProgramLemmas
pub mod QuotedPaths
pub mod RefusedFiles
pub mod ShareEnds
