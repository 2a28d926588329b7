pub mod EdgeLemmas
pub mod RankLemmas
pub mod Legal
pub mod Deafness
pub mod Grouped
pub mod Suspects
