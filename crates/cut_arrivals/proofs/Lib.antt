pub mod RanksRanks
pub mod Closings
pub mod RanksChoices
pub mod BlocksLanes
pub mod Eights
pub mod Words
pub mod Copies
pub mod Both
pub mod LanesChoices
pub mod Insertions
pub mod Tests
pub mod RankLemmas
pub mod Modes
pub mod Found
pub mod Rises
pub mod Closes
pub mod Changes
pub mod FirstTimes
pub mod Observers
pub mod ProposalsKept
pub mod ProposalsHeard
pub mod ProposalsPlaced
pub mod Ends
pub mod Least
pub mod Values
pub mod ProposalsJudged
pub mod ListLemmas
pub mod KeyPlaceLemmas
pub mod RunLemmas
pub mod HeardLemmas
pub mod CauseLemmas
pub mod GainLemmas
pub mod CandidateLemmas
mod ReceiversChoices
mod Drawn
mod Bounds
mod ReceiversHeard
mod ReceiversPlaced
mod Pairs
mod Flags
mod Marks
mod ReceiversJudged
mod Counted
mod ReceiversKept
mod Counts
mod Proposed
mod Copied
pub mod Consecutive
