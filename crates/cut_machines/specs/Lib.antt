pub mod JoinSources
pub mod JoinTarget
pub mod JoinCommand
pub mod Share
pub mod Laws
pub mod inside
