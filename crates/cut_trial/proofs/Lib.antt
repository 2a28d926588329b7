mod Ascending
mod Settled
mod Placed
mod Grouped
mod Judged
