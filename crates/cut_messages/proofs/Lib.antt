pub mod Frames
pub mod Streams
pub mod Looks
pub mod Pieces
pub mod Answered
pub mod Heard
