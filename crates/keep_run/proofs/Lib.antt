pub mod Asked
mod Faults
mod Told
mod Kept
mod Answered
mod Stopped
mod Ended
mod Ran
