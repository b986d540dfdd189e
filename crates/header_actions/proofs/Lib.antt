mod Names
mod Settled
mod Considered
mod Planned
mod Changed
mod Ordered
mod ReadAgain
