mod Counts
mod Moves
mod Openings
mod Closings
