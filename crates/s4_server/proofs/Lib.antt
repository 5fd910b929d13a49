mod Newest
mod Seating
mod Told
