mod Beside
mod Enough
