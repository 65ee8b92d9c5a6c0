mod Misses
mod Searched
mod Listing
