mod Lists
mod Cut
mod Found
mod Told
mod InFolder
mod Steps
