mod Steps
mod Told
mod Ended
mod One
mod Followed
