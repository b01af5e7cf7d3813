mod OneTrace
mod Closed
mod Holders
mod EachTrace
