mod Bodies
mod Names
mod Copied
mod Programs
