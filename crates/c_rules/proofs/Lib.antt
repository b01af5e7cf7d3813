pub mod Members
mod Least
mod Breaks
mod Passed
mod Judgements
mod NamingSampled
mod UsingSampled
mod ThreadSampled
