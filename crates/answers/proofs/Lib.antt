mod Judging
mod Verdicts
mod Instrumented
mod Ran
mod Declined
mod Each
