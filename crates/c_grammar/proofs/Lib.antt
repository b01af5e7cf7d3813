pub mod Beginnings
mod SpelledSamples
mod NotSpelledSamples
mod Groups
mod OpenFronts
mod DeepSamples
