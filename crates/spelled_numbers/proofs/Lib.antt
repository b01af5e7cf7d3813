pub mod SmallNumbers
pub mod SpelledSmall
