pub mod Chains
pub mod Texts
pub mod Loops
pub mod ActTexts
pub mod BlockTexts
pub mod Shown
pub mod Waiting
pub mod ProgramTexts
