pub mod AnyEnd
pub mod Open
pub mod Causes
pub mod Parses
pub mod OneAnswer
pub mod FewFunctions
pub mod EachText
