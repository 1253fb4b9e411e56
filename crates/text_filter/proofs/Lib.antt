pub mod ReplacedText
pub mod WordPlaces
mod WordLanes
pub mod FilteredText
pub mod WrittenBeginnings
pub mod LineAnswers
pub mod LineEnds
pub mod ChunkBytes
pub mod Copied
mod Printed
mod PrefixChars
mod WordTurns
