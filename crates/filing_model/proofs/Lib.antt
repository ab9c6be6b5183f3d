pub mod Alike
mod Alone
pub mod Answered
pub mod Answers
pub mod Appending
pub mod Bare
pub mod ContentTexts
pub mod Contents
pub mod Finals
pub mod Firsts
pub mod JsonTokens
pub mod Keeping
pub mod ListTokens
mod Listed
pub mod Lists
pub mod Marks
mod Numbering
pub mod OwnStyles
mod Owning
pub mod Posted
pub mod Replacing
pub mod Serving
pub mod Sizes
pub mod Steps
mod StopAtZero
pub mod Stopping
pub mod Styles
pub mod Valid
