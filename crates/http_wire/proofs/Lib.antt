pub mod InboxLemmas
pub mod ReadingLemmas
pub mod ReceivedLemmas
pub mod ReplyAgain
pub mod ReplyLemmas
pub mod TakeLemmas
