pub mod Deliveries
pub mod Exchanged
pub mod Fronts
pub mod Happenings
pub mod Kept
pub mod Cut
pub mod Pieces
pub mod Replies
