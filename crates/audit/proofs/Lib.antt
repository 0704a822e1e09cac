pub mod WalkLaws
pub mod ReplyLaws
