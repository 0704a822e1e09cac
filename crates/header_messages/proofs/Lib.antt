pub mod HeaderBlock
pub mod HeaderSteps
