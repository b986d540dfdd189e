pub mod PatternLast
pub mod FrameSteps
