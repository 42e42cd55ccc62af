pub mod CallBytes
pub mod AnswerBytes
pub mod FrameBytes
