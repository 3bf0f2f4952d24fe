pub mod KeyFacts
pub mod PlainFacts
pub mod ViewFacts
pub mod EarlierFacts
pub mod NamingFacts
pub mod AnswerFacts
pub mod Rows
