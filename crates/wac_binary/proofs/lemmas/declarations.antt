pub mod ChunkLaws
pub mod DeclLaws
pub mod FormatLaws
pub mod ModuleLaws
pub mod AnswerLaws
