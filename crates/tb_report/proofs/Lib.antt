pub mod JoinedTexts
pub mod CountLemmas
pub mod PrintLemmas
