pub mod AgreementFacts
pub mod BuildFacts
pub mod EachFacts
pub mod JoinFacts
pub mod TotalFacts
pub mod TreeFacts
