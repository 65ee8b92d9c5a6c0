pub mod NameLemmas
pub mod KeyLemmas
pub mod SignLemmas
