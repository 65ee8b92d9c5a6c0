pub mod Walks
pub mod Keys
pub mod Verdicts
pub mod Bodies
pub mod CopiedTrees
pub mod DirectTrees
pub mod PartsOf
pub mod CopyParts
