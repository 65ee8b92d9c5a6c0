pub mod BodyLemmas
pub mod MarkLemmas
pub mod NumberLemmas
pub mod PlaceLaws
pub mod ScanLemmas
pub mod TokenLaws
pub mod UntilLemmas
