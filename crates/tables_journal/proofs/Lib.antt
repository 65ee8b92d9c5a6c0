pub mod CutLemmas
pub mod JournalLemmas
pub mod ReadBack
pub mod RowTextLemmas
pub mod TextLemmas
