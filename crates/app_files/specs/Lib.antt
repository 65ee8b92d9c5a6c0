pub mod FileSets
