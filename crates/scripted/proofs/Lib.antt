pub mod SameEntry
