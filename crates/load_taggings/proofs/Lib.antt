pub mod PutTaggings
pub mod SplitPut
