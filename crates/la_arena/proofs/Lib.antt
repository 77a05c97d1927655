pub mod Numbers
pub mod Numbered
pub mod MapLemmas
pub mod MapIterLemmas
pub mod EntryLemmas
