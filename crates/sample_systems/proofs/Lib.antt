pub mod SampleLemmas
pub mod MergedLemmas
