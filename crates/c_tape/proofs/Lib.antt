pub mod BlockLemmas
pub mod NodeLemmas
pub mod TodoLemmas
