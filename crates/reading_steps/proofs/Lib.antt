-- How readers put together answer and refuse, one lemma for each way to put them together: one behind another
-- (`bind_good`, `bind_law`), a choice by the first token (`if_good`, `good_choice`), a question for room (`fits_good`),
-- loops (`run_good`, `guarded_law`, `loop_law_good`), what stands behind a first token (`take_behind`, `tail_good`),
-- rows and lists with commas (`Lists`), a part and the token that closes it (`Chains`), a scope of its own
-- (`own_good`). Each carries what is kept of the scopes: `true` for what an expression leaves, `false` for what a
-- declaration does.
pub mod Keeping
pub mod Fresh
pub mod Steps
pub mod Lists
pub mod Chains
