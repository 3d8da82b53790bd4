use Rattle.std.proofs.Common.{ℕ, ◌∙◌, sym, subst}
use Rattle.flow_graph.specs.System.{AllBelow}
use Rattle.error_path.specs.Reaching.{HasRoom}
use Rattle.error_path.proofs.Over.{empty_over}
use Rattle.error_path.proofs.Searching.{below_on, leads_in, started_on}
use Rattle.error_path.proofs.search.search_from.Goals as goal

pub start-requires-clause-below : goal.start-requires-clause-below
start-requires-clause-below c =
    let Of : ℕ → Type 0 = λ k. AllBelow c.args.graph.now k in
    subst Of (sym c.new-search.ensures.size) c.requires.below

pub start-requires-clause-room : goal.start-requires-clause-room
start-requires-clause-room c =
    let Of : ℕ → Type 0 = λ k. HasRoom c.args.origin.now k in
    subst Of (sym c.new-search.ensures.size) c.requires.room

-- each variable of the system has a mark after the start
pub run-requires-clause-below : goal.run-requires-clause-below
run-requires-clause-below c =
    let Of : ℕ → Type 0 = λ k. AllBelow c.args.graph.now k in
    below_on c.args.graph.now c.new-search.result c.start.new.self c.in_ok-start.ensures.grows
    (subst Of (sym c.new-search.ensures.size) c.requires.below)

pub run-requires-clause-over : goal.run-requires-clause-over
run-requires-clause-over c =
    empty_over c.args.graph.now c.args.lattice c.args.summaries.now c.args.passed.now c.start.new.self c.requires.size
    c.requires.none

-- a search that started and ran is good for its origin
pub returns-clause-good : goal.returns-clause-good
returns-clause-good c =
    c.in_ok-run.ensures.good c.args.origin.now
    (c.in_ok-start.ensures.good c.args.summaries.now
    (c.new-search.ensures.good c.args.graph.now c.args.lattice c.args.origin.now c.args.summaries.now c.requires.below))

-- with all summaries at hand, the queue has each variable that the origin leads to
pub returns-clause-whole : goal.returns-clause-whole
returns-clause-whole c = λ whole.
    let good = c.in_ok-run.ensures.good c.args.origin.now
    (c.in_ok-start.ensures.good c.args.summaries.now (c.new-search.ensures.good c.args.graph.now c.args.lattice
    c.args.origin.now c.args.summaries.now c.requires.below)) in
    leads_in c.args.graph.now c.args.lattice c.args.origin.now c.args.summaries.now c.run.new.self whole good
    (started_on c.args.graph.now c.args.lattice c.args.origin.now c.start.new.self c.run.new.self
    c.in_ok-run.ensures.grows c.in_ok-start.ensures.started) c.in_ok-run.ensures.visited

pub returns-clause-marks : goal.returns-clause-marks
returns-clause-marks c = c.in_ok-run.ensures.grows.size ∙ c.in_ok-start.ensures.grows.size ∙ c.new-search.ensures.size

pub returns-clause-passed : goal.returns-clause-passed
returns-clause-passed c = c.in_ok-run.ensures.over.room
