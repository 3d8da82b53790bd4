use Rattle.std.proofs.Common.{◌≡◌, ℕ, ◌≤◌, refl, sym, subst, arith}
use Rattle.std.proofs.lemmas.Result.{on_ok_weaker}
use Rattle.qual_base.proofs.Tests.{some_number}
use Rattle.flow_graph.specs.declared.constraint.Link.TheVariants.{Le, Enter, Leave}
use Rattle.flow_graph.specs.PathRules.{link_begins}
use Rattle.flow_graph.specs.System.{Stands, owner_of, vars_of_link}
use Rattle.flow_graph.specs.declared.phase.Phase.{Phase}
use Rattle.flow_graph.specs.declared.phase.Phase.TheVariants.{First}
use Rattle.error_path.specs.Marks.{size_of}
use Rattle.flow_graph.specs.Parts.{settled}
use Rattle.error_path.specs.Reaching.{LeadsBy, ByFlow, ByLeave, ByEnter}
use Rattle.error_path.proofs.Searching.{below_on, stands_on, comes_step, enter_followed, key_of_link, low_of, stands_in}
use Rattle.error_path.proofs.Over.{over_on}
use Rattle.error_path.proofs.search.Search.follow.Goals as goal

-- the variable that an `Le` leads to has a mark
pub note-requires : goal.note-requires
note-requires c =
    let low : vars_of_link (Le c.in-Le.field-0 c.in-Le.to) ≤ size_of c.args.self.now.marks =
    low_of c.args.graph.now c.args.lattice c.args.edge c.constraint-constraint.result
    (Le c.in-Le.field-0 c.in-Le.to) c.constraint-constraint.ensures.there c.in-Le.is _ c.requires.below in
    omega arith

-- the variable that a `Leave` leads to has a mark
pub note-requires-in-Leave : goal.note-requires-in-Leave
note-requires-in-Leave c =
    let low : vars_of_link (Leave c.in-Leave.field-0 c.in-Leave.field-1 c.in-Leave.to) ≤ size_of c.args.self.now.marks =
    low_of c.args.graph.now c.args.lattice c.args.edge c.constraint-constraint.result
    (Leave c.in-Leave.field-0 c.in-Leave.field-1 c.in-Leave.to) c.constraint-constraint.ensures.there c.in-Leave.is _
    c.requires.below in
    omega arith

-- the variable that an `Enter` leads to has a mark
pub note-requires-in-Enter : goal.note-requires-in-Enter
note-requires-in-Enter c =
    let low : vars_of_link (Enter c.in-Enter.site c.in-Enter.field-1 c.in-Enter.inner) ≤ size_of c.args.self.now.marks =
    low_of c.args.graph.now c.args.lattice c.args.edge c.constraint-constraint.result
    (Enter c.in-Enter.site c.in-Enter.field-1 c.in-Enter.inner) c.constraint-constraint.ensures.there c.in-Enter.is _
    c.requires.below in
    omega arith

pub follow_groups-requires-clause-below : goal.follow_groups-requires-clause-below
follow_groups-requires-clause-below c =
    below_on c.args.graph.now c.args.self.now c.note-in-Enter.new.self c.in_ok-note-in-Enter.ensures.grows
    c.requires.below

pub follow_groups-requires-clause-front : goal.follow_groups-requires-clause-front
follow_groups-requires-clause-front c =
    stands_on c.args.self.now c.note-in-Enter.new.self c.args.front.now.place c.args.front.now.phase c.args.front.now.at
    c.in_ok-note-in-Enter.ensures.grows c.requires.front

-- a search stays good when it notes the end of an `Le` from the variable of the place
pub returns-in-Le-clause-good : goal.returns-in-Le-clause-good
returns-in-Le-clause-good c =
    let from : c.in-Le.field-0 ≡ c.args.front.now.at = some_number (key_of_link c.args.graph.now c.args.lattice
    c.args.edge c.constraint-constraint.result (Le c.in-Le.field-0 c.in-Le.to) c.constraint-constraint.ensures.there
    c.in-Le.is link_begins c.args.front.now.at c.requires.begins) in
    let At : ℕ → Type 0 = λ u. Stands c.args.graph.now c.args.lattice c.args.edge (Le u c.in-Le.to) in
    let st = subst At from (stands_in c.args.graph.now c.args.lattice c.args.edge c.constraint-constraint.result
    (Le c.in-Le.field-0 c.in-Le.to) c.constraint-constraint.ensures.there c.in-Le.is (c.if-not-is_in.ensures.0 refl)) in
    on_ok_weaker c.note.result (λ on origin good. on c.args.graph.now c.args.lattice origin c.args.summaries.now
    (comes_step c.args.graph.now c.args.lattice origin c.args.summaries.now c.args.self.now c.args.front.now.place
    c.args.front.now.phase c.args.front.now.at c.requires.front c.args.edge _ c.in-Le.to
    (ByFlow c.args.edge c.args.front.now.at c.in-Le.to c.args.front.now.phase _ st refl)) good) c.note.ensures.good

-- a search stays good when it notes the end of a `Leave` in the first phase
pub returns-else-not-is_returning-clause-good : goal.returns-else-not-is_returning-clause-good
returns-else-not-is_returning-clause-good c =
    let from : c.in-Leave.field-1 ≡ c.args.front.now.at = some_number (key_of_link c.args.graph.now c.args.lattice
    c.args.edge c.constraint-constraint.result (Leave c.in-Leave.field-0 c.in-Leave.field-1 c.in-Leave.to)
    c.constraint-constraint.ensures.there c.in-Leave.is link_begins c.args.front.now.at c.requires.begins) in
    let At : ℕ → Type 0 =
    λ u. Stands c.args.graph.now c.args.lattice c.args.edge (Leave c.in-Leave.field-0 u c.in-Leave.to) in
    let st = subst At from (stands_in c.args.graph.now c.args.lattice c.args.edge c.constraint-constraint.result
    (Leave c.in-Leave.field-0 c.in-Leave.field-1 c.in-Leave.to) c.constraint-constraint.ensures.there c.in-Leave.is
    (c.if-not-is_in.ensures.0 refl)) in
    let first = c.if-not-is_returning.ensures.0 refl in
    let In : Phase → Type 0 = λ p. LeadsBy c.args.graph.now c.args.lattice c.args.edge p c.args.front.now.at
    (settled (owner_of c.args.graph.now c.in-Leave.to) First) c.in-Leave.to in
    on_ok_weaker c.note-in-Leave.result (λ on origin good. on c.args.graph.now c.args.lattice origin
    c.args.summaries.now (comes_step c.args.graph.now c.args.lattice origin c.args.summaries.now c.args.self.now
    c.args.front.now.place c.args.front.now.phase c.args.front.now.at c.requires.front c.args.edge _ c.in-Leave.to
    (subst In (sym first) (ByLeave c.args.edge c.in-Leave.field-0 c.args.front.now.at c.in-Leave.to _ st refl))) good)
    c.note-in-Leave.ensures.good

-- a search stays good when it notes the end of an `Enter` and follows its groups
pub returns-in_ok-follow_groups-in-Enter-clause-good : goal.returns-in_ok-follow_groups-in-Enter-clause-good
returns-in_ok-follow_groups-in-Enter-clause-good c =
    let from : c.in-Enter.field-1 ≡ c.args.front.now.at = some_number (key_of_link c.args.graph.now c.args.lattice
    c.args.edge c.constraint-constraint.result (Enter c.in-Enter.site c.in-Enter.field-1 c.in-Enter.inner)
    c.constraint-constraint.ensures.there c.in-Enter.is link_begins c.args.front.now.at c.requires.begins) in
    let At : ℕ → Type 0 =
    λ u. Stands c.args.graph.now c.args.lattice c.args.edge (Enter c.in-Enter.site u c.in-Enter.inner) in
    let st = subst At from (stands_in c.args.graph.now c.args.lattice c.args.edge c.constraint-constraint.result
    (Enter c.in-Enter.site c.in-Enter.field-1 c.in-Enter.inner) c.constraint-constraint.ensures.there c.in-Enter.is
    (c.if-not-is_in.ensures.0 refl)) in
    λ origin good. c.in_ok-follow_groups-in-Enter.ensures.good origin
    (c.in_ok-note-in-Enter.ensures.good c.args.graph.now c.args.lattice origin c.args.summaries.now
    (comes_step c.args.graph.now c.args.lattice origin c.args.summaries.now c.args.self.now c.args.front.now.place
    c.args.front.now.phase c.args.front.now.at c.requires.front c.args.edge _ c.in-Enter.inner
    (ByEnter c.args.edge c.in-Enter.site c.args.front.now.at c.in-Enter.inner c.args.front.now.phase _ st refl)) good)

-- an `Enter` whose end is noted and whose groups were followed is followed
pub returns-in_ok-follow_groups-in-Enter-clause-done : goal.returns-in_ok-follow_groups-in-Enter-clause-done
returns-in_ok-follow_groups-in-Enter-clause-done c =
    enter_followed c.args.graph.now c.args.lattice c.args.summaries.now c.follow_groups.new.self c.args.front.now.phase
    c.args.edge c.constraint-constraint.result c.in-Enter.site c.in-Enter.field-1 c.in-Enter.inner c.args.front.now.at
    c.constraint-constraint.ensures.there c.in-Enter.is (c.in_ok-follow_groups-in-Enter.ensures.grows.kept _
    c.in-Enter.inner c.in_ok-note-in-Enter.ensures.there) c.in_ok-follow_groups-in-Enter.ensures.done

pub follow_groups-requires-clause-over : goal.follow_groups-requires-clause-over
follow_groups-requires-clause-over c =
    over_on c.args.graph.now c.args.lattice c.args.summaries.now c.args.passed.now c.args.self.now
    c.note-in-Enter.new.self c.in_ok-note-in-Enter.ensures.grows c.requires.over

pub returns-in-Le-clause-over : goal.returns-in-Le-clause-over
returns-in-Le-clause-over c =
    on_ok_weaker c.note.result (λ grows. over_on c.args.graph.now c.args.lattice c.args.summaries.now c.args.passed.now
    c.args.self.now c.note.new.self grows c.requires.over) c.note.ensures.grows

-- passed marks still stand for groups that were followed when the end of a `Leave` is noted
pub returns-else-not-is_returning-clause-over : goal.returns-else-not-is_returning-clause-over
returns-else-not-is_returning-clause-over c =
    on_ok_weaker c.note-in-Leave.result
    (λ grows. over_on c.args.graph.now c.args.lattice c.args.summaries.now c.args.passed.now c.args.self.now
    c.note-in-Leave.new.self grows c.requires.over) c.note-in-Leave.ensures.grows
