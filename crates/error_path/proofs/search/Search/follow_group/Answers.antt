use Rattle.std.proofs.Common.{◌≡◌, ℕ, ◌≤◌, refl, subst, arith}
use Rattle.std.proofs.lemmas.Result.{on_ok_weaker}
use Rattle.qual_base.proofs.Tests.{some_number}
use Rattle.flow_graph.specs.declared.constraint.Link.TheVariants.{Leave}
use Rattle.flow_graph.specs.Index.{link_site}
use Rattle.flow_graph.specs.System.{Stands, vars_of_link}
use Rattle.error_path.specs.Marks.{size_of}
use Rattle.error_path.proofs.Searching.{comes_around, key_of_link, low_of, stands_in}
use Rattle.error_path.proofs.search.Search.follow_group.Goals as goal

-- the variable that the `Leave` of a group leads to has a mark
pub note-requires : goal.note-requires
note-requires c =
    let low : vars_of_link (Leave c.in-Leave.field-0 c.in-Leave.last c.in-Leave.to) ≤ size_of c.args.self.now.marks =
    low_of c.args.graph.now c.args.lattice c.args.leave c.constraint-back.result
    (Leave c.in-Leave.field-0 c.in-Leave.last c.in-Leave.to) c.constraint-back.ensures.there c.in-Leave.is _
    c.requires.below in
    omega arith

-- a search stays good when it notes the end of a group that nothing or a summary joins inside
pub returns-else-not-leads-clause-good : goal.returns-else-not-leads-clause-good
returns-else-not-leads-clause-good c =
    let site : c.in-Leave.field-0 ≡ c.args.call.now.site = some_number (key_of_link c.args.graph.now c.args.lattice
    c.args.leave c.constraint-back.result (Leave c.in-Leave.field-0 c.in-Leave.last c.in-Leave.to)
    c.constraint-back.ensures.there c.in-Leave.is link_site c.args.call.now.site c.requires.site) in
    let At : ℕ → Type 0 =
    λ s. Stands c.args.graph.now c.args.lattice c.args.leave (Leave s c.in-Leave.last c.in-Leave.to) in
    let leaves = subst At site (stands_in c.args.graph.now c.args.lattice c.args.leave c.constraint-back.result
    (Leave c.in-Leave.field-0 c.in-Leave.last c.in-Leave.to) c.constraint-back.ensures.there c.in-Leave.is
    (c.if-not-is_in.ensures.0 refl)) in
    on_ok_weaker c.note.result (λ on origin good. on c.args.graph.now c.args.lattice origin c.args.summaries.now
    (comes_around c.args.graph.now c.args.lattice origin c.args.summaries.now c.args.self.now c.args.front.now.place
    c.args.front.now.phase c.args.front.now.at c.requires.front c.args.call.now.enter c.args.leave c.args.call.now.site
    c.args.call.now.inner c.in-Leave.last c.in-Leave.to c.requires.call leaves (c.if-not-leads.ensures.0 refl)) good)
    c.note.ensures.good
