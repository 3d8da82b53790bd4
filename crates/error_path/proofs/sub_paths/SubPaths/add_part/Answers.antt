use Rattle.std.proofs.Common.{[], ◌∷◌}
use Rattle.flow_graph.specs.declared.proof.PathStep.TheVariants.{Take}
use Rattle.match_summary.specs.declared.reason.Reason.{Reason}
use Rattle.match_summary.specs.declared.reason.Reason.TheVariants.{Last, Group}
use Rattle.flow_graph.specs.Parts.{Flow}
use Rattle.error_path.proofs.Drafting.{group_missing, pair_given, pair_none}
use Rattle.error_path.proofs.Resting.{leads_before, rests_by, rests_early, within_of}
use Rattle.error_path.proofs.sub_paths.SubPaths.add_part.Goals as goal

-- the `Enter` that a summary's reason names is a constraint of the graph
pub add_group-requires-clause-enter : goal.add_group-requires-clause-enter
add_group-requires-clause-enter c =
    let why : Reason = Group c.in-Group.before c.in-Group.enter c.in-Group.leave in
    let r = rests_by c.args.graph.now c.args.self.now.lattice c.args.summaries.now c.requires.summaries
    c.args.draft.now.pair.from c.args.draft.now.at c.why.result why c.why.ensures.reason c.in-Group.ensures in
    within_of c.args.graph.now c.args.self.now.lattice c.in-Group.enter _ r.part.3

-- the `Leave` that a summary's reason names is a constraint of the graph
pub add_group-requires-clause-leave : goal.add_group-requires-clause-leave
add_group-requires-clause-leave c =
    let why : Reason = Group c.in-Group.before c.in-Group.enter c.in-Group.leave in
    let r = rests_by c.args.graph.now c.args.self.now.lattice c.args.summaries.now c.requires.summaries
    c.args.draft.now.pair.from c.args.draft.now.at c.why.result why c.why.ensures.reason c.in-Group.ensures in
    within_of c.args.graph.now c.args.self.now.lattice c.in-Group.leave _ r.part.6

-- the last constraint of a summary's reason is written as one step in front
pub returns-in_ok-push_take-in-Last-clause-written : goal.returns-in_ok-push_take-in-Last-clause-written
returns-in_ok-push_take-in-Last-clause-written c =
    let why : Reason = Last c.in-Last.edge c.in-Last.before in
    let r = rests_early c.args.graph.now c.args.self.now.lattice c.args.summaries.now c.requires.summaries
    c.args.draft.now.pair.from c.args.draft.now.at c.why.result why c.why.ensures.reason c.in-Last.ensures in
    record {
      front = Take c.in-Last.edge 0 ∷ [];
      part = Flow c.in-Last.before c.args.draft.now.at c.in-Last.edge r.part;
      fronts = c.in_ok-push_take-in-Last.ensures;
      one = r.inside;
      before = leads_before c.args.summaries.now _ c.args.draft.now.pair.from c.in-Last.before r.front;
    }

-- the pair inside a group that has no sub-path is joined by an earlier summary
pub returns-in-Some-clause-missing : goal.returns-in-Some-clause-missing
returns-in-Some-clause-missing c =
    let why : Reason = Group c.in-Group.before c.in-Group.enter c.in-Group.leave in
    let r = rests_early c.args.graph.now c.args.self.now.lattice c.args.summaries.now c.requires.summaries
    c.args.draft.now.pair.from c.args.draft.now.at c.why.result why c.why.ensures.reason c.in-Group.ensures in
    let inner =
    pair_given _ c.in_ok-inner-in-Group.field-0 c.in-Some.inner c.in-Some.is c.in_ok-inner-in-Group.ensures.missing in
    group_missing c.args.graph.now c.args.self.now.lattice c.args.summaries.now c.args.self.now c.args.draft.now
    c.in-Group.before c.in-Group.enter c.in-Group.leave c.in-Some.inner r inner.0 inner.1 inner.2

-- the group of a summary's reason is written as a part in front
pub returns-in-None-clause-written : goal.returns-in-None-clause-written
returns-in-None-clause-written c =
    let why : Reason = Group c.in-Group.before c.in-Group.enter c.in-Group.leave in
    let r = rests_early c.args.graph.now c.args.self.now.lattice c.args.summaries.now c.requires.summaries
    c.args.draft.now.pair.from c.args.draft.now.at c.why.result why c.why.ensures.reason c.in-Group.ensures in
    let p = r.part in
    let adds = pair_none _ c.in_ok-inner-in-Group.field-0 c.in-None.is c.in_ok-inner-in-Group.ensures.written in
    let group = adds p.0 c.in-Group.before p.1 p.2 c.args.draft.now.at p.3 p.6 in
    record {
      front = group.0;
      part = group.1;
      fronts = group.2;
      one = r.inside;
      before = leads_before c.args.summaries.now _ c.args.draft.now.pair.from c.in-Group.before r.front;
    }
