use Rattle.std.proofs.Common.{◌≡◌, None}
use Rattle.error_path.specs.Drafts.{rank, AreDrafts, IsDraft}
use Rattle.error_path.specs.Made.{place_of, subs_in}
use Rattle.error_path.proofs.sub_paths.SubPaths.finish.Given as goal

-- what waits and what is written are drafts, and the pair of the latter has no sub-path
abbrev pub invariant-loop-draft : goal.invariant-loop-draft
invariant-loop-draft l = record {
  waiting : AreDrafts l.graph l.self.lattice l.summaries (subs_in l.self) l.waiting.items;
  draft : IsDraft l.graph l.self.lattice l.summaries (subs_in l.self) l.draft;
  free : place_of l.self l.draft.pair.from l.draft.pair.to ≡ None;
}

abbrev pub decreases-loop-draft : goal.decreases-loop-draft
decreases-loop-draft l = rank l.summaries l.draft.pair.from l.draft.at
