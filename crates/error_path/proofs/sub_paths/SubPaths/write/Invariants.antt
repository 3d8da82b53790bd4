use Rattle.std.proofs.Common.{◌≡◌, ◌≤◌}
use Rattle.error_path.specs.Drafts.{rank, IsDraft}
use Rattle.error_path.specs.Made.{subs_in}
use Rattle.error_path.proofs.sub_paths.SubPaths.write.Given as goal

-- what is written is a draft of the first pair, at a summary that is no later than the first one
abbrev pub invariant-loop-missing : goal.invariant-loop-missing
invariant-loop-missing l = record {
  pair : l.draft.pair ≡ l.fn.draft.pair;
  draft : IsDraft l.graph l.self.lattice l.summaries (subs_in l.self) l.draft;
  less : rank l.summaries l.draft.pair.from l.draft.at ≤ rank l.summaries l.fn.draft.pair.from l.fn.draft.at;
}

abbrev pub decreases-loop-missing : goal.decreases-loop-missing
decreases-loop-missing l = rank l.summaries l.draft.pair.from l.draft.at
