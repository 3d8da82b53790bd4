use Rattle.error_path.specs.Drafts.{AreDrafts}
use Rattle.error_path.specs.Made.{place_of, subs_in, Extends, IsMade}
use Rattle.error_path.proofs.Unmade.{unmade}
use Rattle.error_path.proofs.sub_paths.SubPaths.make.Given as goal

-- the sub-paths are right and extend the first ones, and what waits are drafts
abbrev pub invariant-loop-number : goal.invariant-loop-number
invariant-loop-number l = record {
  made : IsMade l.graph l.self;
  extends : Extends l.fn.self l.self;
  waiting : AreDrafts l.graph l.self.lattice l.summaries (subs_in l.self) l.waiting.items;
}

abbrev pub decreases-loop-number : goal.decreases-loop-number
decreases-loop-number l = unmade l.summaries (place_of l.self)
