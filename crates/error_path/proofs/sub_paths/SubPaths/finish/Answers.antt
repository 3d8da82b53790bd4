use Rattle.std.proofs.Common.{◌≡◌, ◌<◌, List, None, sym, ◌∙◌, ap, subst, arith}
use Rattle.match_summary.specs.Summary.{HasPair}
use Rattle.error_path.specs.declared.steps.Pair.{Pair}
use Rattle.error_path.specs.declared.sub_paths.Draft.{Draft}
use Rattle.error_path.specs.Drafts.{rank, AreDrafts}
use Rattle.error_path.specs.Made.{place_of, subs_in}
use Rattle.error_path.proofs.Drafting.{drafts_push, empty_draft_of, pair_given}
use Rattle.error_path.proofs.sub_paths.SubPaths.finish.Goals as goal

-- the first draft is one of those that waited, or a new one of the pair, and its pair has no sub-path
pub loop-draft-init : goal.loop-draft-init
loop-draft-init c =
    let sys = c.args.graph.now in
    let lattice = c.args.self.now.lattice in
    let rows = c.args.summaries.now in
    let subs = subs_in c.args.self.now in
    record {
      waiting = c.last_waiting-draft.ensures.waiting sys lattice rows subs c.requires.waiting;
      draft = c.last_waiting-draft.ensures.draft sys lattice rows subs c.requires.waiting c.requires.joined;
      free = c.last_waiting-draft.ensures.free;
    }

pub write-requires-clause-draft : goal.write-requires-clause-draft
write-requires-clause-draft c = c.loop-draft.invariant.draft

pub returns-in-None-clause-waiting : goal.returns-in-None-clause-waiting
returns-in-None-clause-waiting c = c.loop-draft.invariant.waiting

pub returns-in-None-clause-joined : goal.returns-in-None-clause-joined
returns-in-None-clause-joined c =
    subst (λ (p : Pair). HasPair c.args.summaries.now p.from p.to)
    (sym c.in_ok-write.ensures.pair) c.loop-draft.invariant.draft.whole

pub returns-in-None-clause-free : goal.returns-in-None-clause-free
returns-in-None-clause-free c =
    subst (λ (p : Pair). place_of c.args.self.now p.from p.to ≡ None)
    (sym c.in_ok-write.ensures.pair) c.loop-draft.invariant.free

-- the new draft is of a pair whose summary comes earlier
pub loop-draft-smaller : goal.loop-draft-smaller
loop-draft-smaller c =
    let rows = c.args.summaries.now in
    let missing = pair_given _ c.in_ok-write.field-0 c.in-Some.missing c.in-Some.is c.in_ok-write.ensures.missing in
    let draft = c.new-draft.result in
    let same : rank rows draft.pair.from draft.at ≡ rank rows c.in-Some.missing.from c.in-Some.missing.to =
    ap (λ (p : Pair). rank rows p.from draft.at) c.new-draft.ensures.pair
    ∙ ap (rank rows c.in-Some.missing.from) c.new-draft.ensures.at in
    let less : rank rows draft.pair.from draft.at < rank rows c.loop-draft.draft.pair.from c.loop-draft.draft.at =
    omega (arith, same, missing.less) in
    less

-- a draft that misses a pair waits, and a draft of that pair with no steps takes its turn
pub loop-draft-preserved : goal.loop-draft-preserved
loop-draft-preserved c =
    let sys = c.args.graph.now in
    let lattice = c.args.self.now.lattice in
    let rows = c.args.summaries.now in
    let subs = subs_in c.args.self.now in
    let missing = pair_given _ c.in_ok-write.field-0 c.in-Some.missing c.in-Some.is c.in_ok-write.ensures.missing in
    let left = pair_given _ c.in_ok-write.field-0 c.in-Some.missing c.in-Some.is c.in_ok-write.ensures.draft in
    let Of : List Draft → Type 0 = λ xs. AreDrafts sys lattice rows subs xs in
    record {
      waiting = subst Of (sym c.in_ok-keep-in-Some.ensures) (drafts_push sys lattice rows subs
          c.loop-draft.waiting.items c.write.new.draft c.loop-draft.invariant.waiting left);
      draft = empty_draft_of sys lattice rows subs c.new-draft.result c.in-Some.missing c.new-draft.ensures.pair
          c.new-draft.ensures.at c.new-draft.ensures.steps missing.joined;
      free =
          subst (λ (p : Pair). place_of c.args.self.now p.from p.to ≡ None) (sym c.new-draft.ensures.pair) missing.free;
    }
