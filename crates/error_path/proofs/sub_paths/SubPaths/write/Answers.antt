use Rattle.std.proofs.Common.{◌≡◌, reverse, refl, sym, ◌∙◌, ap, subst, arith}
use Rattle.std.proofs.lemmas.Bool.{eqb-true, eqb-false}
use Rattle.flow_graph.specs.Parts.{IsSub}
use Rattle.error_path.specs.declared.steps.Pair.{Pair}
use Rattle.error_path.specs.Made.{subs_in}
use Rattle.error_path.proofs.Drafting.{goes_on, pair_given, pair_none, same_draft, written_draft, written_sub}
use Rattle.error_path.proofs.sub_paths.SubPaths.write.Goals as goal

pub loop-missing-init : goal.loop-missing-init
loop-missing-init c = record { pair = refl; draft = c.requires.draft; less = omega arith }

pub add_part-requires-clause-joined : goal.add_part-requires-clause-joined
add_part-requires-clause-joined c = c.loop-missing.invariant.draft.joined

pub returns-in-Some-clause-pair : goal.returns-in-Some-clause-pair
returns-in-Some-clause-pair c = c.in_ok-missing.ensures.pair ∙ c.loop-missing.invariant.pair

-- a draft that waits for a missing pair is a draft still
pub returns-in-Some-clause-draft : goal.returns-in-Some-clause-draft
returns-in-Some-clause-draft c =
    let same = pair_given _ c.in_ok-missing.field-0 c.in-Some.missing c.in-Some.is c.in_ok-missing.ensures.same in
    same_draft c.args.graph.now c.args.self.now.lattice c.args.summaries.now (subs_in c.args.self.now)
    c.loop-missing.draft c.add_part.new.draft c.in_ok-missing.ensures.pair same.0 same.1 c.loop-missing.invariant.draft

-- the missing pair is joined by a summary before the one of the draft at its start
pub returns-in-Some-clause-missing : goal.returns-in-Some-clause-missing
returns-in-Some-clause-missing c =
    let missing = pair_given _ c.in_ok-missing.field-0 c.in-Some.missing c.in-Some.is c.in_ok-missing.ensures.missing in
    record {
      joined = missing.joined;
      free = missing.free;
      less = omega (arith, missing.less, c.loop-missing.invariant.less);
    }

pub returns-then-eq-clause-pair : goal.returns-then-eq-clause-pair
returns-then-eq-clause-pair c = c.in_ok-missing.ensures.pair ∙ c.loop-missing.invariant.pair

-- a draft written on to the first variable of its pair is a sub-path of the pair
pub returns-then-eq-clause-whole : goal.returns-then-eq-clause-whole
returns-then-eq-clause-whole c =
    let written = pair_none _ c.in_ok-missing.field-0 c.in_default.is c.in_ok-missing.ensures.written in
    let same : c.add_part.new.draft.at ≡ c.loop-missing.draft.pair.from =
    eqb-true _ _ (sym c.if-eq.ensures) ∙ ap (λ (p : Pair). p.from) c.in_ok-missing.ensures.pair in
    let Of : Pair → Type 0 = λ p. IsSub c.args.graph.now c.args.self.now.lattice (subs_in c.args.self.now) p.from p.to
    (reverse c.add_part.new.draft.steps.items) in
    subst Of c.loop-missing.invariant.pair
    (written_sub c.args.graph.now c.args.self.now.lattice c.args.summaries.now
    (subs_in c.args.self.now) c.loop-missing.draft c.add_part.new.draft c.loop-missing.invariant.draft written same)

-- a part that is written leads to an earlier summary
pub loop-missing-smaller : goal.loop-missing-smaller
loop-missing-smaller c =
    let written = pair_none _ c.in_ok-missing.field-0 c.in_default.is c.in_ok-missing.ensures.written in
    let goes = goes_on c.args.graph.now c.args.self.now.lattice c.args.summaries.now
    (subs_in c.args.self.now) c.loop-missing.draft c.add_part.new.draft c.in_ok-missing.ensures.pair written
    (eqb-false _ _ (sym c.if-eq.ensures)) in
    goes.1

-- a draft with one more part in front is a draft still, of the same pair and no later summary
pub loop-missing-preserved : goal.loop-missing-preserved
loop-missing-preserved c =
    let inv = c.loop-missing.invariant in
    let written = pair_none _ c.in_ok-missing.field-0 c.in_default.is c.in_ok-missing.ensures.written in
    let goes = goes_on c.args.graph.now c.args.self.now.lattice c.args.summaries.now
    (subs_in c.args.self.now) c.loop-missing.draft c.add_part.new.draft c.in_ok-missing.ensures.pair written
    (eqb-false _ _ (sym c.if-eq.ensures)) in
    let less = goes.1 in
    record {
      pair = c.in_ok-missing.ensures.pair ∙ inv.pair;
      draft = written_draft c.args.graph.now c.args.self.now.lattice c.args.summaries.now
          (subs_in c.args.self.now) c.requires.summaries c.loop-missing.draft c.add_part.new.draft
          c.in_ok-missing.ensures.pair inv.draft written goes.0;
      less = omega (arith, less, inv.less);
    }
