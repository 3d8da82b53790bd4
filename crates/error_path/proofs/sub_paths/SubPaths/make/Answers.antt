use Rattle.std.proofs.Common.{◌≡◌, ℕ, List, [], ◌++◌, append-nil, append_assoc, refl, sym, ◌∙◌, ap, subst, arith}
use Rattle.std.specs.List.{Contains}
use Rattle.flow_graph.specs.declared.proof.PathStep.{PathStep}
use Rattle.flow_graph.specs.declared.proof.PathStep.TheVariants.{Sub}
use Rattle.flow_graph.specs.declared.step.Seen.TheVariants.{Through}
use Rattle.flow_graph.specs.PathProofs.{look}
use Rattle.flow_graph.specs.Parts.{IsSub}
use Rattle.match_summary.specs.Summary.{Summarises}
use Rattle.error_path.specs.declared.sub_paths.Draft.{Draft}
use Rattle.error_path.specs.Drafts.{AreDrafts}
use Rattle.error_path.specs.Made.{place_of, subs_in}
use Rattle.error_path.proofs.Drafting.{drafts_grown}
use Rattle.error_path.proofs.Making.{number_place}
use Rattle.error_path.proofs.Unmade.{unmade_less}
use Rattle.error_path.proofs.sub_paths.SubPaths.make.Goals as goal

-- at first the sub-paths are as they were and nothing waits
pub loop-number-init : goal.loop-number-init
loop-number-init c = record {
  made = c.requires.made;
  extends = record { more = []; is = sym (append-nil (subs_in c.args.self.now)); lattice = refl };
  waiting = λ draft there.
      let Of : List Draft → Type 0 = λ xs. Contains xs draft in
      let none : Contains [] draft = subst Of c.new-waiting.ensures.items there in
      let within = none.1 in absurd (omega (arith, within));
}

pub number-requires : goal.number-requires
number-requires c = (c.args.graph.now, c.loop-number.invariant.made)

pub returns-in-Some-clause-made : goal.returns-in-Some-clause-made
returns-in-Some-clause-made c = c.loop-number.invariant.made

pub returns-in-Some-clause-extends : goal.returns-in-Some-clause-extends
returns-in-Some-clause-extends c = c.loop-number.invariant.extends

-- the number of a made sub-path leads through from the first to the last variable of its pair
pub returns-in-Some-clause-number : goal.returns-in-Some-clause-number
returns-in-Some-clause-number c =
    let pair = c.args.pair.now in
    let at = number_place (place_of c.loop-number.self pair.from pair.to) c.in-Some.number (sym c.in-Some.ensures) in
    let Looks : ℕ → Type 0 =
    λ k. look c.args.graph.now (subs_in c.loop-number.self) (Sub k 0) ≡ Through pair.from pair.to in
    subst Looks (sym at.2) (c.loop-number.invariant.made.found pair.from pair.to at.0 at.1).1

pub finish-requires-clause-made : goal.finish-requires-clause-made
finish-requires-clause-made c = c.loop-number.invariant.made

pub finish-requires-clause-summaries : goal.finish-requires-clause-summaries
finish-requires-clause-summaries c =
    subst (λ l. Summarises c.args.graph.now l c.args.summaries.now)
    (sym c.loop-number.invariant.extends.lattice) c.requires.summaries

pub finish-requires-clause-waiting : goal.finish-requires-clause-waiting
finish-requires-clause-waiting c = c.loop-number.invariant.waiting

-- each new sub-path leaves one pair fewer of the summaries without one
pub loop-number-smaller : goal.loop-number-smaller
loop-number-smaller c =
    let pair = c.in_ok-pair.field-0.pair in
    unmade_less (place_of c.loop-number.self) (place_of c.push.new.self) pair.from pair.to _ c.in_ok-pair.ensures.free
    c.in_ok-push.ensures.here c.in_ok-push.ensures.others c.args.summaries.now c.in_ok-pair.ensures.joined

-- a finished draft becomes a sub-path, and what waits are drafts with it too
pub loop-number-preserved : goal.loop-number-preserved
loop-number-preserved c =
    let sys = c.args.graph.now in
    let rows = c.args.summaries.now in
    let old = c.loop-number.self in
    let pair = c.in_ok-pair.field-0.pair in
    let inv = c.loop-number.invariant in
    let more = c.in_ok-push.ensures.extends in
    let Main : List PathStep → Type 0 = λ xs. IsSub sys old.lattice (subs_in old) pair.from pair.to xs in
    let Subs : List (List PathStep) → Type 0 = λ xs. AreDrafts sys old.lattice rows xs c.finish.new.waiting.items in
    let Of : ℕ → Type 0 = λ l. AreDrafts sys l rows (subs_in c.push.new.self) c.finish.new.waiting.items in
    record {
      made = c.in_ok-push.ensures.made sys inv.made
          (subst Main (sym c.reverse.ensures.items) c.in_ok-pair.ensures.sub) c.in_ok-pair.ensures.free;
      extends = record {
        more = inv.extends.more ++ more.more;
        is = more.is ∙ ap (λ (xs : List (List PathStep)). xs ++ more.more) inv.extends.is
            ∙ append_assoc (subs_in c.args.self.now) inv.extends.more more.more;
        lattice = more.lattice ∙ inv.extends.lattice;
      };
      waiting = subst Of (sym more.lattice) (subst Subs (sym more.is) (drafts_grown sys old.lattice rows
          (subs_in old) more.more c.finish.new.waiting.items c.in_ok-pair.ensures.waiting));
    }
