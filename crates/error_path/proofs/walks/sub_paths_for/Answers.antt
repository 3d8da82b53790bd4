use Rattle.std.proofs.Common.{◌≡◌, ℕ, List, Some, inl, inr, slice_get, sym, ◌∙◌, ap, subst, arith}
use Rattle.std.proofs.lemmas.Bool.{cases_lt}
use Rattle.std.proofs.lemmas.Option.{slice_get-get_or, slice_get_within}
use Rattle.flow_graph.specs.declared.proof.PathStep.{PathStep}
use Rattle.flow_graph.specs.PathProofs.{steps_of, AreApart}
use Rattle.flow_graph.specs.Parts.{AreSubs}
use Rattle.match_summary.specs.Summary.{Summarises}
use Rattle.error_path.specs.Made.{place_of, subs_in}
use Rattle.error_path.specs.Traced.{HasSub}
use Rattle.error_path.proofs.Making.{made_apart, sub_looked, sub_more}
use Rattle.error_path.proofs.walks.sub_paths_for.Goals as goal

some_pair : {x y : ℕ × ℕ} → Some x ≡ Some y → x ≡ y
some_pair e = cc

pub loop-ends-init : goal.loop-ends-init
loop-ends-init c = record {
  made = c.new-subs.ensures.made c.args.graph.now;
  lattice = c.new-subs.ensures.lattice;
  each = λ k u v lt is. absurd (omega (arith, lt));
}

pub make-requires-clause-made : goal.make-requires-clause-made
make-requires-clause-made c = c.loop-ends.invariant.made

pub make-requires-clause-summaries : goal.make-requires-clause-summaries
make-requires-clause-summaries c =
    subst (λ l. Summarises c.args.graph.now l c.args.summaries.now)
    (sym c.loop-ends.invariant.lattice) c.requires.summaries

-- a summary joins the pair that is asked for
pub make-requires-clause-joined : goal.make-requires-clause-joined
make-requires-clause-joined c =
    let pair = c.ends-item.result in
    c.requires.pairs c.loop-ends.ends-index pair.0 pair.1
    (slice_get-get_or c.args.pairs.now c.loop-ends.ends-index pair c.loop-ends-test.true ∙ ap Some (sym c.ends-item.is))

-- making the sub-path of one more pair keeps those of the pairs before it
pub loop-ends-preserved : goal.loop-ends-preserved
loop-ends-preserved c =
    let sys = c.args.graph.now in
    let so_far = c.loop-ends.invariant in
    let step = c.in_ok-make.ensures in
    let old = subs_in c.loop-ends.subs in
    let new = subs_in c.make.new.self in
    let pair = c.ends-item.result in
    let at : slice_get c.args.pairs.now c.loop-ends.ends-index ≡ Some pair =
    slice_get-get_or c.args.pairs.now c.loop-ends.ends-index pair c.loop-ends-test.true
    ∙ ap Some (sym c.ends-item.is) in
    record {
      made = step.made;
      lattice = step.extends.lattice ∙ so_far.lattice;
      each = λ k u v lt is. elim (cases_lt k c.loop-ends.ends-index) [
        | inl before ↦
            let Of : List (List PathStep) → Type 0 = λ xs. HasSub sys xs u v in
            subst Of (sym step.extends.is) (sub_more sys old step.extends.more u v (so_far.each k u v before is))
        | inr last ↦
            let same : k ≡ c.loop-ends.ends-index = omega (arith, lt, last) in
            let here : Some pair ≡ Some (u, v) =
            sym at ∙ ap (λ (i : ℕ). slice_get c.args.pairs.now i) (sym same) ∙ is in
            let Of : ℕ × ℕ → Type 0 = λ p. HasSub sys new p.0 p.1 in
            subst Of (some_pair here) (sub_looked sys new c.in_ok-make.field-0 pair.0 pair.1 step.number)
      ];
    }

-- the sub-paths that are answered are right, each resting on those before it
pub returns-clause-subs : goal.returns-clause-subs
returns-clause-subs c =
    let subs = subs_in c.loop-ends.subs in
    let same : steps_of c.into_paths.result.items ≡ subs = ap steps_of c.into_paths.ensures in
    let Good : ℕ → Type 0 = λ l. AreSubs c.args.graph.now l subs in
    let Subs : List (List PathStep) → Type 0 = λ xs. AreSubs c.args.graph.now c.args.lattice xs in
    subst Subs (sym same) (subst Good c.loop-ends.invariant.lattice c.loop-ends.invariant.made.good)

-- no two of the sub-paths have the same first and last variables
pub returns-clause-apart : goal.returns-clause-apart
returns-clause-apart c =
    let subs = subs_in c.loop-ends.subs in
    let same : steps_of c.into_paths.result.items ≡ subs = ap steps_of c.into_paths.ensures in
    let Apart : List (List PathStep) → Type 0 = λ xs. AreApart c.args.graph.now xs in
    subst Apart (sym same)
    (made_apart c.args.graph.now c.loop-ends.subs.lattice subs (place_of c.loop-ends.subs) c.loop-ends.invariant.made)

-- each pair that was asked for has a sub-path
pub returns-clause-each : goal.returns-clause-each
returns-clause-each c = λ n u v is.
    let same : steps_of c.into_paths.result.items ≡ subs_in c.loop-ends.subs = ap steps_of c.into_paths.ensures in
    let Of : List (List PathStep) → Type 0 = λ xs. HasSub c.args.graph.now xs u v in
    let within = slice_get_within c.args.pairs.now n (u, v) is in
    let past = c.loop-ends-test.false in
    subst Of (sym same) (c.loop-ends.invariant.each n u v (omega (arith, within, past)) is)
