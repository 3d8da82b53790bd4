use Rattle.std.proofs.Common.{◌≡◌, ℕ, Some, None, sym, ◌∙◌, ap, subst}
use Rattle.std.proofs.lemmas.Bool.{eqb-true}
use Rattle.flow_graph.specs.declared.constraint.Link.TheVariants.{Leave}
use Rattle.flow_graph.specs.declared.proof.PathStep.TheVariants.{Sub}
use Rattle.flow_graph.specs.declared.step.Seen.TheVariants.{Through}
use Rattle.flow_graph.specs.System.{Stands}
use Rattle.flow_graph.specs.PathProofs.{look}
use Rattle.flow_graph.specs.Parts.{Empty, Full}
use Rattle.error_path.specs.Made.{group_steps, place_of, subs_in}
use Rattle.error_path.proofs.Making.{number_place}
use Rattle.error_path.proofs.Resting.{has_of}
use Rattle.error_path.proofs.sub_paths.SubPaths.add_group.Goals as goal

-- an empty group is written as its `Enter` and its `Leave`
pub returns-then-eq-clause-written : goal.returns-then-eq-clause-written
returns-then-eq-clause-written c = λ s u a b v st ts.
    let from : c.inner_ends-inner.result.from ≡ a =
    c.inner_ends-inner.ensures.from s u a (has_of c.args.graph.now c.args.self.now.lattice c.args.enter _ st) in
    let to : c.inner_ends-inner.result.to ≡ b =
    c.inner_ends-inner.ensures.to s b v (has_of c.args.graph.now c.args.self.now.lattice c.args.leave _ ts) in
    let same : a ≡ b = sym from ∙ eqb-true _ _ (sym c.if-eq.ensures) ∙ to in
    let Back : ℕ → Type 0 = λ x. Stands c.args.graph.now c.args.self.now.lattice c.args.leave (Leave s x v) in (
      group_steps c.args.enter None c.args.leave,
      Empty u a v s c.args.enter c.args.leave st (subst Back (sym same) ts),
      c.in_ok-push_group.ensures,
    )

-- a group whose sub-path has a number is written with that sub-path inside
pub returns-in_ok-push_group-in-Some-clause-written : goal.returns-in_ok-push_group-in-Some-clause-written
returns-in_ok-push_group-in-Some-clause-written c = λ s u a b v st ts.
    let at = number_place (place_of c.args.self.now c.inner_ends-inner.result.from c.inner_ends-inner.result.to)
    c.in-Some.number (sym c.in-Some.ensures) in
    let found = (c.requires.made.found c.inner_ends-inner.result.from c.inner_ends-inner.result.to at.0 at.1).1 in
    let from : c.inner_ends-inner.result.from ≡ a =
    c.inner_ends-inner.ensures.from s u a (has_of c.args.graph.now c.args.self.now.lattice c.args.enter _ st) in
    let to : c.inner_ends-inner.result.to ≡ b =
    c.inner_ends-inner.ensures.to s b v (has_of c.args.graph.now c.args.self.now.lattice c.args.leave _ ts) in
    let Looks : ℕ → Type 0 = λ k. look c.args.graph.now (subs_in c.args.self.now) (Sub k 0) ≡ Through a b in
    let looks : Looks c.in-Some.number =
    subst Looks (sym at.2) (found ∙ ap (λ x. Through x c.inner_ends-inner.result.to) from ∙ ap (λ x. Through a x) to) in (
      group_steps c.args.enter (Some c.in-Some.number) c.args.leave,
      Full u a b v s c.args.enter c.args.leave c.in-Some.number st looks ts,
      c.in_ok-push_group-in-Some.ensures,
    )
