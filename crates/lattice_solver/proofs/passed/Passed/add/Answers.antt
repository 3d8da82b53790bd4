use Rattle.std.proofs.Common.{◌≡◌, ℕ, inl, inr, sym, ◌∙◌, subst}
use Rattle.std.specs.Int.{bit_at}
use Rattle.flow_graph.specs.declared.phase.Phase.TheVariants.{First, Second}
use Rattle.lattice_solver.specs.Phases.{HasIn}
use Rattle.lattice_solver.specs.Working.{had_of}
use Rattle.lattice_solver.proofs.Carried.{raised_only}
use Rattle.lattice_solver.proofs.passed.Passed.add.Goals as goal

-- an element that a constraint has afterwards was there before, or is of what was taken at that constraint
pub returns-clause-only : goal.returns-clause-only
returns-clause-only c = λ p n e has.
    let taken = c.args.taken.now in
    let at = c.new-at.ensures ∙ c.number.ensures in
    elim (raised_only c.raise.new.self c.raise-2.new.self Second c.new-at.result taken.second c.raise-2.ensures.here
    c.raise-2.ensures.others p n e has) [
      | inr came ↦ inr (came.1 ∙ at, subst (λ q. bit_at (had_of taken q) e ≡ 1) (sym came.0) came.2)
      | inl before ↦ elim (raised_only c.self.inside.sets c.raise.new.self First c.new-at.result taken.first
          c.raise.ensures.here c.raise.ensures.others p n e before) [
            | inr came ↦ inr (came.1 ∙ at, subst (λ q. bit_at (had_of taken q) e ≡ 1) (sym came.0) came.2)
            | inl first ↦ inl (subst (λ sets. HasIn sets p n e) c.self.view_is first)
          ]
    ]
