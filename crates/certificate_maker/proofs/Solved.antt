-- The sets of a solver have exactly what leads to variables.
use Rattle.std.proofs.Common.{◌≡◌, ℕ, ◌↔◌, inl, inr, subst}
use Rattle.std.specs.Int.{bit_at}
use Rattle.lattice_core.proofs.Bits.{or_either, or_left, or_right}
use Rattle.flow_graph.specs.System.{System}
use Rattle.flow_graph.specs.Paths.{Lead, Returning}
use Rattle.flow_graph.specs.declared.phase.Phase.TheVariants.{First, Second}
use Rattle.lattice_solver.specs.Phases.{set_of}
use Rattle.lattice_solver.specs.Solution.{Solution, IsSolved, reached_at}

module _ (sys : System) (lattice : ℕ) (solution : Solution) (same : solution.lattice ≡ lattice)
    (solved : IsSolved sys solution) where
  pub first_exact : (v e : ℕ) → (bit_at (set_of solution.phases First v) e ≡ 1) ↔ Returning sys lattice e v
  first_exact v e =
      subst (λ (n : ℕ). (bit_at (set_of solution.phases First v) e ≡ 1) ↔ Returning sys n e v) same
      (solved.exact First v e)

  lead_exact : (v e : ℕ) → (bit_at (reached_at solution v) e ≡ 1) ↔ Lead sys solution.lattice e v
  lead_exact v e =
      let one = set_of solution.phases First v in
      let other = set_of solution.phases Second v in (
        λ has. elim (or_either one other e has) [
          | inl first ↦ inl ((solved.exact First v e).0 first)
          | inr second ↦ inr ((solved.exact Second v e).0 second)
        ],
        λ path. elim path [
          | inl first ↦ or_left one other e ((solved.exact First v e).1 first)
          | inr second ↦ or_right one other e ((solved.exact Second v e).1 second)
        ],
      )

  pub second_exact : (v e : ℕ) → (bit_at (reached_at solution v) e ≡ 1) ↔ Lead sys lattice e v
  second_exact v e = subst (λ (n : ℕ). (bit_at (reached_at solution v) e ≡ 1) ↔ Lead sys n e v) same (lead_exact v e)
