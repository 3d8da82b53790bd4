-- The union of exact sets has what leads to a variable in either phase.
use Rattle.std.proofs.Common.{◌≡◌, ℕ, bit_or, ◌↔◌, inl, inr}
use Rattle.std.specs.Int.{bit_at}
use Rattle.lattice_core.proofs.Bits.{or_left, or_right, or_either}
use Rattle.flow_graph.specs.System.{System}
use Rattle.flow_graph.specs.Paths.{Lead}
use Rattle.flow_graph.specs.declared.phase.Phase.{Phase}
use Rattle.flow_graph.specs.declared.phase.Phase.TheVariants.{First, Second}
use Rattle.lattice_solver.specs.PhaseSets.{PhaseSets}
use Rattle.lattice_solver.specs.Phases.{set_of, HasIn, LeadsIn}

-- where sets are exact, the union of a variable's two sets has an element just if it leads to the variable
pub union_leads : (sys : System) (lattice : ℕ) (sets : PhaseSets)
    → ((p : Phase) (v e : ℕ) → HasIn sets p v e ↔ LeadsIn sys lattice p e v) → (v e : ℕ) →
    (bit_at (bit_or (set_of sets First v) (set_of sets Second v)) e ≡ 1) ↔ Lead sys lattice e v
union_leads sys lattice sets exact v e = (
  λ has. elim (or_either (set_of sets First v) (set_of sets Second v) e has) [
    | inl first ↦ inl ((exact First v e).0 first)
    | inr second ↦ inr ((exact Second v e).0 second)
  ],
  λ path. elim path [
    | inl first ↦ or_left (set_of sets First v) (set_of sets Second v) e ((exact First v e).1 first)
    | inr second ↦ or_right (set_of sets First v) (set_of sets Second v) e ((exact Second v e).1 second)
  ],
)
