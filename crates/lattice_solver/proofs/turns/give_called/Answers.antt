use Rattle.std.proofs.Common.{◌≡◌, ℕ, bit_or, inl, inr}
use Rattle.std.specs.Int.{bit_at}
use Rattle.lattice_core.proofs.Bits.{or_left, or_right, or_either}
use Rattle.flow_graph.specs.declared.phase.Phase.{Phase}
use Rattle.flow_graph.specs.declared.phase.Phase.TheVariants.{First, Second}
use Rattle.lattice_solver.specs.Working.{had_of}
use Rattle.lattice_solver.specs.declared.work.Taken.{Taken}
use Rattle.lattice_solver.proofs.turns.give_called.Goals as goal

-- the union of both taken sets leads to the second phase of a variable where each of them does
pub returns-clause-sound : goal.returns-clause-sound
returns-clause-sound c =
    λ sys lattice lead all.
    c.gain.ensures.sound sys lattice (λ e has. elim (or_either c.args.taken.now.first c.args.taken.now.second e has) [
      | inl first ↦ lead First e first
      | inr second ↦ lead Second e second
    ]) all

-- what it had in either phase is in the union
in_either : (taken : Taken) (p : Phase) (e : ℕ) → bit_at (had_of taken p) e ≡ 1
    → bit_at (bit_or taken.first taken.second) e ≡ 1
in_either taken First e has = or_left taken.first taken.second e has
in_either taken Second e has = or_right taken.first taken.second e has

pub returns-clause-has : goal.returns-clause-has
returns-clause-has c = λ p e has. c.gain.ensures.has e (in_either c.args.taken.now p e has)
