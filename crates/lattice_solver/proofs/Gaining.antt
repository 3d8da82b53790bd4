-- Sets and who waits after one step and after several.
use Rattle.std.proofs.Common.{◌≡◌, ◌≢◌, ℕ, ◌+◌, ◌<◌, ◌≤◌, Bool, true, false, bit_or, inl, inr, refl, sym, ◌∙◌, subst, arith}
use Rattle.std.proofs.lemmas.Bool.{cases_eq}
use Rattle.flow_graph.specs.System.{System, AllBelow}
use Rattle.flow_graph.specs.declared.phase.Phase.{Phase}
use Rattle.lattice_solver.specs.Phases.{set_of, size_of, room_of}
use Rattle.lattice_solver.specs.Waiting.{waits}
use Rattle.lattice_solver.specs.Working.{Held, Gains}
use Rattle.lattice_solver.specs.Stable.{AreOfSystem}
use Rattle.lattice_solver.specs.declared.turns.Flows.{Flows}
use Rattle.lattice_solver.proofs.Carried.{raised_keeps}

pub gains_same : (held : Held) → Gains held held
gains_same held =
    record { size = refl; left = omega arith; kept = λ p v e has. has; still = λ v quiet. (quiet, λ p. refl) }

-- sets that gain twice have gained
pub gains_then : (a b c : Held) → Gains a b → Gains b c → Gains a c
gains_then a b c one other = record {
  size = other.size ∙ one.size;
  left = omega (arith, one.left, other.left);
  kept = λ p v e has. other.kept p v e (one.kept p v e has);
  still = λ v quiet.
      let late = other.still v quiet in
      let early = one.still v late.0 in
      (early.0, λ p. late.1 p ∙ early.1 p);
}

not_waiting : {b : Bool} → b ≡ true → b ≡ false → ⊥
not_waiting is not = let both : true ≡ false = sym is ∙ not in cc

-- a set was raised, and its variable waits
pub gained : (old new : Held) (phase : Phase) (at elems : ℕ) → room_of new.sets < room_of old.sets
    → size_of new.sets ≡ size_of old.sets →
    set_of new.sets phase at ≡ bit_or (set_of old.sets phase at) elems
    → ((p : Phase) (v : ℕ) → (p ≡ phase → v ≢ at) → set_of new.sets p v ≡ set_of old.sets p v) →
    waits new.waiting at ≡ true → ((v : ℕ) → v ≢ at → waits new.waiting v ≡ waits old.waiting v)
    → new.waiting.count ≤ old.waiting.count + 1 → Gains old new
gained old new phase at elems less size here others is_waiting wait count = record {
  size = size;
  left = omega (arith, less, count);
  kept = raised_keeps old.sets new.sets phase at elems here others;
  still = λ v quiet. elim (cases_eq v at) [
    | inl is ↦ absurd (not_waiting is_waiting (subst (λ w. waits new.waiting w ≡ false) is quiet))
    | inr ne ↦ (sym (wait v ne) ∙ quiet, λ p. others p v (λ q. ne))
  ];
}

pub below_same : (sys : System) (old new : ℕ) → new ≡ old → AllBelow sys old → AllBelow sys new
below_same sys old new same below = subst (λ k. AllBelow sys k) (sym same) below

pub system_same : (flows : Flows) (old new : ℕ) → new ≡ old → AreOfSystem flows old → AreOfSystem flows new
system_same flows old new same ready = subst (AreOfSystem flows) (sym same) ready
