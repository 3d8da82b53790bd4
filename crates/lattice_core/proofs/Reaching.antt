-- A closed row has all that its elements lead to.
use Rattle.std.proofs.Common.{◌≡◌, ℕ, List, length, inl, inr}
use Rattle.std.specs.Int.{bit_at}
use Rattle.std.proofs.lemmas.Bool.{cases_lt}
use Rattle.lattice_core.specs.Rows.{Leads, Here, On, IsClosed}
use Rattle.lattice_core.proofs.Bits.{none_past}

-- a closed row that has an element has all to which links lead from it
pub closed_has : (links : List ℕ) (row start : ℕ) → IsClosed links row → bit_at row start ≡ 1 → (i : ℕ)
    → Leads links start i → bit_at row i ≡ 1
closed_has links row start closed begun i Here = begun
closed_has links row start closed begun i (On b _ to link) =
    elim (cases_lt b (length links)) [
      | inl within ↦ closed b i within (closed_has links row start closed begun b to) link
      | inr past ↦ absurd (none_past links b i past link)
    ]
