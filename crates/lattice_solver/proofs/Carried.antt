-- What a variable has, and what leads to it, after a set was added to its own.
use Rattle.std.proofs.Common.{◌≡◌, ◌≢◌, ℕ, ◌≤◌, Bool, true, false, ◌⊎◌, inl, inr, bit_or, refl, sym, subst, arith}
use Rattle.std.specs.Int.{bit_at}
use Rattle.std.proofs.lemmas.Bool.{cases_eq}
use Rattle.lattice_core.proofs.Bits.{or_left, or_right, or_either}
use Rattle.flow_graph.specs.System.{System}
use Rattle.flow_graph.specs.declared.phase.Phase.{Phase}
use Rattle.flow_graph.specs.declared.phase.Phase.TheVariants.{First, Second}
use Rattle.lattice_solver.specs.PhaseSets.{PhaseSets}
use Rattle.lattice_solver.specs.Phases.{set_of, room_of, HasIn, LeadsIn, AllLeadIn, AllLeadTo, Includes, Moves}

-- a phase is equal to another or is not
same_phase : (p q : Phase) → (p ≡ q) ⊎ (p ≢ q)
same_phase First First = inl refl
same_phase First Second = inr (λ e. absurd cc)
same_phase Second First = inr (λ e. absurd cc)
same_phase Second Second = inl refl

pub moves_room : (old new : PhaseSets) (grew : Bool) → Moves old new grew → room_of new ≤ room_of old
moves_room old new true moves = omega (arith, moves.less)
moves_room old new false moves = subst (λ sets. room_of sets ≤ room_of old) (sym moves.same) (omega arith)

module _ (old new : PhaseSets) (phase : Phase) (at elems : ℕ)
    (here : set_of new phase at ≡ bit_or (set_of old phase at) elems) where
  -- an element of the set is an old one or one of those added
  was_or_came : (e : ℕ) → HasIn new phase at e → (HasIn old phase at e) ⊎ (bit_at elems e ≡ 1)
  was_or_came e has = or_either (set_of old phase at) elems e (subst (λ set. bit_at set e ≡ 1) here has)

  pub raised_leads : (sys : System) (lattice : ℕ)
      → ((p : Phase) (v : ℕ) → (p ≡ phase → v ≢ at) → set_of new p v ≡ set_of old p v) →
      AllLeadIn sys lattice old → AllLeadTo sys lattice elems phase at → AllLeadIn sys lattice new
  raised_leads sys lattice others all come p v e has = elim (same_phase p phase) [
    | inl same ↦ elim (cases_eq v at) [
      | inl is ↦
          let moved = subst (λ w. HasIn new phase w e) is (subst (λ q. HasIn new q v e) same has) in
          subst (λ q. LeadsIn sys lattice q e v) (sym same)
          (subst (λ w. LeadsIn sys lattice phase e w) (sym is) (elim (was_or_came e moved) [
            | inl before ↦ all phase at e before
            | inr new ↦ come e new
          ]))
      | inr ne ↦ all p v e (subst (λ set. bit_at set e ≡ 1) (others p v (λ q. ne)) has)
    ]
    | inr other ↦ all p v e (subst (λ set. bit_at set e ≡ 1) (others p v (λ q. absurd (other q))) has)
  ]

  pub raised_has : Includes elems new phase at
  raised_has e has = subst (λ set. bit_at set e ≡ 1) (sym here) (or_right (set_of old phase at) elems e has)

  pub raised_keeps : ((p : Phase) (v : ℕ) → (p ≡ phase → v ≢ at) → set_of new p v ≡ set_of old p v)
      → (p : Phase) (v e : ℕ) → HasIn old p v e → HasIn new p v e
  raised_keeps others p v e has = elim (same_phase p phase) [
    | inl same ↦ elim (cases_eq v at) [
      | inl is ↦
          let moved = subst (λ w. HasIn old phase w e) is (subst (λ q. HasIn old q v e) same has) in
          subst (λ q. HasIn new q v e) (sym same) (subst (λ w. HasIn new phase w e) (sym is)
          (subst (λ set. bit_at set e ≡ 1) (sym here) (or_left (set_of old phase at) elems e moved)))
      | inr ne ↦ subst (λ set. bit_at set e ≡ 1) (sym (others p v (λ q. ne))) has
    ]
    | inr other ↦ subst (λ set. bit_at set e ≡ 1) (sym (others p v (λ q. absurd (other q)))) has
  ]

  -- an element of a set is an old one or one of those added
  pub raised_only : ((p : Phase) (v : ℕ) → (p ≡ phase → v ≢ at) → set_of new p v ≡ set_of old p v)
      → (p : Phase) (v e : ℕ) → HasIn new p v e →
      HasIn old p v e ⊎ ((p ≡ phase) × (v ≡ at) × (bit_at elems e ≡ 1))
  raised_only others p v e has = elim (same_phase p phase) [
    | inl same ↦ elim (cases_eq v at) [
      | inl is ↦
          let moved = subst (λ w. HasIn new phase w e) is (subst (λ q. HasIn new q v e) same has) in
          elim (was_or_came e moved) [
            | inl before ↦
                inl (subst (λ q. HasIn old q v e) (sym same) (subst (λ w. HasIn old phase w e) (sym is) before))
            | inr came ↦ inr (same, is, came)
          ]
      | inr ne ↦ inl (subst (λ set. bit_at set e ≡ 1) (others p v (λ q. ne)) has)
    ]
    | inr other ↦ inl (subst (λ set. bit_at set e ≡ 1) (others p v (λ q. absurd (other q))) has)
  ]
