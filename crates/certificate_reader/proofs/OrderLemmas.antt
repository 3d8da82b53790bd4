-- The sets of all elements of lattices.
use Rattle.std.proofs.Common.{◌≡◌, ℕ, suc, ◌+◌, ◌<◌, ◌≤◌, List, [], ◌∷◌, ◌++◌, drop, slice_get, Some, option_map, sym, ◌∙◌, ap, subst, arith, inl, inr, append_assoc}
use Rattle.std.proofs.lemmas.Bool.{cases_lt}
use Rattle.std.proofs.lemmas.Option.{slice_get-map}
use Rattle.lattice_core.specs.Order.{Order, size}
use Rattle.lattice_core.specs.View.{LatticeView, orders_of}
use Rattle.certificate_text.proofs.EndLemmas.{drop_there}
use Rattle.certificate_reader.specs.Grammar.{all_of, alls_of}
use Rattle.certificate_reader.specs.Reader.{AreSmall}

module _ (lattices : List LatticeView) (at : ℕ) (lattice : LatticeView)
    (there : slice_get lattices at ≡ Some lattice) where
  pub alls_more : (out after : List ℕ) (set : ℕ) → set ≡ all_of lattice.order → after ≡ out ++ set ∷ []
      → out ++ alls_of (orders_of (drop at lattices)) ≡ alls_of (orders_of lattices) →
      after ++ alls_of (orders_of (drop (at + 1) lattices)) ≡ alls_of (orders_of lattices)
  alls_more out after set is puts done =
      let next : suc at ≡ at + 1 = omega arith in
      let rest = alls_of (orders_of (drop (at + 1) lattices)) in
      ap (λ (t : List ℕ). t ++ rest) (puts ∙ ap (λ (x : ℕ). out ++ x ∷ []) is)
      ∙ append_assoc out (all_of lattice.order ∷ []) rest
      ∙ sym (ap (λ (ls : List LatticeView). out ++ alls_of (orders_of ls)) (drop_there lattices at lattice there
      ∙ ap (λ (k : ℕ). lattice ∷ drop k lattices) next))
      ∙ done

  same_order : (order : Order) → slice_get (orders_of lattices) at ≡ Some order → lattice.order ≡ order
  same_order order is =
      let both : Some lattice.order ≡ Some order = sym (slice_get-map (λ (view : LatticeView). view.order) lattices at
      ∙ ap (option_map (λ (view : LatticeView). view.order)) there) ∙ is in
      cc

  by_place : AreSmall at (orders_of lattices) → size lattice.order ≤ 64 → (n : ℕ) (order : Order) → n < at + 1 → at ≤ n
      → slice_get (orders_of lattices) n ≡ Some order → size order ≤ 64
  by_place small one n order low high is =
      let same : n ≡ at = omega (arith, low, high) in
      subst (λ (o : Order). size o ≤ 64)
      (same_order order (subst (λ (k : ℕ). slice_get (orders_of lattices) k ≡ Some order) same is)) one

  pub small_more : AreSmall at (orders_of lattices) → size lattice.order ≤ 64 → AreSmall (at + 1) (orders_of lattices)
  small_more small one n order low is = elim (cases_lt n at) [
    | inl before ↦ small n order before is
    | inr high ↦ by_place small one n order low high is
  ]
