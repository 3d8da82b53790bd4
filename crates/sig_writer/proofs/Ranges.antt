-- The nodes of a function as a range.
use Rattle.std.proofs.Common.{◌≡◌, ℕ, ◌+◌, ◌-◌, ◌<◌, ◌≤◌, Bool, false, List, [], ◌∷◌, refl, sym, subst, arith}
use Rattle.std.specs.List.{list_any, Contains}
use Rattle.std.proofs.lemmas.Bool.{or_from}
use Rattle.sig_writer.specs.declared.nodes.Nodes.{Nodes}
use Rattle.sig_writer.specs.Nodes.{numbers, AreNodes}
use Rattle.sig_writer.proofs.Ascending.{cons_here, cons_later}
use Rattle.sig_writer.proofs.Indices.{numbers_has, numbers_in_range}

module _ (vars : List ℕ) (nodes : Nodes) (are : AreNodes vars nodes) (v : ℕ) where
  pub in_range : Contains vars v → (nodes.from ≤ v) × (v < nodes.to)
  in_range has =
      let place = numbers_in_range (nodes.to - nodes.from) nodes.from v
      (subst (λ (xs : List ℕ). Contains xs v) (sym are.are) has) in
      let lt = place.1 in
      let at = place.2 in
      (omega (arith, at), omega (arith, lt, at))

  pub is_node : nodes.from ≤ v → v < nodes.to → Contains vars v
  is_node from to =
      let at : nodes.from + (v - nodes.from) ≡ v = omega (arith, from) in
      subst (λ (xs : List ℕ). Contains xs v) are.are
      (subst (λ k. Contains (numbers (nodes.to - nodes.from) nodes.from) k) at
      (numbers_has (nodes.to - nodes.from) nodes.from (v - nodes.from) (omega (arith, from, to))))

-- no element of a list passes a test that fails at each of them
pub any_none : (p : ℕ → Bool) (xs : List ℕ) → ((x : ℕ) → Contains xs x → p x ≡ false) → list_any p xs ≡ false
any_none p [] none = refl
any_none p (x ∷ xs) none = or_from (p x) (list_any p xs) (none x (cons_here x xs))
    (any_none p xs (λ y has. none y (cons_later x xs y has)))
