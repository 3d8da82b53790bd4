-- Constraints of lists that stand one behind the other.
use Rattle.std.proofs.Common.{◌≡◌, ℕ, zero, suc, List, [], ◌∷◌, ◌++◌, slice_get, Some, ◌⊎◌, inl, inr}
use Rattle.qual_base.proofs.Lists.{get_left}
use Rattle.flow_graph.specs.declared.constraint.Link.{Link}
use Rattle.flow_graph.specs.declared.constraint.Constraint.{Constraint}
use Rattle.flow_graph.specs.System.{Has, Stands}
use Rattle.split_laws.specs.Splits.{Split, of_part}

right_of : {A : Type 0} (xs ys : List A) (k : ℕ) (x : A) → slice_get ys k ≡ Some x
    → (j : ℕ) × (slice_get (xs ++ ys) j ≡ Some x)
right_of [] ys k x e = (k, e)
right_of (y ∷ xs) ys k x e = let on = right_of xs ys k x e in (suc on.0, on.1)

-- an item of two joined lists is at its place in the first, or at some place in the second
either_of : {A : Type 0} (xs ys : List A) (k : ℕ) (x : A) → slice_get (xs ++ ys) k ≡ Some x
    → (slice_get xs k ≡ Some x) ⊎ ((j : ℕ) × (slice_get ys j ≡ Some x))
either_of [] ys k x e = inr (k, e)
either_of (y ∷ xs) ys zero x e = inl e
either_of (y ∷ xs) ys (suc k) x e = either_of xs ys k x e

module _ (s : Split) (one other : List Constraint) where
  pub front_has : (n : ℕ) (link : Link) → Has (of_part s one) n link → Has (of_part s (one ++ other)) n link
  front_has n link h =
      record { constraint = h.constraint; there = get_left one other n h.constraint h.there; link_is = h.link_is }

  pub front : (lattice n : ℕ) (link : Link) → Stands (of_part s one) lattice n link
      → Stands (of_part s (one ++ other)) lattice n link
  front lattice n link h = record {
    constraint = h.constraint;
    there = get_left one other n h.constraint h.there;
    link_is = h.link_is;
    carried = h.carried;
  }

  pub back : (lattice n : ℕ) (link : Link) → Stands (of_part s other) lattice n link
      → (j : ℕ) × Stands (of_part s (one ++ other)) lattice j link
  back lattice n link h = let at = right_of one other n h.constraint h.there in
      (at.0, record { constraint = h.constraint; there = at.1; link_is = h.link_is; carried = h.carried })

  pub parted : (lattice n : ℕ) (link : Link) → Stands (of_part s (one ++ other)) lattice n link
      → Stands (of_part s one) lattice n link ⊎ ((j : ℕ) × Stands (of_part s other) lattice j link)
  parted lattice n link h = elim (either_of one other n h.constraint h.there) [
    | inl there ↦ inl (record { constraint = h.constraint; there = there; link_is = h.link_is; carried = h.carried })
    | inr found ↦
        inr (found.0, record { constraint = h.constraint; there = found.1; link_is = h.link_is; carried = h.carried })
  ]
