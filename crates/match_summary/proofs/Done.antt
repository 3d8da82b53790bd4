-- What was done of the rules, path by path.
use Rattle.std.proofs.Common.{◌≡◌, ℕ, ◌+◌, ◌<◌, ◌⊎◌, inl, inr, Bool, List, Some, length, slice_get, sym, ◌∙◌, ap, subst, arith}
use Rattle.std.proofs.lemmas.Bool.{cases_lt}
use Rattle.flow_graph.specs.declared.constraint.Link.TheVariants.{Le, Enter, Leave}
use Rattle.flow_graph.specs.System.{System, Stands, AllBelow}
use Rattle.match_summary.specs.declared.reason.Summary.{Summary}
use Rattle.match_summary.specs.Summary.{HasPair, Leads, AreOfOne, IsInnerEnd}
use Rattle.match_summary.specs.Closing.{AreDone, Grows, IsClosed, IsLookedAt, IsMarked, Looked}
use Rattle.match_summary.proofs.Growth.{at_contains, at_early, at_grown, contains_at, has_grown}

-- With one path more that was looked at, what follows by the rules is there.
module _ (sys : System) (lattice : ℕ) (marks : List Bool)
    (marked : (a : ℕ) → IsInnerEnd sys lattice a → IsMarked marks a) (Path More : ℕ → ℕ → Type 0)
    (old new : List Summary) (from to : ℕ) (done : AreDone sys lattice marks Path old) (grows : Grows old new)
    (looked : IsMarked marks from → IsLookedAt sys lattice marks old new from to)
    (known : (u v : ℕ) → Path u v → Leads old u v) (path : Leads old from to)
    (cover : (u v : ℕ) → More u v → Path u v ⊎ ((u ≡ from) × (v ≡ to))) where
  looked_at : (u v : ℕ) → u ≡ from → v ≡ to → IsMarked marks u → IsLookedAt sys lattice marks old new u v
  looked_at u v first last inner =
      subst (λ x. IsLookedAt sys lattice marks old new x v) (sym first)
      (subst (λ y. IsLookedAt sys lattice marks old new from y) (sym last)
      (looked (subst (λ x. IsMarked marks x) first inner)))

  leads_at : (u v : ℕ) → More u v → Leads old u v
  leads_at u v more = elim (cover u v more) [
    | inl early ↦ known u v early
    | inr it ↦ subst (λ x. Leads old x v) (sym it.0) (subst (λ y. Leads old from y) (sym it.1) path)
  ]

  inside_at : (a b : ℕ) → (a ≡ b) ⊎ More a b → Leads old a b
  inside_at a b (inl same) = inl same
  inside_at a b (inr more) = leads_at a b more

  group_more : (n m s u x a b w : ℕ) → IsMarked marks u → Path u x → Leads old u x → Stands sys lattice n (Enter s x a)
      → (a ≡ b) ⊎ More a b → AreOfOne sys a b →
      Stands sys lattice m (Leave s b w) → AreOfOne sys u w → HasPair new u w
  group_more n m s u x a b w inner early leads enter (inl same) one leave ends =
      has_grown old new u w grows (done.group n m s u x a b w inner early enter (inl same) one leave ends)
  group_more n m s u x a b w inner early leads enter (inr more) one leave ends = elim (cover a b more) [
    | inl inside ↦
        has_grown old new u w grows (done.group n m s u x a b w inner early enter (inr inside) one leave ends)
    | inr it ↦ (looked_at a b it.0 it.1 (marked a (n, s, x, enter)) m).leave s w n leave one x enter u inner leads ends
  ]

  pub done_more : AreDone sys lattice marks More new
  done_more = record {
    flow = λ n u v w inner more st ends. elim (cover u v more) [
      | inl early ↦ has_grown old new u w grows (done.flow n u v w inner early st ends)
      | inr it ↦ (looked_at u v it.0 it.1 inner n).flow w st ends
    ];
    group = λ n m s u x a b w inner more enter inside one leave ends. elim (cover u x more) [
      | inl early ↦ group_more n m s u x a b w inner early (known u x early) enter inside one leave ends
      | inr it ↦ (looked_at u x it.0 it.1 inner n).enter s a m enter b w leave (inside_at a b inside) one ends
    ];
  }

-- paths that were looked at are known
pub looked_known : (rows : List Summary) (low at u v : ℕ) → Looked rows low at u v → Leads rows u v
looked_known rows low at u v (inl same) = inl same.0
looked_known rows low at u v (inr pair) = inr (pair.1, contains_at rows pair.0 _ pair.3)

-- the paths looked at after one variable more
pub cover_end : (old new : List Summary) (low u v : ℕ) → Looked new (low + 1) 0 u v
    → Looked old low 0 u v ⊎ ((u ≡ low) × (v ≡ low))
cover_end old new low u v (inl same) = elim (cases_lt u low) [
  | inl less ↦ inl (inl (same.0, less))
  | inr ge ↦ let lt = same.1 in let is : u ≡ low = omega (arith, lt, ge) in inr (is, sym same.0 ∙ is)
]
cover_end old new low u v (inr pair) = let lt = pair.2 in absurd (omega (arith, lt))

-- the paths looked at after one pair more
pub cover_pair : (old new : List Summary) (low at : ℕ) (row : Summary) → Grows old new → at < length old
    → slice_get old at ≡ Some row → (u v : ℕ) → Looked new low (at + 1) u v →
    Looked old low at u v ⊎ ((u ≡ row.from) × (v ≡ row.to))
cover_pair old new low at row grows within there u v (inl same) = inl (inl same)
cover_pair old new low at row grows within there u v (inr pair) = elim (cases_lt pair.0 at) [
  | inl less ↦ inl (inr (pair.0, pair.1, less, at_early old new pair.0 _ grows (omega (arith, less, within)) pair.3))
  | inr ge ↦
      let lt = pair.2 in
      let is : at ≡ pair.0 = omega (arith, lt, ge) in
      let one : Some row ≡ Some (record { from = u; to = v; why = pair.1 }) =
      sym (at_grown old new at row grows there) ∙ ap (λ k. slice_get new k) is ∙ pair.3 in
      let same : row ≡ record { from = u; to = v; why = pair.1 } = some_is row _ one in
      inr (ap (λ (r : Summary). r.from) (sym same), ap (λ (r : Summary). r.to) (sym same))
]
  where
    some_is : (a b : Summary) → Some a ≡ Some b → a ≡ b
    some_is a b e = cc

-- where each path was looked at, all that follows is there
pub done_closed : (sys : System) (lattice : ℕ) (marks : List Bool) (vars : ℕ) (rows : List Summary)
    → ((a : ℕ) → IsInnerEnd sys lattice a → IsMarked marks a) → AllBelow sys vars →
    AreDone sys lattice marks (Looked rows vars (length rows)) rows → IsClosed sys lattice marks rows
done_closed sys lattice marks vars rows marked below done = record {
  flow = λ n u v w begins path st. done.flow n u v w begins (each u v (flow_below n v w st) path) st;
  group = λ n m s u x a b w begins path enter inside one leave.
      done.group n m s u x a b w begins (each u x (enter_below n s x a enter).0 path) enter
      (each_in a b (enter_below n s x a enter).1 inside) one leave;
}
  where
    flow_below : (n v w : ℕ) → Stands sys lattice n (Le v w) → v < vars
    flow_below n v w st =
        let le = below n (Le v w) (record { constraint = st.constraint; there = st.there; link_is = st.link_is }) in
        omega (arith, le)

    enter_below : (n s x a : ℕ) → Stands sys lattice n (Enter s x a) → (x < vars) × (a < vars)
    enter_below n s x a st =
        let le =
        below n (Enter s x a) (record { constraint = st.constraint; there = st.there; link_is = st.link_is }) in
        (omega (arith, le), omega (arith, le))

    each : (u v : ℕ) → v < vars → Leads rows u v → Looked rows vars (length rows) u v
    each u v lt (inl same) = inl (same, subst (λ (x : ℕ). x < vars) (sym same) lt)
    each u v lt (inr pair) = let at = at_contains rows _ pair.1 in inr (at.0, pair.0, at.1, at.2)

    each_in : (a b : ℕ) → a < vars → (a ≡ b) ⊎ Leads rows a b → (a ≡ b) ⊎ Looked rows vars (length rows) a b
    each_in a b lt (inl same) = inl same
    each_in a b lt (inr (inl same)) = inl same
    each_in a b lt (inr (inr pair)) = let at = at_contains rows _ pair.1 in inr (inr (at.0, pair.0, at.1, at.2))
