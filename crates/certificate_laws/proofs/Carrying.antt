-- What a certificate carries to each copy, and that no constraint carries more.
use Rattle.std.proofs.Common.{◌≡◌, ℕ, true, List, [], ◌∷◌, refl, ◌⊎◌, inl, inr}
use Rattle.qual_base.specs.declared.places.Owner.{Owner}
use Rattle.qual_base.specs.declared.places.Owner.TheVariants.{Nobody, Function}
use Rattle.lattice_core.specs.Order.{Order}
use Rattle.flow_graph.specs.declared.constraint.Link.TheVariants.{Le, Enter, Leave}
use Rattle.flow_graph.specs.System.{System, owner_of, Stands}
use Rattle.flow_graph.specs.Unfolding.{seen_from}
use Rattle.certificate_laws.specs.declared.rule.CertRule.TheVariants.{A2, A3, A4, A5, A6, A7, A8}
use Rattle.certificate_laws.specs.Certificates.{Certificate, Obeys}
use Rattle.certificate_laws.proofs.Ways.{Decided, by_bool, some_way}

module _ (sys : System) (lattice : ℕ) (c : Certificate) where
  -- an element is carried to a variable's copy: by its first set, or through the last site and on by a pair
  abbrev pub Carries : ℕ → ℕ → List ℕ → Type 0
  Carries e v [] = c.first v e ≡ true
  Carries e v (s ∷ sites) = (c.first v e ≡ true)
      ⊎ ((n : ℕ) × (u : ℕ) × (a : ℕ) × Stands sys lattice n (Enter s u a) × Carries e u sites × (c.paired a v ≡ true))

  pub carries_tells : (e v : ℕ) (sites : List ℕ) → Decided (Carries e v sites)
  carries_tells e v [] = by_bool (c.first v e)
  carries_tells e v (s ∷ sites) = elim (by_bool (c.first v e)) [
    | inl p ↦ inl (inl p)
    | inr no_first ↦ elim (some_way sys lattice s (λ u. Carries e u sites) (λ a. c.paired a v ≡ true)
        (λ u. carries_tells e u sites) (λ a. by_bool (c.paired a v))) [
          | inl way ↦ inl (inr (way.0, way.1.0, way.1.1, way.1.2, way.1.3, way.1.4))
          | inr none ↦
              inr (λ r. elim r [ inl p ↦ no_first p | inr way ↦ none (way.0, (way.1, way.2, way.3, way.4, way.5)) ])
        ]
  ]

  pub anywhere : (e v : ℕ) (sites : List ℕ) → c.first v e ≡ true → Carries e v sites
  anywhere e v [] p = p
  anywhere e v (s ∷ sites) p = inl p

module _ (sys : System) (lattice : ℕ) (order : Order) (c : Certificate) (obeys : Obeys sys lattice order c) where
  pub second_of : (e v : ℕ) (sites : List ℕ) → Carries sys lattice c e v sites → c.second v e ≡ true
  second_of e v [] p = (obeys A2 v).0 e p
  second_of e v (s ∷ sites) (inl p) = (obeys A2 v).0 e p
  second_of e v (s ∷ sites) (inr (n, u, a, st, r, pair)) =
      obeys A8 a v pair e ((obeys A5 n s u a st).0 e (second_of e u sites r))

  -- a variable of nobody has the same in every copy
  homed : (e v : ℕ) (sites : List ℕ) → owner_of sys v ≡ Nobody → Carries sys lattice c e v sites → c.first v e ≡ true
  homed e v sites is r = (obeys A2 v).1 is e (second_of e v sites r)

  pub at_home : (e v : ℕ) (sites : List ℕ) → Carries sys lattice c e v sites
      → Carries sys lattice c e v (seen_from (owner_of sys v) sites)
  at_home e v sites r = by_owner (owner_of sys v) refl
    where
      by_owner : (o : Owner) → owner_of sys v ≡ o → Carries sys lattice c e v (seen_from o sites)
      by_owner Nobody is = homed e v sites is r
      by_owner (Function f) is = r

  pub from_home : (e v : ℕ) (sites : List ℕ) → Carries sys lattice c e v (seen_from (owner_of sys v) sites)
      → Carries sys lattice c e v sites
  from_home e v sites r = by_owner (owner_of sys v) refl r
    where
      by_owner : (o : Owner) → owner_of sys v ≡ o → Carries sys lattice c e v (seen_from o sites)
          → Carries sys lattice c e v sites
      by_owner Nobody is r = anywhere sys lattice c e v sites r
      by_owner (Function f) is r = r

  -- what goes on in both ways goes on in each copy
  goes_on : (e u v : ℕ) (sites : List ℕ) → (c.first u e ≡ true → c.first v e ≡ true)
      → ((z : ℕ) → c.paired z u ≡ true → c.paired z v ≡ true) →
      Carries sys lattice c e u sites → Carries sys lattice c e v sites
  goes_on e u v [] firsts pairs p = firsts p
  goes_on e u v (s ∷ sites) firsts pairs (inl p) = inl (firsts p)
  goes_on e u v (s ∷ sites) firsts pairs (inr (n, w, a, st, r, pair)) = inr (n, w, a, st, r, pairs a pair)

  pub flowed : (e n u v : ℕ) (sites : List ℕ) → Stands sys lattice n (Le u v) → Carries sys lattice c e u sites
      → Carries sys lattice c e v sites
  flowed e n u v sites st r = by_owner (owner_of sys v) refl
    where
      by_owner : (o : Owner) → owner_of sys v ≡ o → Carries sys lattice c e v sites
      by_owner Nobody is =
          anywhere sys lattice c e v sites ((obeys A2 v).1 is e ((obeys A3 n u v st).1 e (second_of e u sites r)))
      by_owner (Function f) is =
          goes_on e u v sites ((obeys A3 n u v st).0 e) (λ z pair. obeys A6 n u v z f st is pair) r

  pub entered : (e s n u x : ℕ) (sites : List ℕ) → Stands sys lattice n (Enter s u x) → Carries sys lattice c e u sites
      → Carries sys lattice c e x (s ∷ sites)
  entered e s n u x sites st r = inr (n, u, x, st, r, (obeys A5 n s u x st).1)

  pub left : (e s m y v : ℕ) (sites : List ℕ) → Stands sys lattice m (Leave s y v)
      → Carries sys lattice c e y (s ∷ sites) → Carries sys lattice c e v sites
  left e s m y v sites st2 (inl p) = anywhere sys lattice c e v sites (obeys A4 m s y v st2 e p)
  left e s m y v sites st2 (inr (n, u, a, st, r, pair)) =
      let on = obeys A7 n m s u a y v st pair st2 in
      goes_on e u v sites (on.0 e) on.1 r
