-- The certificate that is written obeys the rules, and each that obeys them has all of it.
use Rattle.std.proofs.Common.{◌≡◌, ℕ, true, refl, sym, ◌∙◌, ap, subst, ◌⊎◌, inl, inr}
use Rattle.qual_base.specs.declared.places.Owner.{Owner}
use Rattle.qual_base.specs.declared.places.Owner.TheVariants.{Nobody, Function}
use Rattle.lattice_core.specs.Order.{Order, IsOrder}
use Rattle.flow_graph.specs.declared.constraint.Link.TheVariants.{Le, Enter, Leave}
use Rattle.flow_graph.specs.System.{System, owner_of, Stands, IsWellOwned}
use Rattle.flow_graph.specs.Unfolding.{IsAcceptedIn}
use Rattle.flow_graph.specs.Paths.{Matches, stay, longer, Part, flow, group, Returning, start, flows, returns, grouped, anew, Calling, calls, calls_on, flows_on, grouped_on, Lead}
use Rattle.flow_laws.proofs.Owners.{end_owner, entering, same_function, same_outer}
use Rattle.flow_laws.proofs.Reaching.{returning_on, calling_on}
use Rattle.flow_laws.proofs.Force.{accepted_keeps_paths}
use Rattle.certificate_laws.specs.declared.rule.CertRule.{CertRule}
use Rattle.certificate_laws.specs.declared.rule.CertRule.TheVariants.{A1, A2, A3, A4, A5, A6, A7, A8, A9}
use Rattle.certificate_laws.specs.Certificates.{Certificate, Obeys, ObeysRule, IsJoined, IsWritten}
use Rattle.certificate_laws.specs.Laws.{AcceptedIsCertified, CertifiedHasWritten}

module _ (sys : System) (lattice : ℕ) (owned : IsWellOwned sys) where
  -- what joins an inner end to a variable is a path inside one function, which may be empty
  abbrev Path : ℕ → ℕ → Type 0
  Path x v = (f : ℕ) × Matches sys lattice f x v

  path_of : (x v : ℕ) → IsJoined sys lattice x v → Path x v
  path_of x v ((n, s, u, st), inl same) =
      let call = entering sys lattice owned n s u x st in
      (call.it.target, subst (Matches sys lattice call.it.target x) same (stay call.it.target x call.inner_is))
  path_of x v (end, inr (f, y, m, part)) = (f, longer f x y v m part)

  lead_on : (e f x v : ℕ) → Matches sys lattice f x v → Lead sys lattice e x → Lead sys lattice e v
  lead_on e f x v m (inl p) = inl (returning_on sys lattice e f x v p m)
  lead_on e f x v m (inr c) = inr (calling_on sys lattice e f x v c m)

  flow_on : (e n u v : ℕ) → Stands sys lattice n (Le u v) → Lead sys lattice e u → Lead sys lattice e v
  flow_on e n u v st (inl p) = inl (flows u v n p st)
  flow_on e n u v st (inr c) = inr (flows_on u v n c st)

  call_on : (e n s u x : ℕ) → Stands sys lattice n (Enter s u x) → Lead sys lattice e u → Lead sys lattice e x
  call_on e n s u x st (inl p) = inr (calls u x s n p st)
  call_on e n s u x st (inr c) = inr (calls_on u x s n c st)

  -- a pair goes on by one part
  joined_flow : (n u v z f : ℕ) → Stands sys lattice n (Le u v) → owner_of sys v ≡ Function f → IsJoined sys lattice z u
      → IsJoined sys lattice z v
  joined_flow n u v z f st is joined =
      let path = path_of z u joined in
      let same : path.0 ≡ f =
      same_function sys lattice owned n u v st path.0 f (end_owner sys lattice path.0 z u path.1) is in
      (joined.0, inr (path.0, u, path.1, flow path.0 u v n st (is ∙ ap (λ f. Function f) (sym same))))

  joined_group : (n m s u x y v z : ℕ) → Stands sys lattice n (Enter s u x) → IsJoined sys lattice x y
      → Stands sys lattice m (Leave s y v) → IsJoined sys lattice z u → IsJoined sys lattice z v
  joined_group n m s u x y v z st inside st2 joined =
      let path = path_of z u joined in
      let within = path_of x y inside in
      let outer : owner_of sys v ≡ Function path.0 =
      sym (same_outer sys lattice owned n m s u x y v st st2) ∙ end_owner sys lattice path.0 z u path.1 in
      (joined.0, inr (path.0, u, path.1, group path.0 u x y v s within.0 n m st within.1 st2 outer))

  return_group : (e n m s u x y v : ℕ) → Stands sys lattice n (Enter s u x) → IsJoined sys lattice x y
      → Stands sys lattice m (Leave s y v) → Returning sys lattice e u → Returning sys lattice e v
  return_group e n m s u x y v st inside st2 p =
      let within = path_of x y inside in
      grouped u x y v s within.0 n m p st within.1 st2

module _ (sys : System) (lattice : ℕ) (order : Order) (c : Certificate) (owned : IsWellOwned sys)
    (ordered : IsOrder order)
    (written : IsWritten sys lattice c) (accepted : IsAcceptedIn sys lattice order) where
  written_obeys : (rule : CertRule) → ObeysRule sys lattice order c rule
  written_obeys A1 = λ n e v st. (written.first v e).1 (start v n st)
  written_obeys A2 = λ v. (
    λ e is. (written.second v e).1 (inl ((written.first v e).0 is)),
    λ is e in_second.
        (written.first v e).1 (elim ((written.second v e).0 in_second) [ inl p ↦ p | inr call ↦ anew v call is ]),
  )
  written_obeys A3 = λ n u v st. (
    λ e is. (written.first v e).1 (flows u v n ((written.first u e).0 is) st),
    λ e is. (written.second v e).1 (flow_on sys lattice owned e n u v st ((written.second u e).0 is)),
  )
  written_obeys A4 = λ n s u v st e is. (written.first v e).1 (returns u v s n ((written.first u e).0 is) st)
  written_obeys A5 = λ n s u x st. (
    λ e is. (written.second x e).1 (call_on sys lattice owned e n s u x st ((written.second u e).0 is)),
    (written.paired x x).1 ((n, s, u, st), inl refl),
  )
  written_obeys A6 =
      λ n u v z f st is pair.
      (written.paired z v).1 (joined_flow sys lattice owned n u v z f st is ((written.paired z u).0 pair))
  written_obeys A7 = λ n m s u x y v st pair st2. (
    λ e is. (written.first v e).1 (return_group sys lattice owned e n m s u x y v st ((written.paired x y).0 pair) st2
        ((written.first u e).0 is)),
    λ z outer. (written.paired z v).1 (joined_group sys lattice owned n m s u x y v z st
        ((written.paired x y).0 pair) st2 ((written.paired z u).0 outer)),
  )
  written_obeys A8 = λ z u pair e is.
      let path = path_of sys lattice owned z u ((written.paired z u).0 pair) in
      (written.second u e).1 (lead_on sys lattice owned e path.0 z u path.1 ((written.second z e).0 is))
  written_obeys A9 =
      λ n v b st e is.
      accepted_keeps_paths sys lattice order owned ordered accepted e v n b ((written.second v e).0 is) st

pub accepted_is_certified : AcceptedIsCertified
accepted_is_certified sys lattice order c owned ordered written accepted =
    λ rule. written_obeys sys lattice order c owned ordered written accepted rule

module _ (sys : System) (lattice : ℕ) (order : Order) (c : Certificate) (owned : IsWellOwned sys)
    (obeys : Obeys sys lattice order c) where
  mutual
    -- a path inside a function is carried on from each pair, and from the first set, at its beginning
    pairs_on : (f x v z : ℕ) → Matches sys lattice f x v → c.paired z x ≡ true → c.paired z v ≡ true
    pairs_on f x v z (stay _ _ is) pair = pair
    pairs_on f x v z (longer _ _ y _ m part) pair = part_on f y v z part (pairs_on f x y z m pair)

    part_on : (f y v z : ℕ) → Part sys lattice f y v → c.paired z y ≡ true → c.paired z v ≡ true
    part_on f y v z (flow _ _ _ n st is) pair = obeys A6 n y v z f st is pair
    part_on f y v z (group _ _ a b _ s g n m st q st2 is) pair =
        (obeys A7 n m s y a b v st (pairs_on g a b a q (obeys A5 n s y a st).1) st2).1 z pair

  within : (n s u a g b : ℕ) → Stands sys lattice n (Enter s u a) → Matches sys lattice g a b → c.paired a b ≡ true
  within n s u a g b st q = pairs_on g a b a q (obeys A5 n s u a st).1

  -- what comes while a call is open: it is in the first set, or in the second set of the beginning of a pair
  abbrev Comes : ℕ → ℕ → Type 0
  Comes e v = (c.first v e ≡ true) ⊎ ((z : ℕ) × (c.paired z v ≡ true) × (c.second z e ≡ true))

  comes_second : (e v : ℕ) → Comes e v → c.second v e ≡ true
  comes_second e v (inl p) = (obeys A2 v).0 e p
  comes_second e v (inr (z, pair, is)) = obeys A8 z v pair e is

  flow_comes : (e n u v : ℕ) → Stands sys lattice n (Le u v) → Comes e u → Comes e v
  flow_comes e n u v st come = by_owner (owner_of sys v) refl come
    where
      by_owner : (o : Owner) → owner_of sys v ≡ o → Comes e u → Comes e v
      by_owner Nobody is come = inl ((obeys A2 v).1 is e ((obeys A3 n u v st).1 e (comes_second e u come)))
      by_owner (Function f) is (inl p) = inl ((obeys A3 n u v st).0 e p)
      by_owner (Function f) is (inr (z, pair, in_z)) = inr (z, obeys A6 n u v z f st is pair, in_z)

  mutual
    has_first : (e v : ℕ) → Returning sys lattice e v → c.first v e ≡ true
    has_first e v (start _ n st) = obeys A1 n e v st
    has_first e v (flows u _ n p st) = (obeys A3 n u v st).0 e (has_first e u p)
    has_first e v (returns u _ s n p st) = obeys A4 n s u v st e (has_first e u p)
    has_first e v (grouped u a b _ s g n m p st q st2) =
        (obeys A7 n m s u a b v st (within n s u a g b st q) st2).0 e (has_first e u p)
    has_first e v (anew _ call is) = (obeys A2 v).1 is e (comes_second e v (has_second e v call))

    has_second : (e v : ℕ) → Calling sys lattice e v → Comes e v
    has_second e v (calls u _ s n p st) =
        let on = obeys A5 n s u v st in
        inr (v, on.1, on.0 e ((obeys A2 u).0 e (has_first e u p)))
    has_second e v (calls_on u _ s n call st) =
        let on = obeys A5 n s u v st in
        inr (v, on.1, on.0 e (comes_second e u (has_second e u call)))
    has_second e v (flows_on u _ n call st) = flow_comes e n u v st (has_second e u call)
    has_second e v (grouped_on u a b _ s g n m call st q st2) =
        let on = obeys A7 n m s u a b v st (within n s u a g b st q) st2 in
        elim (has_second e u call) [
          | inl p ↦ inl (on.0 e p)
          | inr come ↦ inr (come.0, on.1 come.0 come.1, come.2)
        ]

  has_joined : (x v : ℕ) → IsJoined sys lattice x v → c.paired x v ≡ true
  has_joined x v joined = let path = path_of sys lattice owned x v joined in
      let end = joined.0 in
      pairs_on path.0 x v x path.1 (obeys A5 end.0 end.1 end.2 x end.3).1

-- a certificate that obeys the rules has all that the written one has
pub certified_has_written : CertifiedHasWritten
certified_has_written sys lattice order c owned obeys = record {
  paired = has_joined sys lattice order c owned obeys;
  first = λ v e p. has_first sys lattice order c owned obeys e v p;
  second = λ v e lead. elim lead [
    | inl p ↦ (obeys A2 v).0 e (has_first sys lattice order c owned obeys e v p)
    | inr call ↦ comes_second sys lattice order c owned obeys e v (has_second sys lattice order c owned obeys e v call)
  ];
}
