-- What the unfolding leads to is what a path in two phases leads to.
use Rattle.std.proofs.Common.{◌≡◌, ℕ, ◌+◌, ◌≤◌, arith, List, [], ◌∷◌, length, refl, sym, ◌∙◌, ap, subst, ◌⊎◌, inl, inr}
use Rattle.qual_base.specs.declared.places.Owner.{Owner}
use Rattle.qual_base.specs.declared.places.Owner.TheVariants.{Nobody, Function}
use Rattle.flow_graph.specs.declared.phase.Phase.{Phase}
use Rattle.flow_graph.specs.declared.phase.Phase.TheVariants.{First, Second}
use Rattle.flow_graph.specs.declared.constraint.Link.TheVariants.{Le, Enter, Leave}
use Rattle.flow_graph.specs.CallStrings.{IsCopy, either}
use Rattle.flow_graph.specs.System.{System, owner_of, Stands, IsWellOwned}
use Rattle.flow_graph.specs.Unfolding.{seen_from}
use Rattle.flow_graph.specs.Paths.{Matches, stay, longer, Part, flow, group}
use Rattle.flow_graph.specs.Parts.{settled}
use Rattle.flow_graph.specs.Leading.{Leap, ByFlow, ByEnter, ByLeave, Onto, Stays, Further, Leads, Goes, Begins, Flows, Returns, Enters, Rounds}
use Rattle.walk_laws.specs.Laws.{LeadsAreWalks}
use Rattle.flow_laws.proofs.Leads.{root}
use Rattle.flow_laws.proofs.Owners.{start_owner, end_owner, entering, leaving, same_function, same_outer, function_is, copy_on, seen_is, flow_to, flow_from}
use Rattle.flow_laws.proofs.Reaching.{joined, one_part}

module _ (sys : System) (lattice start : ℕ) (owned : IsWellOwned sys) where
  abbrev pub Walk : Phase → ℕ → Type 0
  Walk p v = Goes sys lattice start p v

  -- at a variable of nobody a path is in the first phase
  homed : (p : Phase) (v : ℕ) → Walk p v → owner_of sys v ≡ Nobody → p ≡ First
  homed p v Begins is = refl
  homed p v (Flows r u _ n _ same d st) is = same ∙ ap (λ o. settled o r) is
  homed p v (Returns u _ s n d st) is = refl
  homed p v (Enters r u _ s n _ same d st) is = same ∙ ap (λ o. settled o Second) is
  homed p v (Rounds r u a b _ s g n m _ same d st q st2) is = same ∙ ap (λ o. settled o r) is

  -- a path inside a function keeps the phase
  walk_on : (p : Phase) (f x v : ℕ) → Walk p x → Matches sys lattice f x v → Walk p v
  walk_on p f x v d (stay _ _ is) = d
  walk_on p f x v d (longer _ _ y _ m part) = on_part (walk_on p f x y d m) part
    where
      on_part : Walk p y → Part sys lattice f y v → Walk p v
      on_part before (flow _ _ _ n st is) = Flows p y v n p (sym (ap (λ o. settled o p) is)) before st
      on_part before (group _ _ a b _ s g n m st q st2 is) =
          Rounds p y a b v s g n m p (sym (ap (λ o. settled o p) is)) before st q st2

  -- what the unfolding leads to in a copy
  abbrev Held : ℕ → List ℕ → Type 0
  Held v [] = Walk First v
  Held v (s ∷ sites) =
      Walk First v ⊎ ((u : ℕ) × (a : ℕ) × (g : ℕ) × (n : ℕ) × Stands sys lattice n (Enter s u a) × Held u sites
      × Matches sys lattice g a v)

  anywhere : (v : ℕ) (sites : List ℕ) → Walk First v → Held v sites
  anywhere v [] d = d
  anywhere v (s ∷ sites) d = inl d

  call_on : (n s u a : ℕ) → Stands sys lattice n (Enter s u a) → (p : Phase) × Walk p u → (p : Phase) × Walk p a
  call_on n s u a st d = (
    Second,
    Enters d.0 u a s n Second
        (sym (ap (λ o. settled o Second) (entering sys lattice owned n s u a st).inner_is)) d.1 st,
  )

  leads : (v : ℕ) (sites : List ℕ) → Held v sites → (p : Phase) × Walk p v
  leads v [] d = (First, d)
  leads v (s ∷ sites) (inl d) = (First, d)
  leads v (s ∷ sites) (inr (u, a, g, n, st, r, m)) =
      let on = call_on n s u a st (leads u sites r) in
      (on.0, walk_on on.0 g a v on.1 m)

  first_of : (v : ℕ) (sites : List ℕ) → owner_of sys v ≡ Nobody → Held v sites → Walk First v
  first_of v sites is r = let d = leads v sites r in subst (λ p. Walk p v) (homed d.0 v d.1 is) d.1

  onward : (f x v : ℕ) (sites : List ℕ) → Held x sites → Matches sys lattice f x v → Held v sites
  onward f x v [] d m = walk_on First f x v d m
  onward f x v (s ∷ sites) (inl d) m = inl (walk_on First f x v d m)
  onward f x v (s ∷ sites) (inr (u, a, g, n, st, r, q)) m =
      let same : g ≡ f = function_is (sym (end_owner sys lattice g a x q) ∙ start_owner sys lattice f x v m) in
      inr (u, a, f, n, st, r, joined sys lattice f a x v (subst (λ h. Matches sys lattice h a x) same q) m)

  at_home : (v : ℕ) (sites : List ℕ) → Held v sites → Held v (seen_from (owner_of sys v) sites)
  at_home v sites r = by_owner (owner_of sys v) refl
    where
      by_owner : (o : Owner) → owner_of sys v ≡ o → Held v (seen_from o sites)
      by_owner Nobody is = first_of v sites is r
      by_owner (Function f) is = r

  from_home : (v : ℕ) (sites : List ℕ) → Held v (seen_from (owner_of sys v) sites) → Held v sites
  from_home v sites r = by_owner (owner_of sys v) refl r
    where
      by_owner : (o : Owner) → owner_of sys v ≡ o → Held v (seen_from o sites) → Held v sites
      by_owner Nobody is r = anywhere v sites r
      by_owner (Function f) is r = r

  flowed : (n u v : ℕ) (sites : List ℕ) → Stands sys lattice n (Le u v) → Held u sites → Held v sites
  flowed n u v sites st r = by_owner (owner_of sys u) (owner_of sys v) refl refl
    where
      settles : (p q : Phase) (o : Owner) → owner_of sys v ≡ o → q ≡ settled o p → q ≡ settled (owner_of sys v) p
      settles p q o is e = e ∙ sym (ap (λ o. settled o p) is)

      by_owner : (one other : Owner) → owner_of sys u ≡ one → owner_of sys v ≡ other → Held v sites
      by_owner Nobody Nobody p q =
          anywhere v sites (Flows First u v n First (settles First First Nobody q refl) (first_of u sites p r) st)
      by_owner Nobody (Function g) p q =
          anywhere v sites (Flows First u v n First (settles First First (Function g) q refl) (first_of u sites p r) st)
      by_owner (Function f) Nobody p q =
          let d = leads u sites r in
          anywhere v sites (Flows d.0 u v n First (settles d.0 First Nobody q refl) d.1 st)
      by_owner (Function f) (Function g) p q =
          let same : f ≡ g = same_function sys lattice owned n u v st f g p q in
          onward f u v sites r (one_part sys lattice f u v p (flow f u v n st (q ∙ ap (λ f. Function f) (sym same))))

  entered : (n s u a : ℕ) (sites : List ℕ) → Stands sys lattice n (Enter s u a) → Held u sites → Held a (s ∷ sites)
  entered n s u a sites st r =
      let call = entering sys lattice owned n s u a st in
      inr (u, a, call.it.target, n, st, r, stay call.it.target a call.inner_is)

  left : (m s b v : ℕ) (sites : List ℕ) → Stands sys lattice m (Leave s b v) → Held b (s ∷ sites) → Held v sites
  left m s b v sites st2 (inl d) = anywhere v sites (Returns b v s m d st2)
  left m s b v sites st2 (inr (u, a, g, n, st, r, q)) = by_owner (owner_of sys u) refl
    where
      same : owner_of sys u ≡ owner_of sys v
      same = same_outer sys lattice owned n m s u a b v st st2

      by_owner : (o : Owner) → owner_of sys u ≡ o → Held v sites
      by_owner Nobody is =
          anywhere v sites (Rounds First u a b v s g n m First (sym (ap (λ o. settled o First) (sym same ∙ is)))
          (first_of u sites is r) st q st2)
      by_owner (Function f) is =
          onward f u v sites r (one_part sys lattice f u v is (group f u a b v s g n m st q st2 (sym same ∙ is)))

  leapt : (depth x v : ℕ) (one two : List ℕ) → Leap sys lattice depth x one v two → Held x one → Held v two
  leapt depth x v one two (ByFlow n _ _ sites st copy) r = at_home v sites (flowed n x v sites st (from_home x sites r))
  leapt depth x v one two (ByEnter n s _ _ site sites st there copy fits) r =
      at_home v (s ∷ sites) (entered n s x v sites st (from_home x sites r))
  leapt depth x v one two (ByLeave n s _ _ site sites st there copy fits) r =
      at_home v sites (left n s x v sites st (from_home x (s ∷ sites) r))

  held : (depth v : ℕ) (from to : List ℕ) → Onto sys lattice depth start from v to → Held v to
  held depth v from to (Stays _ _) = anywhere v to Begins
  held depth v from to (Further _ x _ _ two _ before leap) = leapt depth x v two to leap (held depth x from two before)

  pub walk_of : (v : ℕ) → Leads sys lattice start v → (p : Phase) × Walk p v
  walk_of v l = leads v l.to (held l.depth v l.from l.to l.onto)

module _ (sys : System) (lattice : ℕ) (owned : IsWellOwned sys) where
  abbrev To : ℕ → ℕ → List ℕ → ℕ → List ℕ → Type 0
  To depth u one v two = Onto sys lattice depth u one v two

  onto_join : (depth u x v : ℕ) (one two three : List ℕ) → To depth u one x two → To depth x two v three
      → To depth u one v three
  onto_join depth u x v one two three d (Stays _ _) = d
  onto_join depth u x v one two three d (Further _ y _ _ mid _ before leap) =
      Further u y v one mid three (onto_join depth u x y one two mid d before) leap

  single : (depth u v : ℕ) (one two : List ℕ) → Leap sys lattice depth u one v two → To depth u one v two
  single depth u v one two leap = Further u u v one one two (Stays u one) leap

  -- a step between copies that are written plainly
  plainly : (depth u v : ℕ) (one two : List ℕ) → IsCopy sys depth (owner_of sys u) one
      → IsCopy sys depth (owner_of sys v) two →
      Leap sys lattice depth u (seen_from (owner_of sys u) one) v (seen_from (owner_of sys v) two)
      → To depth u one v two
  plainly depth u v one two from to leap =
      let same_one = seen_is sys depth (owner_of sys u) one from in
      let same_two = seen_is sys depth (owner_of sys v) two to in
      single depth u v one two (subst (λ w. Leap sys lattice depth u w v two) same_one
      (subst (λ w. Leap sys lattice depth u (seen_from (owner_of sys u) one) v w) same_two leap))

  enter_on : (depth n s u v : ℕ) (sites : List ℕ) → Stands sys lattice n (Enter s u v)
      → IsCopy sys depth (owner_of sys u) sites → length (s ∷ sites) ≤ depth →
      IsCopy sys depth (owner_of sys v) (s ∷ sites) × To depth u sites v (s ∷ sites)
  enter_on depth n s u v sites st copy fits =
      let call = entering sys lattice owned n s u v st in
      let deeper = copy_on sys depth (owner_of sys u) (owner_of sys v) s sites copy call (omega (arith, fits)) in (
        deeper,
        plainly depth u v sites (s ∷ sites) copy deeper (ByEnter n s u v call.it sites st call.there
            (subst (λ o. IsCopy sys depth o sites) call.outer_is copy) fits),
      )

  leave_on : (depth n s u v : ℕ) (sites : List ℕ) → Stands sys lattice n (Leave s u v)
      → IsCopy sys depth (owner_of sys v) sites → length (s ∷ sites) ≤ depth →
      IsCopy sys depth (owner_of sys u) (s ∷ sites) × To depth u (s ∷ sites) v sites
  leave_on depth n s u v sites st copy fits =
      let call = leaving sys lattice owned n s u v st in
      let deeper = copy_on sys depth (owner_of sys v) (owner_of sys u) s sites copy call (omega (arith, fits)) in (
        deeper,
        plainly depth u v (s ∷ sites) sites deeper copy (ByLeave n s u v call.it sites st call.there
            (subst (λ o. IsCopy sys depth o sites) call.outer_is copy) fits),
      )

  -- inside a function, from each copy to the same, at each depth that leaves room
  abbrev RoundTrips : ℕ → ℕ → ℕ → Type 0
  RoundTrips u v room =
      (depth : ℕ) (sites : List ℕ) → IsCopy sys depth (owner_of sys u) sites → length sites + room ≤ depth
      → To depth u sites v sites

  group_on : (n m s u a b v room : ℕ) → Stands sys lattice n (Enter s u a) → RoundTrips a b room
      → Stands sys lattice m (Leave s b v) → RoundTrips u v (room + 1)
  group_on n m s u a b v room st inside st2 depth sites copy fits =
      let one = enter_on depth n s u a sites st copy (omega (arith, fits)) in
      let home : IsCopy sys depth (owner_of sys v) sites =
      subst (λ o. IsCopy sys depth o sites) (same_outer sys lattice owned n m s u a b v st st2) copy in
      let two = inside depth (s ∷ sites) one.0 (omega (arith, fits)) in
      let three = leave_on depth m s b v sites st2 home (omega (arith, fits)) in
      onto_join depth u b v sites (s ∷ sites) sites
      (onto_join depth u a b sites (s ∷ sites) (s ∷ sites) one.1 two) three.1

  mutual
    path_on : (f u v : ℕ) → Matches sys lattice f u v → (room : ℕ) × RoundTrips u v room
    path_on f u v (stay _ _ is) = (0, λ depth sites copy fits. Stays u sites)
    path_on f u v (longer _ _ x _ m p) =
        let one = path_on f u x m in
        let two = part_on f x v (end_owner sys lattice f u x m) p in
        let same : owner_of sys u ≡ owner_of sys x =
        start_owner sys lattice f u x m ∙ sym (end_owner sys lattice f u x m) in (
          one.0 + two.0,
          λ depth sites copy fits.
              onto_join depth u x v sites sites sites (one.1 depth sites copy (omega (arith, fits)))
              (two.1 depth sites (subst (λ o. IsCopy sys depth o sites) same copy) (omega (arith, fits))),
        )

    part_on : (f x v : ℕ) → owner_of sys x ≡ Function f → Part sys lattice f x v → (room : ℕ) × RoundTrips x v room
    part_on f x v own (flow _ _ _ n st is) = (
      0,
      λ depth sites copy fits.
          plainly depth x v sites sites copy (subst (λ o. IsCopy sys depth o sites) (own ∙ sym is) copy)
          (ByFlow n x v sites st (subst (λ o. IsCopy sys depth (either o (owner_of sys v)) sites) (sym own)
          (subst (λ o. IsCopy sys depth o sites) own copy))),
    )
    part_on f x v own (group _ _ a b _ s g n m st q st2 is) =
        let inner = path_on g a b q in
        (inner.0 + 1, group_on n m s x a b v inner.0 st inner.1 st2)

  module _ (begin : ℕ) where
    -- to each copy of the end, at each depth that leaves room
    abbrev All : ℕ → ℕ → Type 0
    All v room = (depth : ℕ) (sites : List ℕ) → IsCopy sys depth (owner_of sys v) sites → length sites + room ≤ depth →
        (w : List ℕ) × IsCopy sys depth (owner_of sys begin) w × To depth begin w v sites

    -- to one copy, at each depth that is no lower than its own
    abbrev One : ℕ → ℕ → List ℕ → Type 0
    One v least sites =
        (depth : ℕ) → least ≤ depth → IsCopy sys depth (owner_of sys v) sites × (w : List ℕ)
        × IsCopy sys depth (owner_of sys begin) w × To depth begin w v sites

    flow_all : (n u v room : ℕ) → Stands sys lattice n (Le u v) → All u room → All v room
    flow_all n u v room st all depth sites copy fits =
        let from =
        flow_to sys depth (owner_of sys u) (owner_of sys v) sites (same_function sys lattice owned n u v st) copy in
        let before = all depth (seen_from (owner_of sys u) from.0) from.2 (omega (arith, fits, from.4)) in
        let same : seen_from (owner_of sys v) from.0 ≡ sites = from.3 ∙ seen_is sys depth (owner_of sys v) sites copy in (
          before.0,
          before.1,
          Further begin u v before.0 (seen_from (owner_of sys u) from.0) sites before.2
              (subst (λ w. Leap sys lattice depth u (seen_from (owner_of sys u) from.0) v w) same
              (ByFlow n u v from.0 st from.1)),
        )

    flow_one : (n u v least : ℕ) (sites : List ℕ) → Stands sys lattice n (Le u v) → One u least sites
        → One v least (seen_from (owner_of sys v) sites)
    flow_one n u v least sites st one depth fits =
        let before = one depth fits in
        let on = flow_from sys depth (owner_of sys u) (owner_of sys v) sites
        (same_function sys lattice owned n u v st) before.0 in
        let same : seen_from (owner_of sys u) sites ≡ sites = seen_is sys depth (owner_of sys u) sites before.0 in (
          on.0,
          before.1,
          before.2,
          Further begin u v before.1 sites (seen_from (owner_of sys v) sites) before.3
              (subst (λ w. Leap sys lattice depth u w v (seen_from (owner_of sys v) sites)) same
              (ByFlow n u v sites st on.1)),
        )

    -- what leads to one copy of a variable of nobody leads to its only one
    all_of : (v least : ℕ) (sites : List ℕ) → owner_of sys v ≡ Nobody → One v least sites → All v least
    all_of v least sites is one depth others copy fits =
        let there = one depth (omega (arith, fits)) in
        let mine : sites ≡ [] = subst (λ o. IsCopy sys depth o sites) is there.0 in
        let its : others ≡ [] = subst (λ o. IsCopy sys depth o others) is copy in
        (there.1, there.2, subst (λ w. To depth begin there.1 v w) (mine ∙ sym its) there.3)

    one_of : (v room : ℕ) → All v room → One v room []
    one_of v room all depth fits =
        let on = all depth [] (root sys depth (owner_of sys v)) (omega (arith, fits)) in
        (root sys depth (owner_of sys v), on.0, on.1, on.2)

    call_one : (n s u v least : ℕ) (sites : List ℕ) → Stands sys lattice n (Enter s u v) → One u least sites
        → One v (least + (length sites + 1)) (s ∷ sites)
    call_one n s u v least sites st one depth fits =
        let before = one depth (omega (arith, fits)) in
        let on = enter_on depth n s u v sites st before.0 (omega (arith, fits)) in
        (on.0, before.1, before.2, onto_join depth begin u v before.1 sites (s ∷ sites) before.3 on.1)

    group_all : (n m s u a b v g room : ℕ) → Stands sys lattice n (Enter s u a) → Matches sys lattice g a b
        → Stands sys lattice m (Leave s b v) → All u room → (r : ℕ) × All v r
    group_all n m s u a b v g room st q st2 all =
        let inner = path_on g a b q in (
          room + (inner.0 + 1),
          λ depth sites copy fits.
              let home : IsCopy sys depth (owner_of sys u) sites =
              subst (λ o. IsCopy sys depth o sites) (sym (same_outer sys lattice owned n m s u a b v st st2)) copy in
              let before = all depth sites home (omega (arith, fits)) in (
                before.0,
                before.1,
                onto_join depth begin u v before.0 sites sites before.2
                    (group_on n m s u a b v inner.0 st inner.1 st2 depth sites home (omega (arith, fits))),
              ),
        )

    group_one : (n m s u a b v g least : ℕ) (sites : List ℕ) → Stands sys lattice n (Enter s u a)
        → Matches sys lattice g a b → Stands sys lattice m (Leave s b v) → One u least sites → (r : ℕ) × One v r sites
    group_one n m s u a b v g least sites st q st2 one =
        let inner = path_on g a b q in (
          least + (length sites + (inner.0 + 1)),
          λ depth fits.
              let before = one depth (omega (arith, fits)) in
              let home : IsCopy sys depth (owner_of sys v) sites =
              subst (λ o. IsCopy sys depth o sites) (same_outer sys lattice owned n m s u a b v st st2) before.0 in (
                home,
                before.1,
                before.2,
                onto_join depth begin u v before.1 sites sites before.3
                    (group_on n m s u a b v inner.0 st inner.1 st2 depth sites before.0 (omega (arith, fits))),
              ),
        )

    abbrev Reached : Phase → ℕ → Type 0
    Reached First v = (room : ℕ) × All v room
    Reached Second v = (least : ℕ) × (sites : List ℕ) × One v least sites

    -- a phase after a step: where it falls back to the first, the variable is nobody's
    settle : (p q : Phase) (v : ℕ) → q ≡ settled (owner_of sys v) p → Reached p v → Reached q v
    settle First First v same r = r
    settle First Second v same r = by_owner (owner_of sys v) same
      where
        by_owner : (o : Owner) → Second ≡ settled o First → Reached Second v
        by_owner Nobody e = absurd cc
        by_owner (Function f) e = absurd cc
    settle Second Second v same r = r
    settle Second First v same r = by_owner (owner_of sys v) refl same
      where
        by_owner : (o : Owner) → owner_of sys v ≡ o → First ≡ settled o Second → Reached First v
        by_owner Nobody is e = (r.0, all_of v r.0 r.1 is r.2)
        by_owner (Function f) is e = absurd cc

    flow_reached : (p : Phase) (n u v : ℕ) → Stands sys lattice n (Le u v) → Reached p u → Reached p v
    flow_reached First n u v st r = (r.0, flow_all n u v r.0 st r.1)
    flow_reached Second n u v st r = (r.0, seen_from (owner_of sys v) r.1, flow_one n u v r.0 r.1 st r.2)

    group_reached : (p : Phase) (n m s u a b v g : ℕ) → Stands sys lattice n (Enter s u a) → Matches sys lattice g a b
        → Stands sys lattice m (Leave s b v) → Reached p u → Reached p v
    group_reached First n m s u a b v g st q st2 r = group_all n m s u a b v g r.0 st q st2 r.1
    group_reached Second n m s u a b v g st q st2 r =
        let on = group_one n m s u a b v g r.0 r.1 st q st2 r.2 in
        (on.0, r.1, on.1)

    call_reached : (p : Phase) (n s u v : ℕ) → Stands sys lattice n (Enter s u v) → Reached p u → Reached Second v
    call_reached First n s u v st r =
        (r.0 + (length {A = ℕ} [] + 1), s ∷ [], call_one n s u v r.0 [] st (one_of u r.0 r.1))
    call_reached Second n s u v st r = (r.0 + (length r.1 + 1), s ∷ r.1, call_one n s u v r.0 r.1 st r.2)

    reached : (p : Phase) (v : ℕ) → Goes sys lattice begin p v → Reached p v
    reached p v Begins = (0, λ depth sites copy fits. (sites, copy, Stays begin sites))
    reached p v (Flows r u _ n _ same d st) = settle r p v same (flow_reached r n u v st (reached r u d))
    reached p v (Returns u _ s n d st) =
        let before = reached First u d in (
          before.0 + 1,
          λ depth sites copy fits.
              let on = leave_on depth n s u v sites st copy (omega (arith, fits)) in
              let there = before.1 depth (s ∷ sites) on.0 (omega (arith, fits)) in
              (there.0, there.1, onto_join depth begin u v there.0 (s ∷ sites) sites there.2 on.1),
        )
    reached p v (Enters r u _ s n _ same d st) = settle Second p v same (call_reached r n s u v st (reached r u d))
    reached p v (Rounds r u a b _ s g n m _ same d st q st2) =
        settle r p v same (group_reached r n m s u a b v g st q st2 (reached r u d))

    pub leads_of : (p : Phase) (v : ℕ) → Goes sys lattice begin p v → Leads sys lattice begin v
    leads_of First v d =
        let r = reached First v d in
        let there = r.1 r.0 [] (root sys r.0 (owner_of sys v)) (omega arith) in
        record {
          depth = r.0;
          from = there.0;
          to = [];
          from_copy = there.1;
          to_copy = root sys r.0 (owner_of sys v);
          onto = there.2;
        }
    leads_of Second v d =
        let r = reached Second v d in
        let there = r.2 r.0 (omega arith) in
        record { depth = r.0; from = there.1; to = r.1; from_copy = there.2; to_copy = there.0; onto = there.3 }

pub leads_are_walks : LeadsAreWalks
leads_are_walks sys lattice u v owned = (walk_of sys lattice u owned v, λ d. leads_of sys lattice owned u d.0 v d.1)
