-- The sets of what reaches each copy are closed under each constraint.
use Rattle.std.proofs.Common.{◌≡◌, ℕ, List, [], ◌∷◌, refl, sym, ◌∙◌, ap, subst, inl, inr}
use Rattle.qual_base.specs.declared.places.Owner.{Owner}
use Rattle.qual_base.specs.declared.places.Owner.TheVariants.{Nobody, Function}
use Rattle.flow_graph.specs.declared.constraint.Link.TheVariants.{Le, Enter, Leave}
use Rattle.flow_graph.specs.System.{System, owner_of, Stands, IsWellOwned}
use Rattle.flow_graph.specs.Unfolding.{seen_from}
use Rattle.flow_graph.specs.Paths.{Matches, stay, longer, Part, flow, group, Returning, flows, returns, grouped, anew, Calling, calls, calls_on, flows_on, grouped_on, Lead}
use Rattle.flow_laws.specs.Sets.{Reaches}
use Rattle.flow_laws.proofs.Owners.{function_is, start_owner, end_owner, entering, same_function, same_outer}

module _ (sys : System) (lattice : ℕ) where
  -- two paths inside one function, one behind the other
  pub joined : (f u x v : ℕ) → Matches sys lattice f u x → Matches sys lattice f x v → Matches sys lattice f u v
  joined f u x v p (stay _ _ is) = p
  joined f u x v p (longer _ _ y _ m last) = longer f u y v (joined f u x y p m) last

  pub one_part : (f u v : ℕ) → owner_of sys u ≡ Function f → Part sys lattice f u v → Matches sys lattice f u v
  one_part f u v is part = longer f u u v (stay f u is) part

  -- a path inside a function goes on from what leads to its first variable
  pub returning_on : (e f x v : ℕ) → Returning sys lattice e x → Matches sys lattice f x v → Returning sys lattice e v
  returning_on e f x v p (stay _ _ is) = p
  returning_on e f x v p (longer _ _ y _ m last) = on_part (returning_on e f x y p m) last
    where
      on_part : Returning sys lattice e y → Part sys lattice f y v → Returning sys lattice e v
      on_part before (flow _ _ _ n st is) = flows y v n before st
      on_part before (group _ _ a b _ s g n m st q st2 is) = grouped y a b v s g n m before st q st2

  pub calling_on : (e f x v : ℕ) → Calling sys lattice e x → Matches sys lattice f x v → Calling sys lattice e v
  calling_on e f x v c (stay _ _ is) = c
  calling_on e f x v c (longer _ _ y _ m last) = on_part (calling_on e f x y c m) last
    where
      on_part : Calling sys lattice e y → Part sys lattice f y v → Calling sys lattice e v
      on_part before (flow _ _ _ n st is) = flows_on y v n before st
      on_part before (group _ _ a b _ s g n m st q st2 is) = grouped_on y a b v s g n m before st q st2

  pub anywhere : (e v : ℕ) (sites : List ℕ) → Returning sys lattice e v → Reaches sys lattice e v sites
  anywhere e v [] p = p
  anywhere e v (s ∷ sites) p = inl p

  -- what reaches a copy leads to the variable
  pub leads : (e v : ℕ) (sites : List ℕ) → Reaches sys lattice e v sites → Lead sys lattice e v
  leads e v [] p = inl p
  leads e v (s ∷ sites) (inl p) = inl p
  leads e v (s ∷ sites) (inr (u, a, g, n, st, r, m)) = inr (elim (leads e u sites r) [
    | inl p ↦ calling_on e g a v (calls u a s n p st) m
    | inr c ↦ calling_on e g a v (calls_on u a s n c st) m
  ])

  along : (e f x v : ℕ) (sites : List ℕ) → Reaches sys lattice e x sites → Matches sys lattice f x v
      → Reaches sys lattice e v sites
  along e f x v [] p m = returning_on e f x v p m
  along e f x v (s ∷ sites) (inl p) m = inl (returning_on e f x v p m)
  along e f x v (s ∷ sites) (inr (u, a, g, n, st, r, q)) m =
      let same : g ≡ f = function_is (sym (end_owner sys lattice g a x q) ∙ start_owner sys lattice f x v m) in
      inr (u, a, f, n, st, r, joined f a x v (subst (λ h. Matches sys lattice h a x) same q) m)

  -- what reaches a variable of nobody in any copy has no call open there
  homed : (e v : ℕ) (sites : List ℕ) → owner_of sys v ≡ Nobody → Reaches sys lattice e v sites
      → Returning sys lattice e v
  homed e v sites is r = elim (leads e v sites r) [ inl p ↦ p | inr c ↦ anew v c is ]

  -- a variable's own copy has what reaches it in another
  pub at_home : (e v : ℕ) (sites : List ℕ) → Reaches sys lattice e v sites
      → Reaches sys lattice e v (seen_from (owner_of sys v) sites)
  at_home e v sites r = by_owner (owner_of sys v) refl
    where
      by_owner : (o : Owner) → owner_of sys v ≡ o → Reaches sys lattice e v (seen_from o sites)
      by_owner Nobody is = homed e v sites is r
      by_owner (Function f) is = r

  pub from_home : (e v : ℕ) (sites : List ℕ) → Reaches sys lattice e v (seen_from (owner_of sys v) sites)
      → Reaches sys lattice e v sites
  from_home e v sites r = by_owner (owner_of sys v) refl r
    where
      by_owner : (o : Owner) → owner_of sys v ≡ o → Reaches sys lattice e v (seen_from o sites)
          → Reaches sys lattice e v sites
      by_owner Nobody is r = anywhere e v sites r
      by_owner (Function f) is r = r

module _ (sys : System) (lattice : ℕ) (owned : IsWellOwned sys) where
  pub entered : (e s n u v : ℕ) (sites : List ℕ) → Stands sys lattice n (Enter s u v) → Reaches sys lattice e u sites
      → Reaches sys lattice e v (s ∷ sites)
  entered e s n u v sites st r =
      let call = entering sys lattice owned n s u v st in
      inr (u, v, call.it.target, n, st, r, stay call.it.target v call.inner_is)

  pub flowed : (e n u v : ℕ) (sites : List ℕ) → Stands sys lattice n (Le u v) → Reaches sys lattice e u sites
      → Reaches sys lattice e v sites
  flowed e n u v sites st r = by_owner (owner_of sys u) (owner_of sys v) refl refl
    where
      ended : owner_of sys v ≡ Nobody → Lead sys lattice e u → Returning sys lattice e v
      ended is (inl p) = flows u v n p st
      ended is (inr c) = anew v (flows_on u v n c st) is

      by_owner : (one other : Owner) → owner_of sys u ≡ one → owner_of sys v ≡ other → Reaches sys lattice e v sites
      by_owner Nobody other p q = anywhere sys lattice e v sites (flows u v n (homed sys lattice e u sites p r) st)
      by_owner (Function f) Nobody p q = anywhere sys lattice e v sites (ended q (leads sys lattice e u sites r))
      by_owner (Function f) (Function g) p q =
          let same : f ≡ g = same_function sys lattice owned n u v st f g p q in
          along sys lattice e f u v sites r
          (one_part sys lattice f u v p (flow f u v n st (q ∙ ap (λ f. Function f) (sym same))))

  pub left : (e s m b v : ℕ) (sites : List ℕ) → Stands sys lattice m (Leave s b v) → Reaches sys lattice e b (s ∷ sites)
      → Reaches sys lattice e v sites
  left e s m b v sites st2 (inl p) = anywhere sys lattice e v sites (returns b v s m p st2)
  left e s m b v sites st2 (inr (u, a, g, n, st, r, q)) = by_owner (owner_of sys u) refl
    where
      by_owner : (o : Owner) → owner_of sys u ≡ o → Reaches sys lattice e v sites
      by_owner Nobody is =
          anywhere sys lattice e v sites (grouped u a b v s g n m (homed sys lattice e u sites is r) st q st2)
      by_owner (Function f) is =
          let outer : owner_of sys v ≡ Function f = sym (same_outer sys lattice owned n m s u a b v st st2) ∙ is in
          along sys lattice e f u v sites r (one_part sys lattice f u v is (group f u a b v s g n m st q st2 outer))
