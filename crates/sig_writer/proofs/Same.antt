-- A library within a split has the paths that it has by itself.
use Rattle.std.proofs.Common.{◌≡◌, ℕ, ◌<◌, ◌≤◌, List, slice_get, Some, sym, ◌∙◌, subst, arith}
use Rattle.flow_graph.specs.declared.constraint.Link.{Link}
use Rattle.flow_graph.specs.declared.constraint.Link.TheVariants.{Le, Const, Bound, Enter, Leave}
use Rattle.lattice_core.specs.Order.{Order}
use Rattle.flow_graph.specs.System.{System, highest, vars_of, vars_of_link, Has, Stands}
use Rattle.flow_graph.specs.Paths.{Matches, stay, longer, Part, flow, group, Match}
use Rattle.flow_graph.proofs.Bounds.{below-highest}
use Rattle.flow_laws.specs.Least.{IsLeastOver}
use Rattle.flow_laws.proofs.Links.{has_of}
use Rattle.match_summary.specs.Summary.{IsInnerEnd}
use Rattle.split_laws.specs.Same.{SameOwner, SameOwners, AreSame, HaveSamePaths}
use Rattle.split_laws.specs.Splits.{Split, alone, Down, here, along, into, round, IsGreatestUnder, ReachesBound}
use Rattle.sig_writer.specs.Signatures.{External, Found}
use Rattle.sig_writer.specs.Parts.{IsSplitOf}

-- ---- the variables of a constraint are below the number of all

-- the variables of a constraint of a system are within the variables of the system
pub has_low : (sys : System) (n : ℕ) (link : Link) → Has sys n link → vars_of_link link ≤ vars_of sys
has_low sys n link has =
    let low : vars_of_link link ≤ highest sys.constraints =
    subst (λ it. vars_of_link it ≤ highest sys.constraints) has.link_is
    (below-highest sys.constraints n has.constraint has.there) in
    omega (arith, low)

-- ---- paths of one system in another one

module _ (one other : System) (lattice : ℕ) (same : AreSame one other) (laws : HaveSamePaths one other lattice) where
  to : (n : ℕ) (link : Link) → Stands one lattice n link → Stands other lattice n link
  to n link st = record {
    constraint = st.constraint;
    there = subst (λ cs. slice_get cs n ≡ Some st.constraint) same.constraints st.there;
    link_is = st.link_is;
    carried = st.carried;
  }

  of : (n : ℕ) (link : Link) → Stands one lattice n link → SameOwners one other link
  of n link st = same.owners n link (has_of one lattice n link st)

  part : (f x v : ℕ) → Part one lattice f x v → Part other lattice f x v
  part f x v (flow _ _ _ n st is) = flow f x v n (to n (Le x v) st) (sym (of n (Le x v) st).1 ∙ is)
  part f x v (group _ _ a b _ s h n m st q st2 is) =
      group f x a b v s h n m (to n (Enter s x a) st) ((laws.matches h a b (of n (Enter s x a) st).1).0 q)
      (to m (Leave s b v) st2)
      (sym (of m (Leave s b v) st2).1 ∙ is)

  -- a path of parts begins at a variable of a constraint
  part_begins : (f x v : ℕ) → Part one lattice f x v → SameOwner one other x
  part_begins f x v (flow _ _ _ n st is) = (of n (Le x v) st).0
  part_begins f x v (group _ _ a b _ s h n m st q st2 is) = (of n (Enter s x a) st).0

  begins : (f a x v : ℕ) → Matches one lattice f a x → Part one lattice f x v → SameOwner one other a
  begins f a x v (stay _ _ is) p = part_begins f a v p
  begins f a x v (longer _ _ y _ m q) p = begins f a y x m q

  pub match_to : (u v : ℕ) → Match one lattice u v → Match other lattice u v
  match_to u v (f, x, m, p) = (f, x, (laws.matches f u x (begins f u x v m p)).0 m, part f x v p)

  pub end_to : (a : ℕ) → IsInnerEnd one lattice a → IsInnerEnd other lattice a
  end_to a (n, s, u, st) = (n, s, u, to n (Enter s u a) st)

  pub end_owner_to : (a : ℕ) → IsInnerEnd one lattice a → SameOwner one other a
  end_owner_to a (n, s, u, st) = (of n (Enter s u a) st).1

  down_to : (u v : ℕ) → Down one lattice u v → Down other lattice u v
  down_to u v (here _) = here u
  down_to u v (along _ x _ n d st) = along u x v n (down_to u x d) (to n (Le x v) st)
  down_to u v (into _ x _ s n d st) = into u x v s n (down_to u x d) (to n (Enter s x v) st)
  down_to u v (round _ x a b _ s g n m d st q st2) =
      round u x a b v s g n m (down_to u x d) (to n (Enter s x a) st)
      ((laws.matches g a b (of n (Enter s x a) st).1).0 q) (to m (Leave s b v) st2)

  pub reaches_to : (v n b : ℕ) → ReachesBound one lattice v n b → ReachesBound other lattice v n b
  reaches_to v n b (x, d, st) = (x, down_to v x d, to n (Bound x lattice b) st)

-- where two systems have the same owners at a constraint, they do so the other way round
turned_link : (one other : System) (link : Link) → SameOwners one other link → SameOwners other one link
turned_link one other (Le u v) h = (sym h.0, sym h.1)
turned_link one other (Const l e v) h = sym h
turned_link one other (Bound v l b) h = sym h
turned_link one other (Enter s u v) h = (sym h.0, sym h.1)
turned_link one other (Leave s u v) h = (sym h.0, sym h.1)

-- where one system is the same as another, the other is the same as it
pub turned : (one other : System) → AreSame one other → AreSame other one
turned one other same = record {
  constraints = sym same.constraints;
  owners = λ n link h. turned_link one other link (same.owners n link (record {
    constraint = h.constraint;
    there = subst (λ cs. slice_get cs n ≡ Some h.constraint) (sym same.constraints) h.there;
    link_is = h.link_is;
  }));
}

-- ---- a library within a split

module _ (sys : System) (it : Found) (functions : List External) (s : Split) (fits : IsSplitOf sys it functions s) where
  kept : (v : ℕ) → v < vars_of sys → SameOwner sys (alone s) v
  kept v low = sym (fits.owners v low)

  kept_link : (link : Link) → vars_of_link link ≤ vars_of sys → SameOwners sys (alone s) link
  kept_link (Le u v) low = (kept u (omega (arith, low)), kept v (omega (arith, low)))
  kept_link (Const l e v) low = kept v (omega (arith, low))
  kept_link (Bound v l b) low = kept v (omega (arith, low))
  kept_link (Enter t u v) low = (kept u (omega (arith, low)), kept v (omega (arith, low)))
  kept_link (Leave t u v) low = (kept u (omega (arith, low)), kept v (omega (arith, low)))

  pub are_same : AreSame sys (alone s)
  are_same = record {
    constraints = sym fits.library;
    owners = λ n link has. kept_link link (has_low sys n link has);
  }

-- ---- least and greatest elements of sets that are one

-- the least element over a set is that over any set with the same elements
pub least_of_same : (order : Order) (In Other : ℕ → Type 0) (r : ℕ) → ((e : ℕ) → In e → Other e) →
    ((e : ℕ) → Other e → In e) →
    IsLeastOver order In r → IsLeastOver order Other r
least_of_same order In Other r to of h = record {
  element = h.element;
  upper = λ e is. h.upper e (of e is);
  least = λ d low above. h.least d low (λ e is. above e (to e is));
}

-- the greatest element under a set is that under any set with the same elements
pub greatest_of_same : (order : Order) (In Other : ℕ → Type 0) (r : ℕ) → ((e : ℕ) → In e → Other e) →
    ((e : ℕ) → Other e → In e) →
    IsGreatestUnder order In r → IsGreatestUnder order Other r
greatest_of_same order In Other r to of h = record {
  element = h.element;
  lower = λ e is. h.lower e (of e is);
  greatest = λ d low below. h.greatest d low (λ e is. below e (to e is));
}
