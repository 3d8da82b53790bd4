-- Paths of one system are paths of another with the same constraints.
use Rattle.std.proofs.Common.{◌≡◌, ℕ, slice_get, Some, sym, ◌∙◌, subst, inl, inr}
use Rattle.flow_graph.specs.declared.constraint.Link.{Link}
use Rattle.flow_graph.specs.declared.constraint.Link.TheVariants.{Le, Const, Bound, Enter, Leave}
use Rattle.lattice_core.specs.Order.{Order}
use Rattle.flow_graph.specs.System.{System, Stands}
use Rattle.flow_graph.specs.Paths.{Matches, stay, longer, Part, flow, group, Returning, start, flows, returns, grouped, anew, Calling, calls, calls_on, flows_on, grouped_on, Lead}
use Rattle.flow_laws.specs.Least.{IsSafe}
use Rattle.split_laws.specs.Same.{SameOwner, SameOwners, AreSame, SamePaths}
use Rattle.flow_laws.proofs.Links.{has_of}

module _ (one other : System) (lattice : ℕ) (same : AreSame one other) where
  to : (n : ℕ) (link : Link) → Stands one lattice n link → Stands other lattice n link
  to n link st = record {
    constraint = st.constraint;
    there = subst (λ cs. slice_get cs n ≡ Some st.constraint) same.constraints st.there;
    link_is = st.link_is;
    carried = st.carried;
  }

  of : (n : ℕ) (link : Link) → Stands one lattice n link → SameOwners one other link
  of n link st = same.owners n link (has_of one lattice n link st)

  mutual
    path : (g a v : ℕ) → SameOwner one other a → Matches one lattice g a v → Matches other lattice g a v
    path g a v own (stay _ _ is) = stay g a (sym own ∙ is)
    path g a v own (longer _ _ x _ m p) = longer g a x v (path g a x own m) (part g x v p)

    part : (g x v : ℕ) → Part one lattice g x v → Part other lattice g x v
    part g x v (flow _ _ _ n st is) = flow g x v n (to n (Le x v) st) (sym (of n (Le x v) st).1 ∙ is)
    part g x v (group _ _ a b _ s h n m st q st2 is) =
        group g x a b v s h n m (to n (Enter s x a) st) (path h a b (of n (Enter s x a) st).1 q)
        (to m (Leave s b v) st2) (sym (of m (Leave s b v) st2).1 ∙ is)

  ends : (e v : ℕ) → Calling one lattice e v → SameOwner one other v
  ends e v (calls u _ s n p st) = (of n (Enter s u v) st).1
  ends e v (calls_on u _ s n c st) = (of n (Enter s u v) st).1
  ends e v (flows_on u _ n c st) = (of n (Le u v) st).1
  ends e v (grouped_on u a b _ s g n m c st q st2) = (of m (Leave s b v) st2).1

  mutual
    back : (e v : ℕ) → Returning one lattice e v → Returning other lattice e v
    back e v (start _ n st) = start v n (to n (Const lattice e v) st)
    back e v (flows u _ n p st) = flows u v n (back e u p) (to n (Le u v) st)
    back e v (returns u _ s n p st) = returns u v s n (back e u p) (to n (Leave s u v) st)
    back e v (grouped u a b _ s g n m p st q st2) =
        grouped u a b v s g n m (back e u p) (to n (Enter s u a) st) (path g a b (of n (Enter s u a) st).1 q)
        (to m (Leave s b v) st2)
    back e v (anew _ c is) = anew v (call e v c) (sym (ends e v c) ∙ is)

    call : (e v : ℕ) → Calling one lattice e v → Calling other lattice e v
    call e v (calls u _ s n p st) = calls u v s n (back e u p) (to n (Enter s u v) st)
    call e v (calls_on u _ s n c st) = calls_on u v s n (call e u c) (to n (Enter s u v) st)
    call e v (flows_on u _ n c st) = flows_on u v n (call e u c) (to n (Le u v) st)
    call e v (grouped_on u a b _ s g n m c st q st2) =
        grouped_on u a b v s g n m (call e u c) (to n (Enter s u a) st) (path g a b (of n (Enter s u a) st).1 q)
        (to m (Leave s b v) st2)

  on : (e v : ℕ) → Lead one lattice e v → Lead other lattice e v
  on e v (inl p) = inl (back e v p)
  on e v (inr c) = inr (call e v c)

-- owners that are the same for one system and another are so the other way round
turned_link : (one other : System) (link : Link) → SameOwners one other link → SameOwners other one link
turned_link one other (Le u v) h = (sym h.0, sym h.1)
turned_link one other (Const l e v) h = sym h
turned_link one other (Bound v l b) h = sym h
turned_link one other (Enter s u v) h = (sym h.0, sym h.1)
turned_link one other (Leave s u v) h = (sym h.0, sym h.1)

-- if one system is the same as another, the other is the same as it
turned : (one other : System) → AreSame one other → AreSame other one
turned one other same = record {
  constraints = sym same.constraints;
  owners = λ n link h. turned_link one other link (same.owners n link (record {
    constraint = h.constraint;
    there = subst (λ cs. slice_get cs n ≡ Some h.constraint) (sym same.constraints) h.there;
    link_is = h.link_is;
  }));
}

-- a system is safe where one with the same constraints and owners is
safely : (one other : System) (lattice : ℕ) (order : Order) → AreSame one other → IsSafe one lattice order
    → IsSafe other lattice order
safely one other lattice order same safe n v b e st lead =
    let back_way = turned one other same in
    safe n v b e (to other one lattice back_way n (Bound v lattice b) st) (on other one lattice back_way e v lead)

-- systems with the same constraints and owners have the same paths and are safe alike
pub same_paths : SamePaths
same_paths one other lattice same =
    let back_way = turned one other same in
    record {
      matches = λ g a v own. (path one other lattice same g a v own, path other one lattice back_way g a v (sym own));
      returning = λ e v. (back one other lattice same e v, back other one lattice back_way e v);
      lead = λ e v. (on one other lattice same e v, on other one lattice back_way e v);
      safe = λ order. (safely one other lattice order same, safely other one lattice order back_way);
    }
