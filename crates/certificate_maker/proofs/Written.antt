-- What the lists of a certificate say of the system that they were made of.
use Rattle.std.proofs.Common.{◌≡◌, ℕ, ◌<◌, ◌≤◌, ◌↔◌, inl, inr, true, false, List, sym, ◌∙◌, ap, subst, arith}
use Rattle.std.specs.Int.{bit_at}
use Rattle.std.proofs.lemmas.Bool.{cases_lt}
use Rattle.qual_base.proofs.Lists.{place_of}
use Rattle.lattice_core.specs.Order.{Order}
use Rattle.flow_graph.specs.declared.constraint.Link.{Link}
use Rattle.flow_graph.specs.declared.constraint.Link.TheVariants.{Le, Const, Enter, Leave}
use Rattle.flow_graph.specs.System.{System, AllBelow, Has, Stands, vars_of_link}
use Rattle.flow_graph.specs.Paths.{Returning, Calling, Lead, Part, start, flows, returns, grouped, anew, calls, calls_on, flows_on, grouped_on, flow, group}
use Rattle.flow_graph.specs.Unfolding.{NamesElementsIn}
use Rattle.flow_laws.proofs.Leads.{lead_element}
use Rattle.certificate_laws.specs.Certificates.{IsInnerEnd, IsJoined}
use Rattle.closure_check.specs.Parts.{AreBelow, AreSets, has, is_among, is_in}
use Rattle.closure_check.proofs.BitSets.{bit_of, none_past, of_bit}
use Rattle.closure_check.proofs.Sorted.{among_item, among_place}
use Rattle.certificate_maker.specs.Making.{AreJoined, AreSetsBy}
use Rattle.certificate_maker.proofs.Adding.{contains_at}

has_of : (sys : System) (lattice n : ℕ) (link : Link) → Stands sys lattice n link → Has sys n link
has_of sys lattice n link st = record { constraint = st.constraint; there = st.there; link_is = st.link_is }

-- what variables constraints name, where paths end, and what is joined, is below the number of variables
module _ (sys : System) (lattice vars : ℕ) (below : AllBelow sys vars) where
  link_below : (n : ℕ) (link : Link) → Stands sys lattice n link → vars_of_link link ≤ vars
  link_below n link st = below n link (has_of sys lattice n link st)

  mutual
    returning_below : (e v : ℕ) → Returning sys lattice e v → v < vars
    returning_below e v (start _ n st) = let low = link_below n (Const lattice e v) st in omega (arith, low)
    returning_below e v (flows u _ n p st) = let low = link_below n (Le u v) st in omega (arith, low)
    returning_below e v (returns u _ s n p st) = let low = link_below n (Leave s u v) st in omega (arith, low)
    returning_below e v (grouped u a b _ s g n m p st q st2) =
        let low = link_below m (Leave s b v) st2 in
        omega (arith, low)
    returning_below e v (anew _ p is) = calling_below e v p

    calling_below : (e v : ℕ) → Calling sys lattice e v → v < vars
    calling_below e v (calls u _ s n p st) = let low = link_below n (Enter s u v) st in omega (arith, low)
    calling_below e v (calls_on u _ s n p st) = let low = link_below n (Enter s u v) st in omega (arith, low)
    calling_below e v (flows_on u _ n p st) = let low = link_below n (Le u v) st in omega (arith, low)
    calling_below e v (grouped_on u a b _ s g n m p st q st2) =
        let low = link_below m (Leave s b v) st2 in
        omega (arith, low)

  lead_below : (e v : ℕ) → Lead sys lattice e v → v < vars
  lead_below e v (inl first) = returning_below e v first
  lead_below e v (inr second) = calling_below e v second

  part_below : (f x v : ℕ) → Part sys lattice f x v → v < vars
  part_below f x v (flow _ _ _ n st is) = let low = link_below n (Le x v) st in omega (arith, low)
  part_below f x v (group _ _ a b _ s g n m st q st2 is) =
      let low = link_below m (Leave s b v) st2 in
      omega (arith, low)

  end_below : (x : ℕ) → IsInnerEnd sys lattice x → x < vars
  end_below x end = let low = link_below end.0 (Enter end.1 end.2 x) end.3 in omega (arith, low)

  joined_below : (x v : ℕ) → IsJoined sys lattice x v → (x < vars) × (v < vars)
  joined_below x v joined = (
    end_below x joined.0,
    elim joined.1 [
      | inl same ↦ subst (λ (w : ℕ). w < vars) same (end_below x joined.0)
      | inr path ↦ part_below path.0 path.1 v path.3
    ],
  )

  pub pairs_below : (pairs : List (ℕ × ℕ)) → AreJoined sys lattice pairs → AreBelow vars pairs
  pairs_below pairs joined k p there = joined_below p.0 p.1 ((joined p.0 p.1).0 (contains_at pairs k p there))

  -- sets that have exactly what is led to variables, as the lists of a certificate
  module _ (Leads : ℕ → ℕ → Type 0) (given : ℕ → ℕ) (sets : List ℕ) (made : AreSetsBy given vars sets)
      (leads : (e v : ℕ) → Leads e v → Lead sys lattice e v)
      (exact : (v e : ℕ) → (bit_at (given v) e ≡ 1) ↔ Leads e v) where
    in_leads : (v e : ℕ) → is_in sets v e ≡ true → Leads e v
    in_leads v e is = elim (cases_lt v vars) [
      | inl low ↦ (exact v e).0 (bit_of (given v) e (ap (λ (set : ℕ). has set e) (sym (made.each v low)) ∙ is))
      | inr high ↦
          let wrong : true ≡ false = sym is ∙ none_past sets v e (omega (arith, high, made.size_is)) in
          absurd cc
    ]

    leads_in : (v e : ℕ) → Leads e v → is_in sets v e ≡ true
    leads_in v e path =
        ap (λ (set : ℕ). has set e) (made.each v (lead_below e v (leads e v path)))
        ∙ of_bit (given v) e ((exact v e).1 path)

    pub sets_say : (v e : ℕ) → (is_in sets v e ≡ true) ↔ Leads e v
    sets_say v e = (in_leads v e, leads_in v e)

    pub sets_of : (order : Order) → NamesElementsIn sys lattice order → AreSets order vars sets
    sets_of order named = record {
      size_is = made.size_is;
      elements = λ v e is. lead_element sys lattice order named e v (leads e v (in_leads v e is));
    }

-- the pairs as a certificate reads them
pub pairs_say : (sys : System) (lattice : ℕ) (pairs : List (ℕ × ℕ)) → AreJoined sys lattice pairs → (x v : ℕ)
    → (is_among pairs x v ≡ true) ↔ IsJoined sys lattice x v
pairs_say sys lattice pairs joined x v = (
  λ among. (joined x v).0 (among_item pairs x v among),
  λ path. let place = place_of pairs (x, v) ((joined x v).1 path) in among_place pairs place.0 x v place.1,
)
