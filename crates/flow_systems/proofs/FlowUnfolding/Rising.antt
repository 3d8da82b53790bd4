-- An assignment that rises along each constraint in each copy rises along the unfolding.
use Rattle.std.proofs.Common.{◌≡◌, ℕ, ◌<◌, ◌≤◌, List, ◌∷◌, length, slice_get, Some, true, refl, sym, subst}
use Rattle.std.proofs.lemmas.Option.{slice_get_within, slice_get_read}
use Rattle.lattice_core.specs.Order.{Order, leq}
use Rattle.flow_graph.specs.declared.constraint.Link.{Link}
use Rattle.flow_graph.specs.declared.constraint.Link.TheVariants.{Le, Const, Enter, Leave}
use Rattle.flow_graph.specs.System.{System, IsInLattice, Stands, owner_of}
use Rattle.flow_graph.specs.CallStrings.{either}
use Rattle.flow_graph.specs.PathRules.{link_ends}
use Rattle.flow_graph.specs.Unfolding.{Assignment, at, Rises, Meets}
use Rattle.flow_systems.specs.FlowUnfolding.Strings.{AreBelow, HasAll}
use Rattle.flow_systems.specs.FlowUnfolding.Copies.{stands}
use Rattle.flow_systems.specs.FlowUnfolding.Meeting.{begin_element, end_sites, AreElements, AgreesBelow, KeepsBelow}
use Rattle.flow_systems.proofs.FlowUnfolding.CopyTests.{copy_below, copy_test, entered_test}

module _ (sys : System) (lattice : ℕ) (order : Order) (depth : ℕ) (map : Assignment) (strings : List (List ℕ))
    (all : HasAll strings (length sys.sites) depth) where
  place : (w : List ℕ) → AreBelow (length sys.sites) w → length w ≤ depth
      → (k : ℕ) × (k < length strings) × (slice_get strings k ≡ Some w)
  place w below short =
      let found = all w below short in
      (found.0, found.1, slice_get_read strings (length strings) found.0 w refl found.1 (sym found.2))

  agreed : AgreesBelow sys lattice order depth map strings (length sys.constraints) → (n : ℕ) (link : Link) (w : List ℕ)
      → Stands sys lattice n link →
      AreBelow (length sys.sites) w → length w ≤ depth → stands sys depth link w ≡ true →
      leq order (begin_element sys map link w) (at sys map (link_ends link) (end_sites link w)) ≡ true
  agreed agrees n link w st below short is =
      let found = place w below short in
      let Fits : Link → Type 0 = λ k. IsInLattice lattice k st.constraint.lattices → stands sys depth k w ≡ true →
      leq order (begin_element sys map k w) (at sys map (link_ends k) (end_sites k w)) ≡ true in
      subst Fits st.link_is (agrees n (slice_get_within sys.constraints n st.constraint st.there) found.0 w found.1
      found.2 st.constraint st.there) st.carried is

  pub all_rise : AreElements order map → AgreesBelow sys lattice order depth map strings (length sys.constraints)
      → Rises sys lattice order depth map
  all_rise elements agrees = record {
    elements = elements;
    le = λ n u v w st copy.
        let low = copy_below sys depth (either (owner_of sys u) (owner_of sys v)) w copy in
        agreed agrees n (Le u v) w st low.0 low.1
        (copy_test sys depth (either (owner_of sys u) (owner_of sys v)) w copy);
    const = λ n e v w st copy.
        let low = copy_below sys depth (owner_of sys v) w copy in
        agreed agrees n (Const lattice e v) w st low.0 low.1 (copy_test sys depth (owner_of sys v) w copy);
    enter = λ n s u v site w st there copy fits.
        let low = copy_below sys depth site.owner w copy in
        agreed agrees n (Enter s u v) (s ∷ w) st (slice_get_within sys.sites s site there, low.0) fits
        (entered_test sys depth s site w there copy fits);
    leave = λ n s u v site w st there copy fits.
        let low = copy_below sys depth site.owner w copy in
        agreed agrees n (Leave s u v) (s ∷ w) st (slice_get_within sys.sites s site there, low.0) fits
        (entered_test sys depth s site w there copy fits);
  }

  -- one that also keeps each bound in each copy meets the unfolding
  pub all_kept : Rises sys lattice order depth map
      → KeepsBelow sys lattice order depth map strings (length sys.constraints) → Meets sys lattice order depth map
  all_kept rises keeps = record {
    rises = rises;
    bound = λ n e v w st copy.
        let low = copy_below sys depth (owner_of sys v) w copy in
        let found = place w low.0 low.1 in
        keeps n (slice_get_within sys.constraints n st.constraint st.there) found.0 w found.1 found.2 v e st
        (copy_test sys depth (owner_of sys v) w copy);
  }
