-- An assignment of the library with the client at a greater depth meets the words with the client.
use Rattle.std.proofs.Common.{◌≡◌, ℕ, zero, suc, ◌+◌, ◌<◌, ◌≤◌, arith, true, List, ◌∷◌, ◌++◌, length, Some, slice_get, sym, ◌∙◌, ap, subst, inl, inr}
use Rattle.qual_base.specs.declared.places.Owner.{Owner}
use Rattle.qual_base.specs.declared.places.Owner.TheVariants.{Nobody, Function}
use Rattle.flow_graph.specs.declared.constraint.Site.{Site}
use Rattle.flow_graph.specs.declared.constraint.Link.TheVariants.{Le, Const, Bound, Enter, Leave}
use Rattle.lattice_core.specs.Order.{Order, size, leq}
use Rattle.flow_graph.specs.CallStrings.{IsCopy, either}
use Rattle.flow_graph.specs.System.{System, owner_of, Stands, IsWellOwned}
use Rattle.flow_graph.specs.Unfolding.{Assignment, at, seen_from, Rises, Meets, NamesElementsIn}
use Rattle.flow_graph.specs.Paths.{Matches, longer, Returning}
use Rattle.split_laws.specs.Splits.{Split, alone, whole, served, Down, here, along, into, round, ReachesBound, SplitTests, SplitPremises, WholeIsServed}
use Rattle.flow_laws.proofs.Links.{has_of}
use Rattle.flow_laws.proofs.Leads.{lead_element}
use Rattle.flow_laws.proofs.Owners.{entering, same_function, same_outer, copy_on}
use Rattle.flow_laws.proofs.Depths.{depth_inside, depth_returning}
use Rattle.flow_laws.proofs.Force.{enters, Raises, group_raises, raises, ForcesAll, forces}
use Rattle.certificate_laws.proofs.Ways.{by_bool}
use Rattle.flow_laws.proofs.Search.{last_or}
use Rattle.split_laws.proofs.Appending.{front, back, parted}
use Rattle.split_laws.proofs.Library.{owned, copy_of}

-- one room for all of a finite number
all_room : (P : ℕ → ℕ → Type 0) → ((n r q : ℕ) → r ≤ q → P n r → P n q) → ((n : ℕ) → (r : ℕ) × P n r) → (k : ℕ)
    → (r : ℕ) × ((n : ℕ) → n < k → P n r)
all_room P more one zero = (0, λ n low. absurd (omega (arith, low)))
all_room P more one (suc k) =
    let before = all_room P more one k in
    let last = one k in (
      before.0 + last.0,
      λ n low. elim (last_or n k low) [
        | inl same ↦
            subst (λ m. P m (before.0 + last.0)) (sym same) (more k last.0 (before.0 + last.0) (omega arith) last.1)
        | inr less ↦ more n before.0 (before.0 + last.0) (omega arith) (before.1 n less)
      ],
    )

module _ (s : Split) (lattice : ℕ) (order : Order) (join meet : ℕ → ℕ) (t : SplitTests)
    (given : SplitPremises s lattice order join meet t) where
  abbrev lib : System
  lib = alone s

  lib_owned : IsWellOwned lib
  lib_owned = owned s given.split

  lib_names : NamesElementsIn lib lattice order
  lib_names = record {
    const = λ n e v st. given.names.const n e v (front s s.library s.client lattice n (Const lattice e v) st);
    bound = λ n v b st. given.names.bound n v b (front s s.library s.client lattice n (Bound v lattice b) st);
  }

  -- flows, groups and calls raise some copy of their end
  abbrev Lowers : ℕ → ℕ → ℕ → Type 0
  Lowers u x room =
      (depth : ℕ) (map : Assignment) (sites : List ℕ) → Rises lib lattice order depth map
      → IsCopy lib depth (owner_of lib u) sites → length sites + room ≤ depth →
      (w : List ℕ) × IsCopy lib depth (owner_of lib x) w × (leq order (at lib map u sites) (at lib map x w) ≡ true)
      × (length w ≤ length sites + room)

  lowers : (u x : ℕ) → Down lib lattice u x → (room : ℕ) × Lowers u x room
  lowers u x (here _) = (
    0,
    λ depth map sites rises copy fits. (
      sites,
      copy,
      given.lat.ordered.same (at lib map u sites) (rises.elements u (seen_from (owner_of lib u) sites)),
      omega arith,
    ),
  )
  lowers u v (along _ x _ n d st) =
      let before = lowers u x d in
      let mine = given.split.library n (Le x v) (has_of lib lattice n (Le x v) st) in
      let f : ℕ = mine.0.0 in
      let g : ℕ = mine.1.0 in
      let same : f ≡ g = same_function lib lattice lib_owned n x v st f g mine.0.1 mine.1.1 in (
        before.0,
        λ depth map sites rises copy fits.
            let on = before.1 depth map sites rises copy fits in
            let own : IsCopy lib depth (Function f) on.0 = subst (λ o. IsCopy lib depth o on.0) mine.0.1 on.1 in (
              on.0,
              subst (λ o. IsCopy lib depth o on.0) (ap (λ f. Function f) same ∙ sym mine.1.1) own,
              given.lat.ordered.through (at lib map u sites) (at lib map x on.0) (at lib map v on.0) on.2
                  (rises.le n x v on.0 st
                  (subst (λ o. IsCopy lib depth (either o (owner_of lib v)) on.0) (sym mine.0.1) own)),
              on.3,
            ),
      )
  lowers u v (into _ x _ site n d st) =
      let before = lowers u x d in (
        before.0 + 1,
        λ depth map sites rises copy fits.
            let on = before.1 depth map sites rises copy (omega (arith, fits)) in
            let room : length (site ∷ on.0) ≤ depth = omega (arith, fits, on.3) in (
              site ∷ on.0,
              copy_on lib depth (owner_of lib x) (owner_of lib v) site on.0 on.1
                  (entering lib lattice lib_owned n site x v st) (omega (arith, room)),
              given.lat.ordered.through (at lib map u sites) (at lib map x on.0) (at lib map v (site ∷ on.0)) on.2
                  (enters lib lattice order lib_owned given.lat.ordered depth map n site x v on.0 rises st on.1 room),
              omega (arith, on.3),
            ),
      )
  lowers u v (round _ x a b _ site g n m d st q st2) =
      let before = lowers u x d in
      let inner : ℕ = depth_inside lib lattice g a b q in (
        before.0 + (inner + 1),
        λ depth map sites rises copy fits.
            let on = before.1 depth map sites rises copy (omega (arith, fits)) in (
              on.0,
              subst (λ o. IsCopy lib depth o on.0) (same_outer lib lattice lib_owned n m site x a b v st st2) on.1,
              given.lat.ordered.through (at lib map u sites) (at lib map x on.0) (at lib map v on.0) on.2
                  (group_raises lib lattice order lib_owned given.lat.ordered n m site x a b v inner st
                  (raises lib lattice order lib_owned given.lat.ordered g a b q) st2 depth map on.0 rises on.1
                  (omega (arith, fits, on.3))),
              omega (arith, on.3),
            ),
      )

  -- the join of what comes to a node is below it in each copy that leaves room
  abbrev JoinFits : ℕ → ℕ → Type 0
  JoinFits v room =
      (depth : ℕ) (map : Assignment) (sites : List ℕ) → Rises lib lattice order depth map
      → IsCopy lib depth (owner_of lib v) sites → length sites + room ≤ depth →
      leq order (join v) (at lib map v sites) ≡ true

  abbrev ElementFits : ℕ → ℕ → ℕ → Type 0
  ElementFits v e room = Returning lib lattice e v → ForcesAll lib lattice order lib_owned given.lat.ordered e v room

  element_room : (v e : ℕ) → (room : ℕ) × ElementFits v e room
  element_room v e = elim (by_bool (t.returned e v)) [
    | inl is ↦
        let p = (given.exact.returned e v).0 is in
        (depth_returning lib lattice e v p, λ other. forces lib lattice order lib_owned given.lat.ordered e v p)
    | inr not ↦ (0, λ p. absurd (not ((given.exact.returned e v).1 p)))
  ]

  join_room : (v : ℕ) → s.node v ≡ true → (room : ℕ) × JoinFits v room
  join_room v node =
      let all = all_room (ElementFits v) (λ e r q more h p depth map sites rises copy fits.
      h p depth map sites rises copy (omega (arith, more, fits))) (element_room v) (size order) in (
        all.0,
        λ depth map sites rises copy fits.
            (given.words.joins v node).least (at lib map v sites) (rises.elements v (seen_from (owner_of lib v) sites))
            (λ e p. all.1 e (lead_element lib lattice order lib_names e v (inl p)) p depth map sites rises copy fits),
      )

  -- and a node is below the meet of the bounds that it reaches
  abbrev MeetFits : ℕ → ℕ → Type 0
  MeetFits v room =
      (depth : ℕ) (map : Assignment) (sites : List ℕ) → Meets lib lattice order depth map
      → IsCopy lib depth (owner_of lib v) sites → length sites + room ≤ depth →
      leq order (at lib map v sites) (meet v) ≡ true

  abbrev BoundFits : ℕ → ℕ → ℕ → Type 0
  BoundFits v b room =
      ((n : ℕ) × ReachesBound lib lattice v n b) → (depth : ℕ) (map : Assignment) (sites : List ℕ)
      → Meets lib lattice order depth map → IsCopy lib depth (owner_of lib v) sites →
      length sites + room ≤ depth → leq order (at lib map v sites) b ≡ true

  bound_room : (v : ℕ) → s.node v ≡ true → (b : ℕ) → (room : ℕ) × BoundFits v b room
  bound_room v node b = elim (by_bool (t.bounded v b)) [
    | inr not ↦ (0, λ reaches. absurd (not ((given.exact.bounded v b node).1 reaches)))
    | inl is ↦
        let found = (given.exact.bounded v b node).0 is in
        let low = lowers v found.1.0 found.1.1 in (
          low.0,
          λ reaches depth map sites met copy fits.
              let on = low.1 depth map sites met.rises copy fits in
              given.lat.ordered.through (at lib map v sites) (at lib map found.1.0 on.0) b on.2
              (met.bound found.0 b found.1.0 on.0 found.1.2 on.1),
        )
  ]

  meet_room : (v : ℕ) → s.node v ≡ true → (room : ℕ) × MeetFits v room
  meet_room v node =
      let all = all_room (BoundFits v) (λ b r q more h reaches depth map sites met copy fits.
      h reaches depth map sites met copy (omega (arith, more, fits))) (bound_room v node) (size order) in (
        all.0,
        λ depth map sites met copy fits.
            (given.words.meets v node).greatest (at lib map v sites)
            (met.rises.elements v (seen_from (owner_of lib v) sites))
            (λ b reach. all.1 b (lib_names.bound reach.0 reach.1.0 b reach.1.2) reach depth map sites met copy fits),
      )

  -- and below each node to which a matched path leads
  abbrev PathFits : ℕ → ℕ → ℕ → Type 0
  PathFits v u room =
      (g : ℕ) → Matches lib lattice g v u → Raises lib lattice order lib_owned given.lat.ordered v u room

  path_room : (v : ℕ) → s.node v ≡ true → (u : ℕ) → (room : ℕ) × PathFits v u room
  path_room v node u = elim (by_bool (t.joined v u)) [
    | inl is ↦
        let path = (given.exact.joined v u (inr node)).0 is in (
          depth_inside lib lattice path.0 v u path.1,
          λ g m. raises lib lattice order lib_owned given.lat.ordered path.0 v u path.1,
        )
    | inr not ↦ (0, λ g m. absurd (not ((given.exact.joined v u (inr node)).1 (g, m))))
  ]

  record Fits (v room : ℕ) : Type 0 where
    join_fits : JoinFits v room
    meet_fits : MeetFits v room
    path_fits : (u : ℕ) → u < s.vars → PathFits v u room

  abbrev NodeFits : ℕ → ℕ → Type 0
  NodeFits v room = s.node v ≡ true → Fits v room

  node_room : (v : ℕ) → (room : ℕ) × NodeFits v room
  node_room v = elim (by_bool (s.node v)) [
    | inr not ↦ (0, λ node. absurd (not node))
    | inl is ↦
        let one = join_room v is in
        let two = meet_room v is in
        let three = all_room (PathFits v) (λ u r q more h g m depth map sites rises copy fits.
        h g m depth map sites rises copy (omega (arith, more, fits))) (path_room v is) s.vars in (
          one.0 + (two.0 + three.0),
          λ node. record {
            join_fits = λ depth map sites rises copy fits. one.1 depth map sites rises copy (omega (arith, fits));
            meet_fits = λ depth map sites met copy fits. two.1 depth map sites met copy (omega (arith, fits));
            path_fits = λ u low g m depth map sites rises copy fits.
                three.1 u low g m depth map sites rises copy (omega (arith, fits));
          },
        )
  ]

  more_fits : (v r q : ℕ) → r ≤ q → NodeFits v r → NodeFits v q
  more_fits v r q more h node =
      let old = h node in
      record {
        join_fits =
            λ depth map sites rises copy fits. old.join_fits depth map sites rises copy (omega (arith, more, fits));
        meet_fits = λ depth map sites met copy fits. old.meet_fits depth map sites met copy (omega (arith, more, fits));
        path_fits = λ u low g m depth map sites rises copy fits.
            old.path_fits u low g m depth map sites rises copy (omega (arith, more, fits));
      }

  room : (r : ℕ) × ((v : ℕ) → v < s.vars → NodeFits v r)
  room = all_room NodeFits more_fits node_room s.vars

  module _ (depth extra : ℕ) (enough : (v : ℕ) → v < s.vars → NodeFits v extra) (map : Assignment)
      (met : Meets (whole s) lattice order (depth + extra) map) where
    deeper : (sys : System) (o : Owner) (sites : List ℕ) → IsCopy sys depth o sites → IsCopy sys (depth + extra) o sites
    deeper sys Nobody sites h = h
    deeper sys (Function f) sites h = (h.0, omega (arith, h.1))

    short : (sys : System) (o : Owner) (sites : List ℕ) → IsCopy sys depth o sites → length sites ≤ depth
    short sys Nobody sites h = rw h (omega arith)
    short sys (Function f) sites h = h.1

    to_whole : (o : Owner) (sites : List ℕ) → IsCopy (served s) depth o sites → IsCopy (whole s) (depth + extra) o sites
    to_whole o sites h =
        copy_of s (s.words ++ s.client) (s.library ++ s.client) (depth + extra) o sites (deeper (served s) o sites h)

    to_lib : (o : Owner) (sites : List ℕ) → IsCopy (served s) depth o sites → IsCopy lib (depth + extra) o sites
    to_lib o sites h = copy_of s (s.words ++ s.client) s.library (depth + extra) o sites (deeper (served s) o sites h)

    of_lib : (o : Owner) (sites : List ℕ) → IsCopy lib (depth + extra) o sites
        → IsCopy (whole s) (depth + extra) o sites
    of_lib o sites h = copy_of s s.library (s.library ++ s.client) (depth + extra) o sites h

    lib_met : Meets lib lattice order (depth + extra) map
    lib_met = record {
      rises = record {
        elements = met.rises.elements;
        le = λ n u v sites st copy.
            met.rises.le n u v sites (front s s.library s.client lattice n (Le u v) st) (of_lib _ sites copy);
        const = λ n e v sites st copy. met.rises.const n e v sites
            (front s s.library s.client lattice n (Const lattice e v) st) (of_lib _ sites copy);
        enter = λ n t u v site sites st there copy fits. met.rises.enter n t u v site sites
            (front s s.library s.client lattice n (Enter t u v) st) there (of_lib _ sites copy) fits;
        leave = λ n t u v site sites st there copy fits. met.rises.leave n t u v site sites
            (front s s.library s.client lattice n (Leave t u v) st) there (of_lib _ sites copy) fits;
      };
      bound = λ n b v sites st copy.
          met.bound n b v sites (front s s.library s.client lattice n (Bound v lattice b) st) (of_lib _ sites copy);
    }

    le_on : (n u v : ℕ) (sites : List ℕ) → Stands (served s) lattice n (Le u v)
        → IsCopy (served s) depth (either (owner_of lib u) (owner_of lib v)) sites →
        leq order (at lib map u sites) (at lib map v sites) ≡ true
    le_on n u v sites st copy = elim (parted s s.words s.client lattice n (Le u v) st) [
      | inl word ↦
          let said = given.words.le n u v word in
          let mine = given.split.node u said.0 in
          let own : IsCopy (served s) depth (Function mine.0) sites =
          subst (λ o. IsCopy (served s) depth (either o (owner_of lib v)) sites) mine.1 copy in
          let here : IsCopy lib (depth + extra) (owner_of lib u) sites =
          subst (λ o. IsCopy lib (depth + extra) o sites) (sym mine.1) (to_lib (Function mine.0) sites own) in
          let path = said.2 in
          (enough u (given.split.below u said.0) said.0).path_fits v (given.split.below v said.1) path.0
          (longer path.0 u path.1 v path.2 path.3) (depth + extra) map sites lib_met.rises here
          (omega (arith, short (served s) (Function mine.0) sites own))
      | inr found ↦
          let there = back s s.library s.client lattice found.0 (Le u v) found.1 in
          met.rises.le there.0 u v sites there.1 (to_whole _ sites copy)
    ]

    const_on : (n e v : ℕ) (sites : List ℕ) → Stands (served s) lattice n (Const lattice e v)
        → IsCopy (served s) depth (owner_of lib v) sites → leq order e (at lib map v sites) ≡ true
    const_on n e v sites st copy = elim (parted s s.words s.client lattice n (Const lattice e v) st) [
      | inl word ↦
          let said = given.words.const n e v word in
          subst (λ d. leq order d (at lib map v sites) ≡ true) (sym said.1)
          ((enough v (given.split.below v said.0) said.0).join_fits (depth + extra) map sites lib_met.rises
          (to_lib _ sites copy) (omega (arith, short (served s) _ sites copy)))
      | inr found ↦
          let there = back s s.library s.client lattice found.0 (Const lattice e v) found.1 in
          met.rises.const there.0 e v sites there.1 (to_whole _ sites copy)
    ]

    bound_on : (n b v : ℕ) (sites : List ℕ) → Stands (served s) lattice n (Bound v lattice b)
        → IsCopy (served s) depth (owner_of lib v) sites → leq order (at lib map v sites) b ≡ true
    bound_on n b v sites st copy = elim (parted s s.words s.client lattice n (Bound v lattice b) st) [
      | inl word ↦
          let said = given.words.bound n v b word in
          subst (λ d. leq order (at lib map v sites) d ≡ true) (sym said.1)
          ((enough v (given.split.below v said.0) said.0).meet_fits (depth + extra) map sites lib_met
          (to_lib _ sites copy) (omega (arith, short (served s) _ sites copy)))
      | inr found ↦
          let there = back s s.library s.client lattice found.0 (Bound v lattice b) found.1 in
          met.bound there.0 b v sites there.1 (to_whole _ sites copy)
    ]

    enter_on : (n t u v : ℕ) (site : Site) (sites : List ℕ) → Stands (served s) lattice n (Enter t u v)
        → slice_get s.sites t ≡ Some site → IsCopy (served s) depth site.owner sites →
        length (t ∷ sites) ≤ depth → leq order (at lib map u sites) (at lib map v (t ∷ sites)) ≡ true
    enter_on n t u v site sites st there copy fits = elim (parted s s.words s.client lattice n (Enter t u v) st) [
      | inl word ↦ absurd (given.words.no_enter n t u v word)
      | inr found ↦
          let k = back s s.library s.client lattice found.0 (Enter t u v) found.1 in
          met.rises.enter k.0 t u v site sites k.1 there (to_whole _ sites copy) (omega (arith, fits))
    ]

    leave_on : (n t u v : ℕ) (site : Site) (sites : List ℕ) → Stands (served s) lattice n (Leave t u v)
        → slice_get s.sites t ≡ Some site → IsCopy (served s) depth site.owner sites →
        length (t ∷ sites) ≤ depth → leq order (at lib map u (t ∷ sites)) (at lib map v sites) ≡ true
    leave_on n t u v site sites st there copy fits = elim (parted s s.words s.client lattice n (Leave t u v) st) [
      | inl word ↦ absurd (given.words.no_leave n t u v word)
      | inr found ↦
          let k = back s s.library s.client lattice found.0 (Leave t u v) found.1 in
          met.rises.leave k.0 t u v site sites k.1 there (to_whole _ sites copy) (omega (arith, fits))
    ]

    served_meets : Meets (served s) lattice order depth map
    served_meets = record {
      rises =
          record { elements = met.rises.elements; le = le_on; const = const_on; enter = enter_on; leave = leave_on };
      bound = bound_on;
    }

-- where the library with the client is accepted, the words with the client are
pub whole_is_served : WholeIsServed
whole_is_served s lattice order join meet t given accepted depth =
    let extra = room s lattice order join meet t given in
    let deep = accepted (depth + extra.0) in
    (deep.0, served_meets s lattice order join meet t given depth extra.0 extra.1 deep.0 deep.1)
