-- What was followed of a constraint, from what was followed of its link.
use Rattle.std.proofs.Common.{◌≡◌, ℕ, Bool, List, Option, Some, slice_get, sym, ◌∙◌, ap, subst}
use Rattle.flow_graph.specs.declared.constraint.Link.{Link}
use Rattle.flow_graph.specs.declared.constraint.Link.TheVariants.{Le, Enter, Leave}
use Rattle.flow_graph.specs.declared.constraint.Constraint.{Constraint}
use Rattle.flow_graph.specs.System.{System, IsInLattice, Stands}
use Rattle.flow_graph.specs.PathRules.{link_begins}
use Rattle.flow_graph.specs.Index.{IsKeyed}
use Rattle.match_summary.specs.declared.reason.Summary.{Summary}
use Rattle.match_summary.specs.Summary.{Leads, AreOfOne}
use Rattle.match_summary.specs.Closing.{AllFollow, Follows, IsEntered, IsFollowed, IsLeft}

module _ (sys : System) (lattice n : ℕ) (constraint : Constraint)
    (there : slice_get sys.constraints n ≡ Some constraint) where
  pub stands_in : (link : Link) → constraint.link ≡ link → IsInLattice lattice constraint.link constraint.lattices
      → Stands sys lattice n link
  stands_in link is carried = record {
    constraint = constraint;
    there = there;
    link_is = is;
    carried = subst (λ l. IsInLattice lattice l constraint.lattices) is carried;
  }

  -- a constraint is one link
  pub one_link : (link other : Link) → constraint.link ≡ link → Stands sys lattice n other → link ≡ other
  one_link link other is st =
      let same : constraint ≡ st.constraint = cc in
      sym is ∙ ap (λ (c : Constraint). c.link) same ∙ st.link_is

  -- a constraint that is in the lattice as a link is in it
  pub carried_in : (other : Link) → Stands sys lattice n other → IsInLattice lattice constraint.link constraint.lattices
  carried_in other st =
      let same : constraint ≡ st.constraint = cc in
      subst (λ (c : Constraint). IsInLattice lattice c.link c.lattices) (sym same)
      (subst (λ l. IsInLattice lattice l st.constraint.lattices) (sym st.link_is) st.carried)

  -- the key by which a constraint is listed is its link's
  pub key_of_link : (key_of : Link → Option ℕ) (key : ℕ) (link : Link) → constraint.link ≡ link
      → IsKeyed sys key_of key n → key_of link ≡ Some key
  key_of_link key_of key link is has =
      let same : constraint ≡ has.constraint = cc in
      ap key_of (sym is ∙ ap (λ (c : Constraint). c.link) same) ∙ has.keyed

-- a link in the lattice is listed by its keys
pub begins_at : (sys : System) (lattice n v : ℕ) (link : Link) → Stands sys lattice n link → link_begins link ≡ Some v
    → IsKeyed sys link_begins v n
begins_at sys lattice n v link st is =
    record { constraint = st.constraint; there = st.there; keyed = ap link_begins st.link_is ∙ is }

module _ (sys : System) (lattice : ℕ) (marks : List Bool) (old new : List Summary) (u v n : ℕ) (constraint : Constraint)
    (there : slice_get sys.constraints n ≡ Some constraint) where
  -- a constraint that is not in the lattice adds nothing
  pub followed_out : (IsInLattice lattice constraint.link constraint.lattices → ⊥)
      → IsFollowed sys lattice marks old new u v n
  followed_out out = record {
    flow = λ w st. absurd (out (carried_in sys lattice n constraint there (Le v w) st));
    enter = λ s a m st. absurd (out (carried_in sys lattice n constraint there (Enter s v a) st));
    leave = λ s w m st. absurd (out (carried_in sys lattice n constraint there (Leave s v w) st));
  }

  pub le_followed : (x w : ℕ) → constraint.link ≡ Le x w → Follows sys new u w
      → IsFollowed sys lattice marks old new u v n
  le_followed x w is done = record {
    flow = λ w2 st.
        let e = one_link sys lattice n constraint there (Le x w) (Le v w2) is st in
        let onto : w ≡ w2 = cc in
        subst (λ y. Follows sys new u y) onto done;
    enter = λ s a m st. let e = one_link sys lattice n constraint there (Le x w) (Enter s v a) is st in absurd cc;
    leave = λ s w2 m st. let e = one_link sys lattice n constraint there (Le x w) (Leave s v w2) is st in absurd cc;
  }

  pub enter_followed : (s x a : ℕ) → constraint.link ≡ Enter s x a → ((m : ℕ) → IsLeft sys lattice old new u s a m)
      → IsFollowed sys lattice marks old new u v n
  enter_followed s x a is done = record {
    flow = λ w st. let e = one_link sys lattice n constraint there (Enter s x a) (Le v w) is st in absurd cc;
    enter = λ t b m st.
        let e = one_link sys lattice n constraint there (Enter s x a) (Enter t v b) is st in
        let site : s ≡ t = cc in
        let inner : a ≡ b = cc in
        subst (λ z. IsLeft sys lattice old new u z b m) site
        (subst (λ z. IsLeft sys lattice old new u s z m) inner (done m));
    leave = λ t w m st. let e = one_link sys lattice n constraint there (Enter s x a) (Leave t v w) is st in absurd cc;
  }

  pub leave_followed : (s x w : ℕ) → constraint.link ≡ Leave s x w → x ≡ v
      → (AreOfOne sys u x → (m : ℕ) → IsEntered sys lattice marks old new u s w m)
      → IsFollowed sys lattice marks old new u v n
  leave_followed s x w is at done = record {
    flow = λ w2 st. let e = one_link sys lattice n constraint there (Leave s x w) (Le v w2) is st in absurd cc;
    enter = λ t b m st. let e = one_link sys lattice n constraint there (Leave s x w) (Enter t v b) is st in absurd cc;
    leave = λ t w2 m st one.
        let e = one_link sys lattice n constraint there (Leave s x w) (Leave t v w2) is st in
        let site : s ≡ t = cc in
        let onto : w ≡ w2 = cc in
        subst (λ z. IsEntered sys lattice marks old new u z w2 m) site (subst
        (λ z. IsEntered sys lattice marks old new u s z m) onto (done (subst (λ z. AreOfOne sys u z) (sym at) one) m));
  }

  -- a constant or a bound adds nothing
  pub other_followed : ((x w : ℕ) → constraint.link ≡ Le x w → ⊥) → ((s x a : ℕ) → constraint.link ≡ Enter s x a → ⊥)
      → ((s x w : ℕ) → constraint.link ≡ Leave s x w → ⊥) →
      IsFollowed sys lattice marks old new u v n
  other_followed no_le no_enter no_leave = record {
    flow = λ w st.
        let same : constraint ≡ st.constraint = cc in
        absurd (no_le v w (ap (λ (c : Constraint). c.link) same ∙ st.link_is));
    enter = λ s a m st.
        let same : constraint ≡ st.constraint = cc in
        absurd (no_enter s v a (ap (λ (c : Constraint). c.link) same ∙ st.link_is));
    leave = λ s w m st.
        let same : constraint ≡ st.constraint = cc in
        absurd (no_leave s v w (ap (λ (c : Constraint). c.link) same ∙ st.link_is));
  }

module _ (sys : System) (lattice : ℕ) (old new : List Summary) (u s n : ℕ) (constraint : Constraint)
    (there : slice_get sys.constraints n ≡ Some constraint) where
  pub left_out : (a : ℕ) → (IsInLattice lattice constraint.link constraint.lattices → ⊥)
      → IsLeft sys lattice old new u s a n
  left_out a out = λ b w st. absurd (out (carried_in sys lattice n constraint there (Leave s b w) st))

  pub left_by : (t b w a : ℕ) → constraint.link ≡ Leave t b w → (Leads old a b → AreOfOne sys a b → Follows sys new u w)
      → IsLeft sys lattice old new u s a n
  left_by t b w a is done = λ b2 w2 st leads one.
      let e = one_link sys lattice n constraint there (Leave t b w) (Leave s b2 w2) is st in
      let from : b ≡ b2 = cc in
      let onto : w ≡ w2 = cc in
      subst (λ y. Follows sys new u y) onto
      (done (subst (λ y. Leads old a y) (sym from) leads) (subst (λ y. AreOfOne sys a y) (sym from) one))

  pub entered_out : (marks : List Bool) (w : ℕ) → (IsInLattice lattice constraint.link constraint.lattices → ⊥)
      → IsEntered sys lattice marks old new u s w n
  entered_out marks w out = λ x st. absurd (out (carried_in sys lattice n constraint there (Enter s x u) st))

  pub entered_by : (marks : List Bool) (t x a w : ℕ) → constraint.link ≡ Enter t x a
      → (a ≡ u → AllFollow sys marks old new x w) → IsEntered sys lattice marks old new u s w n
  entered_by marks t x a w is done = λ x2 st.
      let e = one_link sys lattice n constraint there (Enter t x a) (Enter s x2 u) is st in
      let from : x ≡ x2 = cc in
      let onto : a ≡ u = cc in
      subst (λ y. AllFollow sys marks old new y w) from (done onto)
