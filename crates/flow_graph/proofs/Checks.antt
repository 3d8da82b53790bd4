-- What each constraint meets, and what the whole system meets.
use Rattle.std.proofs.Common.{ℕ, ◌<◌, length, refl, ap, ◌∙◌}
use Rattle.std.proofs.lemmas.Option.{slice_get_within}
use Rattle.lattice_core.specs.Order.{Order}
use Rattle.flow_graph.specs.System.{System, IsWellOwned}
use Rattle.flow_graph.specs.declared.constraint.Link.TheVariants.{Le, Const, Bound, Enter, Leave}
use Rattle.flow_graph.specs.Unfolding.{NamesElementsIn}
use Rattle.flow_graph.specs.Conditions.{IsOwnedAt, IsNamedAt}

-- a system is well owned where each constraint below their number is
pub all_owned : (sys : System) → ((n : ℕ) → n < length sys.constraints → IsOwnedAt sys n) → IsWellOwned sys
all_owned sys all = record {
  le = λ n u v f g has. all n (slice_get_within sys.constraints n has.constraint has.there) (Le u v) has f g;
  enter = λ n s u v has. all n (slice_get_within sys.constraints n has.constraint has.there) (Enter s u v) has;
  leave = λ n s u v has. all n (slice_get_within sys.constraints n has.constraint has.there) (Leave s u v) has;
}

-- each constraint of a well owned system joins owners that it may
pub each_owned : (sys : System) → IsWellOwned sys → (n : ℕ) → IsOwnedAt sys n
each_owned sys owned n (Le u v) has = λ f g. owned.le n u v f g has
each_owned sys owned n (Const l e v) has = tt
each_owned sys owned n (Bound v l e) has = tt
each_owned sys owned n (Enter s u v) has = owned.enter n s u v has
each_owned sys owned n (Leave s u v) has = owned.leave n s u v has

-- a system names elements where each constraint below their number does
pub all_named : (sys : System) (lattice : ℕ) (order : Order)
    → ((n : ℕ) → n < length sys.constraints → IsNamedAt sys lattice order n) → NamesElementsIn sys lattice order
all_named sys lattice order all = record {
  const = λ n e v stands. all n (slice_get_within sys.constraints n stands.constraint stands.there) (Const lattice e v)
      (record { constraint = stands.constraint; there = stands.there; link_is = stands.link_is }) refl;
  bound = λ n v b stands. all n (slice_get_within sys.constraints n stands.constraint stands.there) (Bound v lattice b)
      (record { constraint = stands.constraint; there = stands.there; link_is = stands.link_is }) refl;
}

-- each constraint of a system that names elements does
pub each_named : (sys : System) (lattice : ℕ) (order : Order) → NamesElementsIn sys lattice order → (n : ℕ)
    → IsNamedAt sys lattice order n
each_named sys lattice order named n (Le u v) has = tt
each_named sys lattice order named n (Const l e v) has = λ is. named.const n e v
    (record {
      constraint = has.constraint;
      there = has.there;
      link_is = has.link_is ∙ ap (λ k. Const k e v) is;
      carried = refl;
    })
each_named sys lattice order named n (Bound v l e) has = λ is. named.bound n v e
    (record {
      constraint = has.constraint;
      there = has.there;
      link_is = has.link_is ∙ ap (λ k. Bound v k e) is;
      carried = refl;
    })
each_named sys lattice order named n (Enter s u v) has = tt
each_named sys lattice order named n (Leave s u v) has = tt
