-- Systems that differ by their numbers are accepted alike, and the same is printed of them.
use Rattle.std.proofs.Common.{ℕ, List, subst, sym}
use Rattle.lattice_core.specs.Order.{Order}
use Rattle.flow_graph.specs.System.{System}
use Rattle.flow_graph.specs.Unfolding.{IsAccepted, IsExceeded, CanStay, Printed}
use Rattle.renaming_laws.specs.Renamings.{Renaming, turned, IsRenamed}
use Rattle.renaming_laws.specs.Laws.{RenamedIsAlike}
use Rattle.renaming_laws.proofs.Pulling.{accepted_pulled, stays_pulled, exceeded_goes}
use Rattle.renaming_laws.proofs.Turning.{renamed_turns}

pulled : (ren : Renaming) (sys other : System) (orders : List Order) → IsRenamed ren sys other → IsAccepted other orders
    → IsAccepted sys orders
pulled ren sys other orders is h lattice order there =
    accepted_pulled ren sys other is lattice order (h lattice order there)

module _ (ren : Renaming) (sys other : System) (is : IsRenamed ren sys other) where
  the_other_way : IsRenamed (turned ren) other sys
  the_other_way = renamed_turns ren sys other is

  module _ (lattice : ℕ) (order : Order) where
    exceeded_comes : (n : ℕ) → IsExceeded other lattice order (ren.constraints.to n) → IsExceeded sys lattice order n
    exceeded_comes n h = subst (λ m. IsExceeded sys lattice order m) (ren.constraints.from_to n)
        (exceeded_goes (turned ren) other sys the_other_way lattice order (ren.constraints.to n) h)

    stays_pushed : (v r : ℕ) → CanStay sys lattice order v r → CanStay other lattice order (ren.vars.to v) r
    stays_pushed v r h = stays_pulled (turned ren) other sys the_other_way lattice order (ren.vars.to v) r
        (subst (λ u. CanStay sys lattice order u r) (sym (ren.vars.from_to v)) h)

    printed_goes : (v r : ℕ) → Printed sys lattice order v r → Printed other lattice order (ren.vars.to v) r
    printed_goes v r h = record {
      can = stays_pushed v r h.can;
      least = λ q k. h.least q (stays_pulled ren sys other is lattice order v q k);
    }

    printed_comes : (v r : ℕ) → Printed other lattice order (ren.vars.to v) r → Printed sys lattice order v r
    printed_comes v r h = record {
      can = stays_pulled ren sys other is lattice order v r h.can;
      least = λ q k. h.least q (stays_pushed v q k);
    }

-- systems that differ by their numbers are accepted alike, and the same is printed of them
pub renamed_is_alike : RenamedIsAlike
renamed_is_alike ren sys other is =
    let turn = renamed_turns ren sys other is in
    record {
      accepted = λ orders. (pulled (turned ren) other sys orders turn, pulled ren sys other orders is);
      accepted_in = λ lattice order.
          (accepted_pulled (turned ren) other sys turn lattice order, accepted_pulled ren sys other is lattice order);
      exceeded = λ lattice order n.
          (exceeded_goes ren sys other is lattice order n, exceeded_comes ren sys other is lattice order n);
      printed = λ lattice order v r.
          (printed_goes ren sys other is lattice order v r, printed_comes ren sys other is lattice order v r);
    }
