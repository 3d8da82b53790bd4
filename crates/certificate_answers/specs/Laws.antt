-- Laws of certificates that are written and read.
use Rattle.std.specs.Prelude.{◌≡◌, ℕ, List, slice_get, Some}
use Rattle.lattice_core.specs.Order.{Order, IsOrder}
use Rattle.flow_graph.specs.System.{System, IsWellOwned}
use Rattle.flow_graph.specs.Unfolding.{IsAccepted}
use Rattle.certificate_maker.specs.Certified.{IsCertificate}
use Rattle.certificate_reader.specs.Laws.{IsBounded}
use Rattle.certificate_checks.specs.declared.judging.Verdict.{Verdict}
use Rattle.certificate_checks.specs.declared.judging.Verdict.TheVariants.{Holds}
use Rattle.certificate_checks.specs.Checks.{ComesTo}

-- each is an order
abbrev pub AreOrders : List Order → Type 0
AreOrders orders = (n : ℕ) (order : Order) → slice_get orders n ≡ Some order → IsOrder order

-- What is written of a well owned system that is accepted, holds where it is read.
abbrev pub WrittenReads : Type 0
WrittenReads =
    (sys : System) (orders : List Order) (text : List ℕ) → IsWellOwned sys → AreOrders orders → IsAccepted sys orders →
    IsCertificate sys orders text → ComesTo sys orders text Holds

-- Two texts of certificates of a system are the same.
abbrev pub OneCertificate : Type 0
OneCertificate =
    (sys : System) (orders : List Order) (text other : List ℕ) → IsCertificate sys orders text
    → IsCertificate sys orders other → text ≡ other

-- A text comes to one thing, over no more constraints, lattices and elements than there may be.
abbrev pub OneVerdict : Type 0
OneVerdict = (sys : System) (orders : List Order) (text : List ℕ) (one other : Verdict) → IsBounded sys orders →
    ComesTo sys orders text one → ComesTo sys orders text other → one ≡ other
