-- The exceeded bounds of a program, counted.
use Rattle.std.proofs.Common.{◌≡◌, true, false, ℕ, zero, suc, ◌+◌, ◌<◌, ◌⊎◌, inl, inr, Option, IfSome, IfNone, sym, subst, arith}
use Rattle.std.specs.Option.{is_some}
use Rattle.lattice_core.specs.View.{orders_of}
use Rattle.flow_graph.specs.System.{System}
use Rattle.flow_graph.specs.Unfolding.{IsAccepted}
use Rattle.flow_laws.specs.Refuting.{ExceededIsRefuted}
use Rattle.annotate.specs.declared.scene.Scene.{Scene as Lent}
use Rattle.annotate.specs.Texts.{Scene}
use Rattle.annotate.specs.Scenes.{Shows}
use Rattle.annotate.specs.Solutions.{CountsOver}
use Rattle.annotate.specs.Reports.{IsOver, ErrorCount, NoneBelow, OneHolds, OneExceeds}
use Rattle.annotate.proofs.SolutionLemmas.{found_is, none_found}
use Rattle.annotate.proofs.ReportLemmas.{over_is_refuted}

-- of an accepted program none is counted
pub none_counted : (scene : Scene) (sys : System) (number : ℕ) → ExceededIsRefuted
    → IsAccepted sys (orders_of scene.lattices) →
    ErrorCount scene sys number 0
none_counted scene sys zero law accepted = NoneBelow
none_counted scene sys (suc number) law accepted =
    let At : ℕ → Type 0 = λ n. ErrorCount scene sys n 0 in
    let next : number + 1 ≡ suc number = omega arith in
    let before = none_counted scene sys number law accepted in
    subst At next (OneHolds number 0 before (λ over. over_is_refuted scene sys number law over accepted))

or_last : (n number : ℕ) → n < number + 1 → (n < number) ⊎ (number ≡ n)
or_last n number below = grind arith

-- an exceeded bound below the number is counted
pub over_counted : (scene : Scene) (sys : System) (number count n : ℕ) → ErrorCount scene sys number count
    → n < number →
    IsOver scene sys n → 0 < count
over_counted scene sys _ _ n NoneBelow below over = absurd (omega (arith, below))
over_counted scene sys _ _ n (OneExceeds number count before here) below over = omega arith
over_counted scene sys _ _ n (OneHolds number count before holds) below over =
    let At : ℕ → Type 0 = λ k. IsOver scene sys k in
    elim (or_last n number below) [
      | inl earlier ↦ over_counted scene sys number count n before earlier over
      | inr same ↦ absurd (holds (subst At (sym same) over))
    ]

-- the count with one constraint more, by what was found of it
pub one_more : {A : Type 0} (lent : Lent) (sys : System) (number count at : ℕ) (found : Option A) → at ≡ number →
    CountsOver lent sys number count → IfSome found (λ a. (s : Scene) → Shows lent s → IsOver s sys at)
    → is_some found ≡ true →
    CountsOver lent sys (number + 1) (count + 1)
one_more lent sys number count at found same before over some s shows =
    let Over : ℕ → Type 0 = λ n. IsOver s sys n in
    let here = found_is (λ a. (s : Scene) → Shows lent s → IsOver s sys at) found over some in
    OneExceeds number count (before s shows) (subst Over same (here.1 s shows))

-- a constraint that is no exceeded bound leaves the count as it was for those up to it
pub none_more : {A : Type 0} (lent : Lent) (sys : System) (number count at : ℕ) (found : Option A) → at ≡ number →
    CountsOver lent sys number count → IfNone found ((s : Scene) → Shows lent s → IsOver s sys at → ⊥)
    → is_some found ≡ false →
    CountsOver lent sys (number + 1) count
none_more lent sys number count at found same before holds none s shows =
    let Over : ℕ → Type 0 = λ n. IsOver s sys n in
    OneHolds number count (before s shows) (λ over. none_found _ found holds none s shows (subst Over (sym same) over))
