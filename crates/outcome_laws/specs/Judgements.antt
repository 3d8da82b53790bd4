-- What a program is judged to be is one, and so is what a report comes to.
use Rattle.std.specs.Prelude.{◌≡◌, ℕ, Bool, true, List, Option}
use Rattle.lattice_core.specs.Order.{Order}
use Rattle.lattice_core.specs.View.{AreLattices}
use Rattle.flow_graph.specs.System.{System}
use Rattle.path_checker.specs.declared.report_checks.judging.Checked.{Checked}
use Rattle.path_checker.specs.ReportChecks.Checks.{ComesTo}
use Rattle.annotate.specs.Texts.{Scene}
use Rattle.annotate.specs.Reports.{IsJudgedWith, ErrorCount}

-- It is accepted or rejected and not both, and the text of what is accepted is one.
pub record JudgementIsOne (scene : Scene) (sys : System) (unit : Option ℕ) (accepted : Bool)
    (text : List ℕ) : Type 0 where
  pub only : (other : Bool) (words : List ℕ) → IsJudgedWith scene sys unit other words → accepted ≡ other
  pub one_text : accepted ≡ true → (words : List ℕ) → IsJudgedWith scene sys unit true words → text ≡ words

-- what a program over lattices is judged to be is one
abbrev pub OneJudgement : Type 0
OneJudgement =
    (scene : Scene) (sys : System) (unit : Option ℕ) → AreLattices scene.lattices → (accepted : Bool) (text : List ℕ) →
    IsJudgedWith scene sys unit accepted text → JudgementIsOne scene sys unit accepted text

-- the constraints below a number have one count of exceeded bounds
abbrev pub OneErrorCount : Type 0
OneErrorCount = (scene : Scene) (sys : System) (number count other : ℕ) → ErrorCount scene sys number count →
    ErrorCount scene sys number other → count ≡ other

-- a report comes to one thing
abbrev pub OneCheck : Type 0
OneCheck = (sys : System) (orders : List Order) (text : List ℕ) (one other : Checked) → ComesTo sys orders text one →
    ComesTo sys orders text other → one ≡ other
