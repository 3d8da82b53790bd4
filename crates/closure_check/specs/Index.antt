-- Where constraints begin, and where the returns of each site stand.
use Rattle.std.specs.Prelude.{ℕ, ◌<◌, ◌≤◌, List, Option, Some, None, slice_index_or}
use Rattle.flow_graph.specs.declared.constraint.Link.TheVariants.{Leave}
use Rattle.flow_graph.specs.System.{System, Has}
use Rattle.flow_graph.specs.Index.{AreBeginnings}
use Rattle.closure_check.specs.declared.index.Span.{Span}
use Rattle.closure_check.specs.declared.index.CheckIndex.{CheckIndex}

-- the span of a site; past the last site there is none
abbrev pub span_at : List (Option Span) → ℕ → Option Span
span_at spans s = slice_index_or spans s None

-- a number lies in a span
abbrev pub LiesIn : Option Span → ℕ → Type 0
LiesIn None n = ⊥
LiesIn (Some span) n = (span.from ≤ n) × (n < span.to)

-- each return lies in the span of its site
abbrev pub AreReturns : System → List (Option Span) → Type 0
AreReturns sys spans = (n s y v : ℕ) → Has sys n (Leave s y v) → LiesIn (span_at spans s) n

-- what the rules look up is that of the system
pub record IsIndex (sys : System) (index : CheckIndex) : Type 0 where
  pub out : AreBeginnings sys index.beginnings
  pub returns : AreReturns sys index.returns.items
