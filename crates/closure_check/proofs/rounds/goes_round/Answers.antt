use Rattle.std.proofs.Common.{refl, sym, ◌∙◌, subst}
use Rattle.std.specs.declared.option.Option.{Option}
use Rattle.closure_check.specs.declared.index.Span.{Span}
use Rattle.closure_check.specs.Index.{LiesIn}
use Rattle.closure_check.proofs.rounds.goes_round.Goals as goal

-- an `Enter` goes round just if each constraint in the span of its site's returns goes back
pub returns-in-Some : goal.returns-in-Some
returns-in-Some c = (
  λ yes y m pair v st.
      let In : Option Span → Type 0 = λ span. LiesIn span m in
      c.goes_through.ensures.0 yes m
      (subst In (sym c.returns.ensures ∙ c.in-Some.is) (c.requires.index.returns m c.args.site y v
      (record { constraint = st.constraint; there = st.there; link_is = st.link_is }))) y pair v st,
  λ all. c.goes_through.ensures.1 (λ m lies y pair. all y m pair),
)

-- a site without a return goes round
pub returns-in-None : goal.returns-in-None
returns-in-None c = (
  λ yes y m pair v st.
      let In : Option Span → Type 0 = λ span. LiesIn span m in
      absurd (subst In (sym c.returns.ensures ∙ c.in-None.is) (c.requires.index.returns m c.args.site y v
      (record { constraint = st.constraint; there = st.there; link_is = st.link_is }))),
  λ all. refl,
)
