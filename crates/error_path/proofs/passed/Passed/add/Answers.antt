use Rattle.std.proofs.Common.{◌≡◌, inl, inr, true, sym, ◌∙◌, subst}
use Rattle.error_path.specs.Marks.{PhaseMarks, mark_of}
use Rattle.error_path.proofs.Searching.{mark_cases}
use Rattle.error_path.proofs.passed.Passed.add.Goals as goal

-- what is marked afterwards was marked before or is the new constraint in its phase
pub returns-clause-only : goal.returns-clause-only
returns-clause-only c = λ p n is.
    elim (mark_cases c.self.inside.marks c.mark.new.self c.args.phase c.new.result c.mark.ensures.others p n is) [
      | inl before ↦ inl (subst (λ (m : PhaseMarks). mark_of m p n ≡ true) c.self.view_is before)
      | inr came ↦ inr (came.0, sym (c.new.ensures ∙ c.number.ensures) ∙ came.1)
    ]
