use Rattle.std.proofs.Common.{◌≡◌, ◌++◌, take}
use Rattle.annotate.specs.Texts.{marks_text}
use Rattle.annotate.proofs.texts.put_marks.Given as goal

abbrev pub invariant-loop-step : goal.invariant-loop-step
invariant-loop-step l = l.out.items ≡ l.fn.out.items ++ marks_text (take l.step-index l.path)
