use Rattle.std.proofs.Common.{◌≡◌, false, sym, ◌∙◌, ap}
use Rattle.std.proofs.lemmas.Result.{on_ok_weaker}
use Rattle.constraint_gen.specs.Marking.{has_unit}
use Rattle.constraint_gen.proofs.Words.{marks_more}
use Rattle.constraint_gen.proofs.marking.add_unit.Goals as goal

-- the marks of a unit whose number no earlier one has are added to those of the earlier units
pub returns : goal.returns
returns c =
    let units = c.args.earlier.now in
    let lexed = c.args.tokens.now in
    let new : has_unit units lexed.unit ≡ false =
    sym (c.has_unit.ensures ∙ ap (has_unit units) c.unit.ensures) ∙ c.if-has_unit.false in
    on_ok_weaker c.add_marks.result
    (λ marked. marks_more units lexed c.args.found.now c.add_marks.new.found new c.requires marked) c.add_marks.ensures
