use Rattle.std.proofs.Common.{ℕ, ap, ◌∙◌}
use Rattle.std.specs.declared.alloc.Global.{Global}
use Rattle.std.specs.declared.vec.Vec.{Vec}
use Rattle.cqual_tool.proofs.Judging.{answered_as, unnamed_as}
use Rattle.cqual_tool.proofs.ending.answered.Goals as goal

-- a text of who reaches the name is the answer for the name
pub returns-in-Some-clause-answered : goal.returns-in-Some-clause-answered
returns-in-Some-clause-answered c = λ it shows system.
    let said = c.in_ok-text.ensures it.scene shows in
    answered_as it c.args.graph.now c.args.name.now c.in_ok-text.field-0 c.in-Some.text system c.in-Some.is
    (rw c.as_bytes.ensures.value at said)

-- the line of no such name is the answer for a name that is not declared
pub returns-in_ok-no_name-in-None-clause-answered : goal.returns-in_ok-no_name-in-None-clause-answered
returns-in_ok-no_name-in-None-clause-answered c = λ it shows system.
    let said = c.in_ok-text.ensures it.scene shows in
    let line = c.in_ok-no_name-in-None.ensures.1 in
    unnamed_as it c.args.graph.now c.args.name.now c.in_ok-text.field-0 _ _ system c.in-None.is
    c.in_ok-no_name-in-None.ensures.0
    (rw c.as_bytes-in-None.ensures.value at line) (rw c.as_bytes.ensures.value at said)
