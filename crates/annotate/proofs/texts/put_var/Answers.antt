use Rattle.std.proofs.Common.{◌<◌, List, ◌++◌, length, ap, ◌∙◌, arith}
use Rattle.qual_types.specs.Positions.{view_of}
use Rattle.qual_types.specs.declared.position.Step.{Step}
use Rattle.annotate.specs.Texts.{marks_text, var_text}
use Rattle.annotate.proofs.Writing.{fixed, nothing, then_both, same_text}
use Rattle.annotate.proofs.SceneLemmas.{no_var, var_is}
use Rattle.annotate.proofs.texts.put_var.Goals as goal

-- a variable past the table has no text
pub returns-then-number-count : goal.returns-then-number-count
returns-then-number-count c =
    let lent = c.args.scene.now in
    nothing lent c.args.out.now.items (λ s. var_text s c.args.var)
    (λ s shows. no_var lent s shows c.args.var (omega arith))

-- the text of a variable is the name where it stands, and the steps to it
pub returns : goal.returns
returns c =
    let lent = c.args.scene.now in
    let position = view_of c.in_ok-position.position in
    let within : c.args.var < length lent.vars.now = omega arith in
    same_text (λ s. var_text s c.args.var)
    (then_both c.in_ok-put_name.ensures
    (fixed lent c.put_name.new.out.items c.put_marks.new.out.items (marks_text position.path)
    (c.in_ok-put_marks.ensures
    ∙ ap (λ (path : List Step). c.put_name.new.out.items ++ marks_text path) c.deref.ensures.value)))
    (λ s shows. var_is lent s shows c.args.var position within (c.in_ok-position.ensures within))
