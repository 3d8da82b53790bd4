use Rattle.std.proofs.Common.{◌&&◌, ◌∙◌}
use Rattle.name_rules.specs.Values.{is_plain_void_pointer}
use Rattle.skel_steps.specs.Stepping.{tables_of, state_of}
use Rattle.skel_steps.proofs.forms.is_zero_cast.Goals as goal

-- a cast is a zero where its type is a plain pointer to `void` and its operand a zero
pub returns : goal.returns
returns c =
    let k = c.args.known.now in
    let st = state_of k c.args.stacks.now in
    c.is_zero_of.ensures ∙
    (λ i. is_plain_void_pointer (c.type_at.ensures (tables_of k) i) && c.is_zero_at.ensures (tables_of k) i)
