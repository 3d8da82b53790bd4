use Rattle.std.proofs.Common.{arith, refl}
use Rattle.certificate_text.proofs.EndLemmas.{first_there, second_there, first_below, second_below}
use Rattle.certificate_text.proofs.names.end_at.Goals as goal

pub returns-then-end-eq0-clause-there : goal.returns-then-end-eq0-clause-there
returns-then-end-eq0-clause-there c =
    rw c.first_end.ensures (first_there c.args.graph.now.constraints c.new.result c.args.end _
    c.constraint-link.ensures.there (omega (arith, c.new.ensures)))

-- the variable at an even end is below the number of variables
pub returns-then-end-eq0-clause-below : goal.returns-then-end-eq0-clause-below
returns-then-end-eq0-clause-below c =
    rw (c.first_end.ensures, ← c.vars-vars.ensures.value)
    (first_below c.constraint-link.result.link _ (c.vars-vars.ensures.above c.new.result c.constraint-link.result.link
    (record { constraint = c.constraint-link.result; there = c.constraint-link.ensures.there; link_is = refl })))

pub returns-else-end-eq0-clause-there : goal.returns-else-end-eq0-clause-there
returns-else-end-eq0-clause-there c =
    rw c.second_end.ensures (second_there c.args.graph.now.constraints c.new.result c.args.end _
    c.constraint-link.ensures.there (omega (arith, c.new.ensures)))

-- the variable at an odd end is below the number of variables
pub returns-else-end-eq0-clause-below : goal.returns-else-end-eq0-clause-below
returns-else-end-eq0-clause-below c =
    rw (c.second_end.ensures, ← c.vars-vars.ensures.value)
    (second_below c.constraint-link.result.link _ (c.vars-vars.ensures.above c.new.result c.constraint-link.result.link
    (record { constraint = c.constraint-link.result; there = c.constraint-link.ensures.there; link_is = refl })))
