use Rattle.std.proofs.Common.{◌∷◌, ◌++◌, [], sym, ap, ◌∙◌, subst}
use Rattle.row_rules.specs.RowSteps.Steps.{candidate_at}
use Rattle.skel_steps.specs.Picks.{IsPickedVal, with_candidate}
use Rattle.skel_steps.specs.Stepping.{state_of, tables_of}
use Rattle.skel_steps.proofs.picks.add_where.Goals as goal

-- an expression that is a candidate is added to those that are kept
pub returns-then-is : goal.returns-then-is
returns-then-is c = λ all p.
    let k = c.args.known.now in
    let st = state_of k c.args.stacks.now in
    subst (λ some. IsPickedVal k.vars.now some c.add.new.self)
    ((λ i. all
    ++ record { val = c.val_at.ensures k.types.now i; is_zero = c.is_zero_at.ensures (tables_of k) i } ∷ []) ∙
    ap (λ b. with_candidate b all (candidate_at c.args.depth st)) (sym c.if-is.true))
    (c.add.ensures k.vars.now all p)
