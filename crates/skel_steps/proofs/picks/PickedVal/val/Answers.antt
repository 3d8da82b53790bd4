use Rattle.std.proofs.Common.{◌∙◌, ap}
use Rattle.row_rules.specs.Vals as vals
use Rattle.row_world.specs.Shown.{val}
use Rattle.skel_steps.specs.Picks.{pick_by}
use Rattle.skel_steps.proofs.Candidates.{picked_is}
use Rattle.skel_steps.proofs.picks.PickedVal.val.Goals as goal

-- the operand of a pick is what is picked of its candidates, with the fresh value at its token
pub returns : goal.returns
returns c = λ w shows all p.
    let k = c.args.known.now in
    let it = c.args.self.now in
    c.val_by.ensures
    ∙ ap (λ s. pick_by it.count it.others s (val k it.first) (val k it.first_other)) (c.own.ensures w shows) ∙
    picked_is k.vars.now all it (vals.own w c.args.token) p
