use Rattle.std.proofs.Common.{Option, ◌∙◌, ap}
use Rattle.std.proofs.lemmas.Result.{on_ok_weaker}
use Rattle.qual_types.specs.Skel.{Skel}
use Rattle.row_rules.specs.RowSteps.Steps as steps
use Rattle.skel_steps.specs.Stepping.{tables_of, state_of}
use Rattle.skel_steps.proofs.initialisers.rule.Goals as goal

-- the rule goes through the initialiser of the name that was declared last
pub returns : goal.returns
returns c =
    let k = c.args.known.now in
    let st = state_of k c.args.stacks.now in
    on_ok_weaker c.go_through.result (λ done w shows. done (tables_of k) ∙
    ap (λ (t : Option Skel). steps.gone_through t st)
    (c.initialised_by-target.ensures w shows
    ∙ ap (steps.initialised_by w) (c.declared_last-token.ensures (tables_of k)))) c.go_through.ensures
