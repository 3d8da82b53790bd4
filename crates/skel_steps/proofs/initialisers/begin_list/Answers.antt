use Rattle.std.proofs.Common.{◌∷◌, Option, ◌∙◌, ap}
use Rattle.std.proofs.lemmas.Result.{on_ok_weaker}
use Rattle.qual_types.specs.Skel.{Skel}
use Rattle.row_rules.specs.RowSteps.Steps as steps
use Rattle.skel_steps.specs.Stepping.{tables_of, state_of}
use Rattle.skel_steps.proofs.initialisers.begin_list.Goals as goal

-- a list in braces begins at the target of the next item
pub returns : goal.returns
returns c =
    let k = c.args.known.now in
    let st = state_of k c.args.stacks.now in
    on_ok_weaker c.begin_list.result (λ done w shows. done (tables_of k) ∙
    ap (λ (t : Option Skel). record st { braces = steps.list_of t ∷ st.braces })
    (c.target_in-target.ensures w shows
    ∙ ap (steps.target_in w) (c.braces-it.ensures (tables_of k)))) c.begin_list.ensures
