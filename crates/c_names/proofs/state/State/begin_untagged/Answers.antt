use Rattle.std.proofs.Common.{Bool, sym, ap, ◌∙◌}
use Rattle.std.proofs.lemmas.Result.{on_ok_weaker}
use Rattle.name_rules.specs.Declaring.{untagged_begun}
use Rattle.name_rules.specs.NameSteps.State.{State}
use Rattle.name_rules.specs.NameSteps.Steps.{with_body}
use Rattle.name_state.specs.UnitNames.Shown.{names_of}
use Rattle.c_names.specs.Shown.{state_of}
use Rattle.c_names.proofs.state.State.begin_untagged.Goals as goal

abbrev untagged_where : Bool → State → State
untagged_where b st = record st { specifiers = record st.specifiers { is_untagged = b } }

pub returns : goal.returns
unfolding state_of
returns c =
    on_ok_weaker c.open_body.result (λ done t p.
    let st = state_of t p c.args.self.now in
    done t p
    ∙ ap (λ b. with_body c.args.kind b (untagged_where c.untagged_by-self.result st)) (sym (c.in_ok-begun.ensures t))
    ∙ ap (λ b. with_body c.args.kind (untagged_begun c.args.at.now c.args.kind (names_of t c.args.self.now.names))
    (untagged_where b st)) c.untagged_by-self.ensures) c.open_body.ensures
