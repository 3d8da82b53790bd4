use Rattle.std.proofs.Common.{sym, ap, ◌∙◌}
use Rattle.std.proofs.lemmas.Result.{on_ok_weaker}
use Rattle.name_rules.specs.NameSteps.Steps.{with_body}
use Rattle.c_names.specs.Shown.{state_of}
use Rattle.c_names.proofs.state.State.begin_tag.Goals as goal

pub returns : goal.returns
unfolding state_of
returns c =
    on_ok_weaker c.open_body.result (λ done t p. done t p
    ∙ ap (λ b. with_body c.args.kind b (state_of t p c.args.self.now))
    (sym (c.in_ok-begun.ensures t))) c.open_body.ensures
