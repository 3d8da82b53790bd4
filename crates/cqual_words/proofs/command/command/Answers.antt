use Rattle.std.proofs.Common.{ap₂, ◌∙◌}
use Rattle.std.proofs.lemmas.Result.{IfOk-weaker}
use Rattle.clap.specs.Words.{with_rule}
use Rattle.cqual_words.proofs.command.command.Goals as goal

-- the options one by one, each behind those before it
pub returns : goal.returns
returns c =
    let lattice =
    c.in_ok-arg.ensures.shape c.option.ensures.local ∙ ap₂ with_rule c.bare.ensures c.option.ensures.rule in
    let prelude =
    c.in_ok-arg-2.ensures.shape c.option-2.ensures.local ∙ ap₂ with_rule lattice c.option-2.ensures.rule in
    let check = c.in_ok-arg-3.ensures.shape c.option-3.ensures.local ∙ ap₂ with_rule prelude c.option-3.ensures.rule in
    let verify = c.in_ok-arg-4.ensures.shape c.option-4.ensures.local ∙ ap₂ with_rule check c.option-4.ensures.rule in
    let who = c.in_ok-arg-5.ensures.shape c.option-5.ensures.local ∙ ap₂ with_rule verify c.option-5.ensures.rule in
    let generate = c.in_ok-arg-6.ensures.shape c.option-6.ensures.local ∙ ap₂ with_rule who c.option-6.ensures.rule in
    let annotate = c.in_ok-arg-7.ensures.shape c.flag.ensures.local ∙ ap₂ with_rule generate c.flag.ensures.rule in
    let certify = c.in_ok-arg-8.ensures.shape c.flag-2.ensures.local ∙ ap₂ with_rule annotate c.flag-2.ensures.rule in
    let sign = c.in_ok-arg-9.ensures.shape c.flag-3.ensures.local ∙ ap₂ with_rule certify c.flag-3.ensures.rule in
    IfOk-weaker c.arg-10.result _ _
    (λ r h. h.shape c.source.ensures.local ∙ ap₂ with_rule sign c.source.ensures.rule) c.arg-10.ensures
