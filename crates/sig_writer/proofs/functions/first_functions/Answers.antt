use Rattle.std.proofs.Common.{arith, ap, ◌∙◌, sym, ◌++◌, ℕ, List, map, [], ◌∷◌}
use Rattle.std.specs.List.{filter}
use Rattle.qual_base.proofs.Lists.{take_whole}
use Rattle.name_rules.specs.Spellings.{Place}
use Rattle.name_state.specs.UnitNames.Shown.{names_of}
use Rattle.sig_writer.specs.Functions.{is_first}
use Rattle.sig_writer.proofs.Taken.{kept_more}
use Rattle.sig_writer.proofs.functions.first_functions.Goals as goal

-- one more thing keeps what is found the first functions among the things so far
pub loop-thing-preserved : goal.loop-thing-preserved
loop-thing-preserved c = λ t statics.
    let p = is_first (names_of t c.args.names.now) in
    c.in_ok-keep_first.ensures t statics
    ∙ ap (λ (found : List Place). found ++ map (λ it. it.1) (filter p (c.thing-item.result ∷ [])))
    (c.loop-thing.invariant t statics)
    ∙ sym (kept_more p (λ it. it.1) c.args.things.now c.loop-thing.thing-index c.thing-item.result c.thing-item.is
    (omega arith))

-- behind the last thing the first functions of all things are found
pub returns : goal.returns
returns c = λ t statics.
    let p = is_first (names_of t c.args.names.now) in
    c.loop-thing.invariant t statics
    ∙ ap (λ (things : List (ℕ × Place)). map (λ it. it.1) (filter p things))
    (take_whole c.args.things.now c.loop-thing.thing-index (omega arith))
