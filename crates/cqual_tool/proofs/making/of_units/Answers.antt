use Rattle.std.proofs.Common.{[], ◌∷◌, sym, subst}
use Rattle.std.proofs.lemmas.Result.{IfOk-weaker}
use Rattle.cqual_tool.specs.Words.{names_in}
use Rattle.cqual_tool.specs.Outcome.{IsDecided}
use Rattle.cqual_tool.specs.Preparing.{IsPrepared, IsReady}
use Rattle.cqual_tool.proofs.Summing.{made_ready, made_refused, made_summed}
use Rattle.cqual_tool.proofs.making.of_units.Goals as goal

-- the program that was prepared names lattices and elements and is well owned, as `of_program` requires
pub of_program-requires : goal.of_program-requires
of_program-requires c =
    let names = names_in c.made_names.result in
    let units = c.requires.before.1 in
    let is : IsReady names c.args.lattices.now c.args.earlier.prelude units c.in-Program.ready =
    subst (IsPrepared names c.args.lattices.now c.args.earlier.prelude units) c.in-Program.is
    (c.in_ok-answer.ensures c.requires.before.0 units c.requires.before.2) in
    record { named = is.within; owned = is.owned }

-- the line that refuses the names, types or counts of the made unit is its answer
pub returns-in-Refused-clause-outcome : goal.returns-in-Refused-clause-outcome
returns-in-Refused-clause-outcome c = λ count unit earlier none bytes within parses.
    let names = names_in c.made_names.result in
    let lattices = c.args.lattices.now in
    let marks = c.args.earlier.prelude in
    made_refused c.args.number lattices bytes within unit parses names marks c.in-Refused.answer
    c.made_names.ensures none
    (subst (IsPrepared names lattices marks (unit ∷ [])) c.in-Refused.is
    (c.in_ok-answer.ensures count (unit ∷ []) earlier))

-- the answer that refuses the made unit is malformed, and so decided
pub returns-in-Refused-clause-decided : goal.returns-in-Refused-clause-decided
returns-in-Refused-clause-decided c =
    let names = names_in c.made_names.result in
    let units = c.requires.before.1 in
    let is =
    subst (IsPrepared names c.args.lattices.now c.args.earlier.prelude units) c.in-Refused.is
    (c.in_ok-answer.ensures c.requires.before.0 units c.requires.before.2) in
    subst IsDecided (sym is.0) tt

-- the sum of the program of the made unit is its answer
pub returns-in-Program-clause-outcome : goal.returns-in-Program-clause-outcome
returns-in-Program-clause-outcome c = λ count unit earlier none bytes within parses.
    let number = c.args.number in
    let names = names_in c.made_names.result in
    let lattices = c.args.lattices.now in
    let marks = c.args.earlier.prelude in
    let ready = c.in-Program.ready in
    let is = made_ready number lattices bytes within unit parses names marks ready c.made_names.ensures none
    (subst (IsPrepared names lattices marks (unit ∷ [])) c.in-Program.is
    (c.in_ok-answer.ensures count (unit ∷ []) earlier)) in
    IfOk-weaker c.of_program.result _ _
    (λ answer sum. made_summed number lattices bytes within unit parses ready answer.status answer.text.items is sum)
    (c.of_program.ensures.sum (unit ∷ []) is)
