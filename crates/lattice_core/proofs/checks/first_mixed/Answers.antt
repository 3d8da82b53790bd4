use Rattle.std.proofs.Common.{◌≡◌, ◌∙◌, sym, ap, Some, below_more, arith}
use Rattle.std.proofs.lemmas.Grind.{common_steps}
use Rattle.lattice_core.specs.Entries.{level_of}
use Rattle.lattice_core.proofs.Naming.{level_is}
use Rattle.lattice_core.proofs.checks.first_mixed.Goals as goal

-- an entry of the level of the first joins those before it
pub loop-k-preserved : goal.loop-k-preserved
loop-k-preserved c =
    let entry = c.index-entries-k.result in
    let first = c.index-entries-0.result in
    let same : level_of entry ≡ level_of first = grind (arith, common_steps) in
    below_more _ _ c.loop-k.invariant (
    level_is c.args.entries.now c.loop-k.k entry c.loop-k-test.true
    ∙ ap (λ e. Some (level_of e)) (sym c.index-entries-k.is) ∙ ap Some same
    ∙ ap (λ e. Some (level_of e)) c.index-entries-0.is ∙ sym (level_is c.args.entries.now 0 first (omega arith)))
