use Rattle.std.proofs.Common.{List, ◌++◌, ℕ, ◌∙◌, ap, reverse}
use Rattle.name_rules.specs.Spellings.{Place}
use Rattle.name_state.specs.UnitNames.Shared.{shared}
use Rattle.name_state.proofs.UnitNames.Sharing.{shared_is_round}
use Rattle.name_state.proofs.unit_names.names.Names.share.Goals as goal

-- behind the prelude its scope is left, and what its objects and functions share is round the sources
pub returns : goal.returns
returns c =
    λ t.
    let names = c.names.result.now in
    shared_is_round t c.args.self.now c.close-file.new.self c.share_all.new.round names c.close-file.result
    c.close-file.ensures.left c.close-file.ensures.closed c.names.ensures
    (c.in_ok-share_all.ensures
    ∙ ap (λ (round : List (ℕ × Place)). shared c.args.self.now.declared (reverse names) ++ round) c.new.ensures)
