use Rattle.name_state.proofs.found_names.found.FoundNames.new.Goals as goal

pub invariant_of-result : goal.invariant_of-result
invariant_of-result c = record { links = λ t at. c.in_ok-links.ensures t at }
