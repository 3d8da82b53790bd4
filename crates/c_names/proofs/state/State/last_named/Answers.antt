use Rattle.std.proofs.Common.{None, option_map, sym, ap, ◌∙◌}
use Rattle.std.specs.List.{last_or}
use Rattle.name_state.specs.UnitNames.Shown.{type_named_of}
use Rattle.c_names.specs.Shown.{state_of}
use Rattle.c_names.proofs.Ending.{last_get, map_last}
use Rattle.c_names.proofs.state.State.last_named.Goals as goal

pub returns : goal.returns
unfolding state_of
returns c = λ t p.
    let all = c.type_names.result.now in
    ap (option_map (type_named_of t)) (c.copied.ensures ∙ c.last.ensures.value ∙ last_get all)
    ∙ sym (map_last (type_named_of t) None all) ∙ ap (last_or None) (c.type_names.ensures t)
