use Rattle.std.proofs.Common.{sym, ap, ◌∙◌, option_map, None, ◌-◌, length, slice_get}
use Rattle.name_state.specs.UnitNames.Shown.{names_of, declared_of}
use Rattle.name_state.proofs.UnitNames.Views.{last_get, map_last}
use Rattle.name_state.proofs.unit_names.names.Names.last_declared.Goals as goal

pub returns : goal.returns
unfolding names_of
returns c =
    λ t.
    let all = c.args.self.now.declared in
    ap (option_map (declared_of t))
    (c.copied.ensures ∙ c.last.ensures.value ∙ ap (λ ds. slice_get ds (length ds - 1)) c.as_slice.ensures
    ∙ last_get all) ∙ sym (map_last (declared_of t) None all)
