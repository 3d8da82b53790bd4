use Rattle.std.proofs.Common.{rules, ◌≡◌, sym, ap, ◌∙◌}
use Rattle.type_table.specs.Types.{words_of}
use Rattle.type_table.specs.Rows.{type_of}
use Rattle.name_rules.specs.Pieces.{with_words}
use Rattle.c_names.specs.Shown.{state_of}
use Rattle.c_names.proofs.Low.{knows_before}
use Rattle.c_names.proofs.state.State.auto_type.Goals as goal

pub returns-clause-made : goal.returns-clause-made
unfolding state_of
returns-clause-made c = λ t p knows.
    let before = knows_before c.args.types.now c.specified.new.self t c.in_ok-at.ensures.grown knows in
    let ty = c.declared_type-ty.result in
    let copied : c.in_ok-words.words.items ≡ c.words.result.now = search rules in
    c.in_ok-at.ensures.made t knows ∙ ap (λ ws. with_words ws (t c.args.bare))
    (copied ∙ c.words.ensures ∙ ap (λ rows. words_of (type_of rows ty)) c.table.ensures
    ∙ ap words_of (sym (before ty c.declared_type-ty.ensures.low) ∙ c.declared_type-ty.ensures.is t before))
