use Rattle.std.proofs.Common.{[], refl, ap, ◌∙◌}
use Rattle.type_table.specs.Types.{pointer}
use Rattle.type_table.specs.Rows.{type_of}
use Rattle.c_names.proofs.part.bare_pointer.Goals as goal

-- the type made is the bare type of a pointer to the given type
pub returns-clause-made : goal.returns-clause-made
returns-clause-made c =
    let rows = c.pointer.new.self in
    c.in_ok-at.ensures.made (type_of rows) (λ n lt. refl)
    ∙ ap (λ ws. pointer ws (type_of rows c.in_ok-inside.inside)) c.new.ensures.items
    ∙ ap (pointer [])
    (c.in_ok-at.ensures.grown.keeps c.in_ok-inside.inside c.in_ok-inside.ensures.low ∙ c.in_ok-inside.ensures.made)
