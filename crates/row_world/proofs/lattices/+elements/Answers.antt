use Rattle.std.proofs.Common.{◌+◌, ◌||◌, drop, sym, ◌∙◌, ap}
use Rattle.row_rules.specs.Annotations.{bounds_accesses}
use Rattle.row_world.proofs.Accessing.{entry_at}
use Rattle.row_world.proofs.lattices.+elements.Goals as goal

-- an element that bounds accesses makes the elements from it on bound them
pub returns-then-is_access : goal.returns-then-is_access
returns-then-is_access t c =
    let es = c.args.lattice.now.entries in
    c.if-is_access.true
    ∙ ap (λ b. b || bounds_accesses (drop (c.args.n + 1) es)) (sym c.if-is_access.true ∙ c.is_access.ensures)
    ∙ sym (entry_at c.args.n c.new.result es c.entry.result.now c.new.ensures c.entry.ensures)

-- an element that bounds no access leaves that to the elements behind it
pub returns-else-is_access : goal.returns-else-is_access
returns-else-is_access t c =
    let es = c.args.lattice.now.entries in
    c.has_access.ensures
    ∙ ap (λ b. b || bounds_accesses (drop (c.args.n + 1) es)) (sym c.if-is_access.false ∙ c.is_access.ensures)
    ∙ sym (entry_at c.args.n c.new.result es c.entry.result.now c.new.ensures c.entry.ensures)
