use Rattle.std.proofs.Common.{◌≡◌, ◌∙◌, ap, sym, [], if◌then◌else◌}
use Rattle.row_rules.specs.Worlds.{span}
use Rattle.row_rules.specs.Vals as vals
use Rattle.row_rules.specs.Rows as rows
use Rattle.row_rules.specs.RowSteps.State as states
use Rattle.row_world.specs.Shown.{skel}
use Rattle.skel_steps.specs.Stepping.{state_of}
use Rattle.unit_system.proofs.UnitRows.RowLists.{Same, row_added, row_halted, none_added}
use Rattle.unit_system.proofs.unit_rows.operators.index_row.Goals as goal

-- an index into a vector adds nothing
pub returns-then-is_vector_index : goal.returns-then-is_vector_index
returns-then-is_vector_index c =
    let k = c.args.known.now in
    let st = state_of k c.args.stacks.now in
    let a = states.value_at 1 st in
    let b = states.value_at 0 st in
    record {
      ok = none_added k c.args.graph.now _ (λ w shows.
          let is = c.is_vector_index.ensures w shows ∙
          (λ i. vals.is_vector_index w.spelling.wide (c.value_at-one.ensures i) (c.value_at-other.ensures i)) in
          ap (λ v. if v then []
          else rows.dereferenced w (if vals.is_ref a then a else b) c.args.aims (span w c.args.first c.args.last))
          (sym is ∙ c.if-is_vector_index.true));
      err = tt;
    }

-- any other index adds the row of the pointer that it follows, or halts in it
pub returns : goal.returns
returns c =
    let k = c.args.known.now in
    let st = state_of k c.args.stacks.now in
    let a = states.value_at 1 st in
    let b = states.value_at 0 st in
    let at_is : skel k c.indexed-at.result ≡ (if vals.is_ref a then a else b) = c.indexed-at.ensures ∙
    (λ j. if vals.is_ref (c.value_at-one.ensures j) then c.value_at-one.ensures j else c.value_at-other.ensures j) in
    let same : Same k (λ w. rows.dereferenced w (skel k c.indexed-at.result) c.args.aims c.span-span.result)
    (λ w. rows.index_demand w a b c.args.aims (span w c.args.first c.args.last)) =
    λ w shows.
    let is = c.is_vector_index.ensures w shows ∙
    (λ i. vals.is_vector_index w.spelling.wide (c.value_at-one.ensures i) (c.value_at-other.ensures i)) in
    (λ i. rows.dereferenced w (at_is i) c.args.aims (c.span-span.ensures w shows i)) ∙
    ap (λ v. if v then []
    else rows.dereferenced w (if vals.is_ref a then a else b) c.args.aims (span w c.args.first c.args.last))
    (sym c.if-is_vector_index.false ∙ is) in
    record {
      ok = row_added c.dereferenced.result k c.args.graph.now c.dereferenced.new.graph _ _ same
          c.dereferenced.ensures.ok;
      err = row_halted c.dereferenced.result k c.args.graph.now c.dereferenced.new.graph _ _ same
          c.dereferenced.ensures.err;
    }
