use Rattle.std.proofs.Common.{◌≡◌, sym, ◌∙◌, refl, Bool, true, false}
use Rattle.type_table.specs.Types.{Words}
use Rattle.type_table.specs.Rows.{some_where}
use Rattle.name_rules.specs.NameSteps.Steps.{ellipsis_where}
use Rattle.name_state.proofs.NameTypes.Knowing.{knows_before, below_more, types_known, same_function}
use Rattle.name_state.proofs.name_types.types.Types.function.Goals as goal

same_words : (b : Bool) (ws : Words) → some_where b ws ≡ ellipsis_where b ws
same_words true ws = refl
same_words false ws = refl

pub add-requires : goal.add-requires
add-requires c = (
  below_more _ _ c.args.params.items c.in_ok-result.ensures.grown.longer c.requires.params,
  c.in_ok-result.ensures.low,
)

-- the function type made is of the given parameters and ellipsis, and its result has decayed
pub returns-clause-made : goal.returns-clause-made
returns-clause-made c =
    λ t knows.
    let middle = knows_before _ _ t c.in_ok-at.ensures.grown knows in
    let ns = c.args.params.items in
    let low = below_more _ _ ns c.in_ok-result.ensures.grown.longer c.requires.params in
    let params = sym (types_known c.decayed.new.self t ns middle low) in
    let back = sym (middle c.in_ok-result.result c.in_ok-result.ensures.low) ∙ c.in_ok-result.ensures.made t middle in
    let words = same_words c.args.has_ellipsis c.args.words.items in
    knows c.in_ok-at.at c.in_ok-at.ensures.low ∙ c.in_ok-at.ensures.there
    ∙ same_function c.new.ensures.items params back words
