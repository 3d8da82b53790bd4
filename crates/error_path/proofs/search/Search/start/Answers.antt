use Rattle.std.proofs.Common.{List, refl, sym, subst}
use Rattle.std.proofs.lemmas.Result.{on_ok_weaker}
use Rattle.match_summary.specs.declared.reason.Summary.{Summary}
use Rattle.error_path.specs.declared.search.Origin.{Origin}
use Rattle.error_path.specs.Reaching.{IsGood}
use Rattle.error_path.proofs.search.Search.start.Goals as goal

-- a search that starts at the constants of its element stays good
pub returns-in-Element-clause-good : goal.returns-in-Element-clause-good
returns-in-Element-clause-good c =
    let Good : Origin → Type 0 = λ o. (rows : List Summary)
    → IsGood c.args.graph.now c.args.lattice o rows c.args.self.now →
    IsGood c.args.graph.now c.args.lattice o rows c.start_at_each.new.self in
    on_ok_weaker c.start_at_each.result (λ on. subst Good (sym c.in-Element.is) on) c.start_at_each.ensures.good

pub returns-in-Variable-clause-good : goal.returns-in-Variable-clause-good
returns-in-Variable-clause-good c =
    on_ok_weaker c.note.result (λ on rows good. on c.args.graph.now c.args.lattice c.args.origin.now rows
    (c.in-Variable.is, refl) good) c.note.ensures.good
