use Rattle.error_path.proofs.Searching.{unmarked, nothing_at}
use Rattle.error_path.proofs.search.Search.new.Goals as goal

-- a search with an empty queue and no mark set is good, for any origin
pub returns-clause-good : goal.returns-clause-good
returns-clause-good c = λ sys lattice origin rows below. record {
  sound = λ n r is. absurd (nothing_at c.new.result.items n r c.new.ensures.items is);
  listed = λ p v mark. absurd (unmarked c.args.marks p v (c.requires p v) mark);
  below = below;
}
