use Rattle.std.proofs.Common.{ℕ, inl, inr, subst}
use Rattle.match_summary.specs.Closing.{IsLeftFrom}
use Rattle.match_summary.proofs.Growth.{grows_not, grows_then, has_grown, leads_grown, left_between}
use Rattle.match_summary.proofs.closure.enter.Goals as goal

pub close_pairs-requires-clause-path : goal.close_pairs-requires-clause-path
close_pairs-requires-clause-path c =
    leads_grown _ _ c.args.from c.args.call.now.from c.in_ok-close_all.ensures.grows c.requires.path

pub returns-clause-grows : goal.returns-clause-grows
returns-clause-grows c = grows_then _ _ _ c.in_ok-close_all.ensures.grows c.in_ok-close_pairs.ensures.grows

-- an `Enter` was followed to each `Leave` that nothing or an inner pair joins it to
pub returns-clause-done : goal.returns-clause-done
returns-clause-done c = λ m b w st leads one.
    let old = c.args.found.now.known in
    let middle = c.close_all.new.found.known in
    let new = c.close_pairs.new.found.known in
    let inside = c.args.call.now.to in
    let Done : ℕ → ℕ → Type 0 = λ x k. IsLeftFrom c.args.given.now.graph.now c.args.given.now.lattice old new
    c.args.from c.args.call.now.site inside x k in
    let done : Done b m = elim leads [
      | inl same ↦
          subst (λ (x : ℕ). Done x m) same
          (left_between _ _ _ _ _ _ _ _ _ _ _ (grows_not old) c.in_ok-close_pairs.ensures.grows
          (c.in_ok-close_all.ensures.done m))
      | inr pair ↦
          left_between _ _ _ _ _ _ _ _ _ _ _ c.in_ok-close_all.ensures.grows (grows_not new)
          (c.in_ok-close_pairs.ensures.done b m (has_grown old middle inside b c.in_ok-close_all.ensures.grows pair))
    ] in
    done w st leads one
