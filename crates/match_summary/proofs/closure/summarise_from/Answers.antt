use Rattle.std.proofs.Common.{◌≡◌, ℕ, ◌<◌, inl, inr, Bool, List, length, sym, ◌∙◌, subst}
use Rattle.match_summary.specs.Summary.{IsInnerEnd}
use Rattle.match_summary.specs.Closing.{AreMarkedToo, IsMarked}
use Rattle.match_summary.proofs.Done.{done_closed}
use Rattle.match_summary.proofs.Matched.{closed_from}
use Rattle.match_summary.proofs.closure.summarise_from.Goals as goal

-- where all pairs were looked at, the list summarises the graph from inner ends and the starts
pub returns : goal.returns
returns c =
    let marks : List Bool = c.as_slice.result.now in
    let too : AreMarkedToo c.args.starts.now c.in_ok-marks.marks.items marks =
    subst (λ (new : List Bool). AreMarkedToo c.args.starts.now c.in_ok-marks.marks.items new)
    (sym c.as_slice.ensures.value) c.mark_starts.ensures in
    let ends = c.in_ok-marks.ensures.ends in
    let size : length marks ≡ c.vars.result = too.size ∙ c.in_ok-marks.ensures.size ∙ sym c.vars.ensures.value in
    let marked : (a : ℕ) → IsInnerEnd c.args.graph.now c.args.lattice a → IsMarked marks a =
    λ a inner. too.kept a ((ends a).1 inner) in
    closed_from c.args.graph.now c.args.lattice marks c.from_pairs.new.found.known marked
    (done_closed c.args.graph.now c.args.lattice marks c.vars.result _ marked c.vars.ensures.above
    c.in_ok-from_pairs.ensures.done) c.args.starts.now c.vars.result c.vars.ensures.above
    (λ a is. elim (too.only a is) [ inl end ↦ inl ((ends a).0 end) | inr given ↦ inr given ])
    (λ a given low. too.all a given (subst (λ (n : ℕ). a < n) (sym size) low)) c.in_ok-from_pairs.ensures.kept.good
