-- One change more.
use Rattle.std.proofs.Common.{◌≡◌, ℕ, ◌+◌, ◌<◌, List, [], ◌∷◌, ◌++◌, length, drop, get_or, cond, refl, sym, ◌∙◌, ap}
use Rattle.std.proofs.lemmas.List.{at_drop_more}
use Rattle.flow_systems.specs.declared.flow_unfolding.assignment.Change.{Change}
use Rattle.flow_systems.specs.FlowUnfolding.Assignment.{is_same, last_change}

pub last-push : (cs : List Change) (c : Change) (other v : ℕ) (w : List ℕ)
    → last_change (cs ++ c ∷ []) other v w ≡ cond (is_same c.at c.sites v w) c.elem (last_change cs other v w)
last-push [] c other v w = refl
last-push (d ∷ cs) c other v w = last-push cs c (cond (is_same d.at d.sites v w) d.elem other) v w

-- taking one change from those that are left makes it the last so far, where it is of this copy of the variable
pub last-step : (cs : List Change) (i other v : ℕ) (w : List ℕ) (c : Change) → i < length cs → c ≡ get_or cs i c →
    last_change (drop i cs) other v w ≡ last_change (drop (i + 1) cs) (cond (is_same c.at c.sites v w) c.elem other) v w
last-step cs i other v w c less is =
    at_drop_more (λ xs. last_change xs other v w) cs i c less
    ∙ ap (λ (x : Change). last_change (drop (i + 1) cs) (cond (is_same x.at x.sites v w) x.elem other) v w) (sym is)
