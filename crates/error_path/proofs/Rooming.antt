-- Marks and places that are taken away one after the other.
use Rattle.std.proofs.Common.{◌≡◌, ◌≢◌, ℕ, true, false, List, [], ◌∷◌, ◌++◌, slice_get, slice_index_or, Some, inl, inr, refl, sym, ◌∙◌, ap, subst}
use Rattle.std.proofs.lemmas.Bool.{cases_eq}
use Rattle.flow_graph.specs.declared.phase.Phase.{Phase}
use Rattle.match_summary.proofs.Growth.{push_cases}
use Rattle.error_path.specs.Marks.{PhaseMarks, mark_of}
use Rattle.error_path.specs.declared.search.Reached.{Reached}
use Rattle.error_path.specs.Reaches.{AreFirsts, IsIn}
use Rattle.error_path.specs.Rooms.{nowhere}
use Rattle.error_path.proofs.Searching.{unmarked}

-- each variable that is marked is in a queue
abbrev pub AreIn : PhaseMarks → List Reached → Type 0
AreIn marks queue = (p : Phase) (v : ℕ) → mark_of marks p v ≡ true → IsIn queue v

-- and each that has a place
abbrev pub ArePlaced : List ℕ → List Reached → Type 0
ArePlaced firsts queue = (v : ℕ) → slice_index_or firsts v nowhere ≢ nowhere → IsIn queue v

-- a variable of a queue that is not the last one's is in the rest
in_less : (all left : List Reached) (r : Reached) (v : ℕ) → all ≡ left ++ r ∷ [] → v ≢ r.at → IsIn all v → IsIn left v
in_less all left r v is other at =
    let there : slice_get (left ++ r ∷ []) at.0 ≡ Some at.1.0 =
    subst (λ (xs : List Reached). slice_get xs at.0 ≡ Some at.1.0) is at.1.1 in
    elim (push_cases left r at.0 at.1.0 there) [
      | inl old ↦ (at.0, (at.1.0, old.1, at.1.2))
      | inr new ↦ absurd (other (sym at.1.2 ∙ ap (λ (x : Reached). x.at) (sym new.1)))
    ]

-- where the marks of the last one's variable were taken away, and its place
pub marked_less : (old new : PhaseMarks) (all left : List Reached) (r : Reached) → all ≡ left ++ r ∷ []
    → ((p : Phase) → mark_of new p r.at ≡ false) →
    ((p : Phase) (v : ℕ) → v ≢ r.at → mark_of new p v ≡ mark_of old p v) → AreIn old all → AreIn new left
marked_less old new all left r is here others marked p v mark = elim (cases_eq v r.at) [
  | inl same ↦ absurd (unmarked new p v (ap (λ (k : ℕ). mark_of new p k) same ∙ here p) mark)
  | inr other ↦ in_less all left r v is other (marked p v (sym (others p v other) ∙ mark))
]

-- variables that have places are in the queue still when its last item and that item's place are gone
pub placed_less : (old new : List ℕ) (all left : List Reached) (r : Reached) → all ≡ left ++ r ∷ []
    → slice_index_or new r.at nowhere ≡ nowhere →
    ((v : ℕ) → v ≢ r.at → slice_index_or new v nowhere ≡ slice_index_or old v nowhere) → ArePlaced old all
    → ArePlaced new left
placed_less old new all left r is here others placed v place = elim (cases_eq v r.at) [
  | inl same ↦ absurd (place (ap (λ (k : ℕ). slice_index_or new k nowhere) same ∙ here))
  | inr other ↦ in_less all left r v is other (placed v (λ none. place (others v other ∙ none)))
]

-- the first places of a queue are those of its variables
pub firsts_placed : (queue : List Reached) (firsts : List ℕ) → AreFirsts queue firsts → ArePlaced firsts queue
firsts_placed queue firsts is v place =
    (slice_index_or firsts v nowhere, is.right v (slice_index_or firsts v nowhere) refl place)
