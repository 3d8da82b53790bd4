-- Marks of nodes.
use Rattle.std.proofs.Common.{◌≡◌, ℕ, zero, suc, ◌+◌, ◌-◌, ◌<◌, ◌≤◌, Bool, true, ◌⊎◌, inl, inr, List, [], ◌∷◌, length}
use Rattle.std.proofs.Common.{length-set, set, slice_get, Some, refl, sym, ◌∙◌, ap, subst, arith}
use Rattle.std.proofs.lemmas.Option.{slice_get_within, get_or_from_slice_get}
use Rattle.match_summary.specs.declared.reason.Summary.{Summary}
use Rattle.match_summary.specs.Summary.{HasPair}
use Rattle.match_summary.proofs.Sources.{pair_place}
use Rattle.sig_writer.specs.declared.nodes.Nodes.{Nodes}
use Rattle.sig_writer.specs.declared.marks.Pair.{Pair}
use Rattle.sig_writer.specs.Marks.{AreMarks, IsJoined, Joins}
use Rattle.sig_writer.specs.Marking.{IsEnd, IsMarked, Marks}

-- the mark that is set at an index of the list is there
set_here : (marks : List Bool) (i : ℕ) → i < length marks → IsMarked (set marks i true) i
set_here [] i lt = absurd (omega (arith, lt))
set_here (m ∷ ms) zero lt = refl
set_here (m ∷ ms) (suc i) lt = set_here ms i (omega (arith, lt))

-- a mark stays where another one is set
set_kept : (marks : List Bool) (i k : ℕ) → IsMarked marks k → IsMarked (set marks i true) k
set_kept [] i k is = is
set_kept (m ∷ ms) zero zero is = refl
set_kept (m ∷ ms) zero (suc k) is = is
set_kept (m ∷ ms) (suc i) zero is = is
set_kept (m ∷ ms) (suc i) (suc k) is = set_kept ms i k is

-- a mark behind the setting of one was there before, or is the one that is set
set_only : (marks : List Bool) (i k : ℕ) → IsMarked (set marks i true) k → IsMarked marks k ⊎ (i ≡ k)
set_only [] i k is = inl is
set_only (m ∷ ms) zero zero is = inr refl
set_only (m ∷ ms) zero (suc k) is = inl is
set_only (m ∷ ms) (suc i) zero is = inl is
set_only (m ∷ ms) (suc i) (suc k) is = elim (set_only ms i k is)
    [ inl old ↦ inl old | inr same ↦ inr (ap (λ n. suc n) same) ]

-- the two nodes that a summary joins were marked
module _ (nodes : Nodes) (row : Summary) (pair : Pair) (joined : IsJoined nodes row pair) (marks : List Bool)
    (size : length marks ≡ nodes.to - nodes.from) where
  once : List Bool
  once = set marks pair.from true

  twice : List Bool
  twice = set (set marks pair.from true) pair.to true

  first_within : pair.from < length marks
  first_within = let from = joined.0 in let to = joined.1 in omega (arith, from, to, size)

  second_within : pair.to < length (set marks pair.from true)
  second_within = let from = joined.2 in let to = joined.3 in let long = length-set marks pair.from true in
      omega (arith, from, to, size, long)

  pub marks_pair : Marks (IsEnd nodes row) marks (set (set marks pair.from true) pair.to true)
  marks_pair = record {
    size = length-set (set marks pair.from true) pair.to true ∙ length-set marks pair.from true;
    kept = λ i is. set_kept (set marks pair.from true) pair.to i (set_kept marks pair.from i is);
    done = λ i is.
        let other = is.1 in
        elim is.2 [
          | inl from ↦
              let one = joined.0 in let two = other.0 in
              let same : pair.from ≡ i = omega (arith, one, two, from) in
              subst (λ k. IsMarked (set (set marks pair.from true) pair.to true) k) same
              (set_kept (set marks pair.from true) pair.to pair.from (set_here marks pair.from first_within))
          | inr to ↦
              let one = joined.2 in let two = other.2 in
              let same : pair.to ≡ i = omega (arith, one, two, to) in
              subst (λ k. IsMarked (set (set marks pair.from true) pair.to true) k) same
              (set_here (set marks pair.from true) pair.to second_within)
        ];
    only = λ i is. elim (set_only (set marks pair.from true) pair.to i is) [
      | inl old ↦ elim (set_only marks pair.from i old)
          [ inl older ↦ inl older | inr from ↦ inr (pair, joined, inl from) ]
      | inr to ↦ inr (pair, joined, inr to)
    ];
  }

-- a summary that joins two nodes, by its place
module _ (nodes : Nodes) (rows : List Summary) where
  pub row_pair : (n : ℕ) (row : Summary) → slice_get rows n ≡ Some row → HasPair rows row.from row.to
  row_pair n row at = (row.why, (n, slice_get_within rows n row at, get_or_from_slice_get rows n row row at))

  pair_joins : (n : ℕ) (row : Summary) (pair : Pair) → slice_get rows n ≡ Some row → IsJoined nodes row pair →
      Joins nodes rows pair.from pair.to
  pair_joins n row pair at joined = (
    subst (λ k. HasPair rows k (nodes.from + pair.to)) (sym joined.0)
        (subst (λ k. HasPair rows row.from k) (sym joined.2) (row_pair n row at)),
    joined.4,
  )

  -- two nodes that are joined, by the place of the summary
  pub joins_pair : (i j : ℕ) → i < nodes.to - nodes.from → j < nodes.to - nodes.from → Joins nodes rows i j →
      (n : ℕ) × (row : Summary) × (slice_get rows n ≡ Some row) × (row.from ≡ nodes.from + i) ×
      IsJoined nodes row (record { from = i; to = j })
  joins_pair i j first second joins =
      let place = pair_place rows (nodes.from + i) (nodes.from + j) joins.0 in
      let row : Summary = record { from = nodes.from + i; to = nodes.from + j; why = joins.0.0 } in
      (place.0, row, place.1, refl, (refl, omega (arith, first), refl, omega (arith, second), joins.1))

  -- marks that are right of all summaries that begin at a node
  pub are_marks : (marks : List Bool) → length marks ≡ nodes.to - nodes.from →
      ((i : ℕ) → IsMarked marks i → (n : ℕ) × (row : Summary) × (slice_get rows n ≡ Some row) × IsEnd nodes row i) →
      ((n i : ℕ) (row : Summary) → slice_get rows n ≡ Some row → row.from < nodes.to → IsEnd nodes row i →
      IsMarked marks i) → AreMarks nodes rows marks
  are_marks marks size only done = record {
    count = size;
    marked = λ i lt. (
      λ is.
          let found = only i is in
          let row = found.1 in
          let pair = found.3.0 in
          let joined = found.3.1 in
          let joins = pair_joins found.0 row pair found.2 joined in
          elim found.3.2 [
            | inl from ↦
                let one = joined.2 in let two = joined.3 in
                (pair.to, omega (arith, one, two, size), inl (subst (λ k. Joins nodes rows k pair.to) from joins))
            | inr to ↦
                let one = joined.0 in let two = joined.1 in
                (pair.from, omega (arith, one, two, size), inr (subst (λ k. Joins nodes rows pair.from k) to joins))
          ],
      λ found.
          let j = found.0 in
          let within = found.1 in
          elim found.2 [
            | inl joins ↦
                let place = joins_pair i j (omega (arith, lt, size)) (omega (arith, within, size)) joins in
                let joined = place.4 in
                done place.0 i place.1 place.2 joined.1 (record { from = i; to = j }, joined, inl refl)
            | inr joins ↦
                let place = joins_pair j i (omega (arith, within, size)) (omega (arith, lt, size)) joins in
                let joined = place.4 in
                done place.0 i place.1 place.2 joined.1 (record { from = j; to = i }, joined, inr refl)
          ],
    );
  }

-- at an index below the count of summaries there is a summary
pub row_at : (rows : List Summary) (n : ℕ) → n < length rows → (row : Summary) × (slice_get rows n ≡ Some row)
row_at [] n lt = absurd (omega (arith, lt))
row_at (row ∷ rows) zero lt = (row, refl)
row_at (row ∷ rows) (suc n) lt = row_at rows n (omega (arith, lt))

pub end_from : (nodes : Nodes) (row : Summary) (i : ℕ) → IsEnd nodes row i → nodes.from ≤ row.from
end_from nodes row i end = let from = end.1.0 in omega (arith, from)
