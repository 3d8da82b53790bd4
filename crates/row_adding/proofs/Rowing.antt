-- What items give, one behind the other.
use Rattle.std.proofs.Common.{◌≡◌, ℕ, zero, suc, ◌+◌, ◌<◌, ◌≤◌, List, [], ◌∷◌, ◌++◌, length, take, drop, slice_index_or, refl, sym, ◌∙◌, ap, subst, arith, append_assoc}
use Rattle.qual_base.proofs.Lists.{take_whole}
use Rattle.flow_graph.specs.declared.constraint.Constraint.{Constraint}
use Rattle.flow_graph.specs.declared.graph.GraphFault.{GraphFault}
use Rattle.flow_graph.specs.System.{System}
use Rattle.flow_rules.specs.Adding.{with}
use Rattle.row_adding.specs.Adding.{StopsEarly}
use Rattle.row_adding.proofs.Lists.{with_append, with_none, stop_front, stop_back}

append_nil : (xs : List Constraint) → xs ++ [] ≡ xs
append_nil [] = refl
append_nil (x ∷ xs) = ap (λ (l : List Constraint). x ∷ l) (append_nil xs)

-- the rows of each of some items, where those of more are the first one's and then the others'
module _ {X : Type 0} (row : X → List Constraint) (rows : List X → List Constraint) (none : rows [] ≡ [])
    (more : (x : X) (xs : List X) → rows (x ∷ xs) ≡ row x ++ rows xs) where
  up_to : (xs : List X) (i : ℕ) (x : X) → x ≡ slice_index_or xs i x → i < length xs
      → rows (take (i + 1) xs) ≡ rows (take i xs) ++ row x
  up_to [] i x is lt = absurd (omega arith)
  up_to (y ∷ ys) zero x is lt =
      more y [] ∙ ap (λ (l : List Constraint). row y ++ l) none ∙ append_nil (row y) ∙ ap row (sym is)
      ∙ ap (λ (l : List Constraint). l ++ row x) (sym none)
  up_to (y ∷ ys) (suc i) x is lt = let e : suc i + 1 ≡ suc (i + 1) = omega arith in
      rw e (more y (take (i + 1) ys) ∙ ap (λ (l : List Constraint). row y ++ l) (up_to ys i x is (omega arith))
      ∙ sym (append_assoc (row y) (rows (take i ys)) (row x))
      ∙ ap (λ (l : List Constraint). l ++ row x) (sym (more y (take i ys))))

  whole : (xs : List X) (i : ℕ) (x : X) → x ≡ slice_index_or xs i x → i < length xs
      → (rows (take i xs) ++ row x) ++ rows (drop (i + 1) xs) ≡ rows xs
  whole [] i x is lt = absurd (omega arith)
  whole (y ∷ ys) zero x is lt =
      ap (λ (l : List Constraint). (l ++ row x) ++ rows ys) none ∙ ap (λ z. row z ++ rows ys) is ∙ sym (more y ys)
  whole (y ∷ ys) (suc i) x is lt = let e : suc i + 1 ≡ suc (i + 1) = omega arith in
      rw e (ap (λ (l : List Constraint). (l ++ row x) ++ rows (drop (i + 1) ys)) (more y (take i ys))
      ∙ ap (λ (l : List Constraint). l ++ rows (drop (i + 1) ys)) (append_assoc (row y) (rows (take i ys)) (row x))
      ∙ append_assoc (row y) (rows (take i ys) ++ row x) (rows (drop (i + 1) ys))
      ∙ ap (λ (l : List Constraint). row y ++ l) (whole ys i x is (omega arith)) ∙ sym (more y ys))

  pub none_added : (a : System) (xs : List X) → a ≡ with a (rows (take 0 xs))
  none_added a [] = with_none a ∙ ap (with a) (sym none)
  none_added a (x ∷ xs) = with_none a ∙ ap (with a) (sym none)

  pub one_added : (a b c : System) (xs : List X) (i : ℕ) (x : X) → x ≡ slice_index_or xs i x → i < length xs
      → b ≡ with a (rows (take i xs)) → c ≡ with b (row x) → c ≡ with a (rows (take (i + 1) xs))
  one_added a b c xs i x is lt before here = here ∙ ap (λ g. with g (row x)) before
      ∙ sym (with_append a (rows (take i xs)) (row x)) ∙ ap (with a) (sym (up_to xs i x is lt))

  pub all_added : (a b : System) (xs : List X) (i : ℕ) → length xs ≤ i → b ≡ with a (rows (take i xs))
      → b ≡ with a (rows xs)
  all_added a b xs i le before = before ∙ ap (λ (l : List X). with a (rows l)) (take_whole xs i le)

  pub stops_at_one : (a b c : System) (f : GraphFault) (xs : List X) (i : ℕ) (x : X) → x ≡ slice_index_or xs i x
      → i < length xs
      → b ≡ with a (rows (take i xs)) → StopsEarly b c f (row x) → StopsEarly a c f (rows xs)
  stops_at_one a b c f xs i x is lt before stop =
      subst (StopsEarly a c f) (whole xs i x is lt)
      (stop_front a c f (rows (take i xs) ++ row x) (rows (drop (i + 1) xs))
      (stop_back a b c f (rows (take i xs)) (row x) before stop))
