-- What words give at a variable, one behind the other.
use Rattle.std.proofs.Common.{◌≡◌, ℕ, zero, suc, ◌+◌, ◌<◌, ◌≤◌, List, [], ◌∷◌, ◌++◌, length, take, drop, slice_index_or, refl, sym, ◌∙◌, ap, subst, arith, append_assoc}
use Rattle.type_table.specs.Types.{Words}
use Rattle.flow_graph.specs.declared.constraint.Constraint.{Constraint}
use Rattle.flow_graph.specs.declared.graph.GraphFault.{GraphFault}
use Rattle.flow_graph.specs.System.{System}
use Rattle.flow_rules.specs.Adding.{with}
use Rattle.name_rules.specs.Spellings.{Place}
use Rattle.row_rules.specs.Worlds.{World}
use Rattle.row_rules.specs.Annotations.{Annotation, annotation_constraints, marked}
use Rattle.row_adding.specs.Adding.{StopsEarly}
use Rattle.row_adding.specs.Nodes.{word_row, words_row}
use Rattle.row_adding.proofs.Lists.{with_append, with_none, stop_front, stop_back}

append_nil : (xs : List Constraint) → xs ++ [] ≡ xs
append_nil [] = refl
append_nil (x ∷ xs) = ap (λ (l : List Constraint). x ∷ l) (append_nil xs)

module _ (w : World) where
  pub annotations_append : (xs ys : List Annotation)
      → annotation_constraints w (xs ++ ys) ≡ annotation_constraints w xs ++ annotation_constraints w ys
  annotations_append [] ys = refl
  annotations_append (x ∷ xs) ys =
      ap (λ (l : List Constraint). marked w (w.mark x.word) x ++ l) (annotations_append xs ys)
      ∙ sym (append_assoc (marked w (w.mark x.word) x) (annotation_constraints w xs) (annotation_constraints w ys))

  module _ (v : ℕ) where
    up_to : (xs : Words) (i : ℕ) (x : Place) → x ≡ slice_index_or xs i x → i < length xs
        → words_row w v (take (i + 1) xs) ≡ words_row w v (take i xs) ++ word_row w v x
    up_to [] i x is lt = absurd (omega arith)
    up_to (y ∷ ys) zero x is lt = append_nil (word_row w v y) ∙ ap (word_row w v) (sym is)
    up_to (y ∷ ys) (suc i) x is lt = let e : suc i + 1 ≡ suc (i + 1) = omega arith in
        rw e (ap (λ (l : List Constraint). word_row w v y ++ l) (up_to ys i x is (omega arith))
        ∙ sym (append_assoc (word_row w v y) (words_row w v (take i ys)) (word_row w v x)))

    whole : (xs : Words) (i : ℕ) (x : Place) → x ≡ slice_index_or xs i x → i < length xs
        → (words_row w v (take i xs) ++ word_row w v x) ++ words_row w v (drop (i + 1) xs) ≡ words_row w v xs
    whole [] i x is lt = absurd (omega arith)
    whole (y ∷ ys) zero x is lt = ap (λ z. word_row w v z ++ words_row w v ys) is
    whole (y ∷ ys) (suc i) x is lt = let e : suc i + 1 ≡ suc (i + 1) = omega arith in
        rw e (ap (λ (l : List Constraint). l ++ words_row w v (drop (i + 1) ys))
        (append_assoc (word_row w v y) (words_row w v (take i ys)) (word_row w v x))
        ∙ append_assoc (word_row w v y) (words_row w v (take i ys) ++ word_row w v x) (words_row w v (drop (i + 1) ys))
        ∙ ap (λ (l : List Constraint). word_row w v y ++ l) (whole ys i x is (omega arith)))

    all_of : (xs : Words) (i : ℕ) → length xs ≤ i → take i xs ≡ xs
    all_of [] zero le = refl
    all_of [] (suc i) le = refl
    all_of (y ∷ ys) zero le = absurd (omega arith)
    all_of (y ∷ ys) (suc i) le = ap (λ (l : Words). y ∷ l) (all_of ys i (omega arith))

    pub none_behind : (a : System) (xs : Words) → a ≡ with a (words_row w v (take 0 xs))
    none_behind a [] = with_none a
    none_behind a (x ∷ xs) = with_none a

    pub word_behind : (a b c : System) (xs : Words) (i : ℕ) (x : Place) → x ≡ slice_index_or xs i x → i < length xs
        → b ≡ with a (words_row w v (take i xs)) → c ≡ with b (word_row w v x)
        → c ≡ with a (words_row w v (take (i + 1) xs))
    word_behind a b c xs i x is lt before here = here ∙ ap (λ g. with g (word_row w v x)) before
        ∙ sym (with_append a (words_row w v (take i xs)) (word_row w v x)) ∙ ap (with a) (sym (up_to xs i x is lt))

    pub all_added : (a b : System) (xs : Words) (i : ℕ) → length xs ≤ i → b ≡ with a (words_row w v (take i xs))
        → b ≡ with a (words_row w v xs)
    all_added a b xs i le before = before ∙ ap (λ (l : Words). with a (words_row w v l)) (all_of xs i le)

    pub stops_at_word : (a b c : System) (f : GraphFault) (xs : Words) (i : ℕ) (x : Place) → x ≡ slice_index_or xs i x
        → i < length xs
        → b ≡ with a (words_row w v (take i xs)) → StopsEarly b c f (word_row w v x)
        → StopsEarly a c f (words_row w v xs)
    stops_at_word a b c f xs i x is lt before stop =
        subst (StopsEarly a c f) (whole xs i x is lt)
        (stop_front a c f (words_row w v (take i xs) ++ word_row w v x) (words_row w v (drop (i + 1) xs))
        (stop_back a b c f (words_row w v (take i xs)) (word_row w v x) before stop))
