-- The annotations of a type, node by node.
use Rattle.std.proofs.Common.{◌≡◌, ℕ, true, false, List, [], ◌∷◌, ◌++◌, refl, sym, ◌∙◌, ap, subst}
use Rattle.type_table.specs.Types.{Words, CType, base, void, struct, pointer, function, CTypes, no_types, more_types, words_of}
use Rattle.flow_graph.specs.declared.graph.GraphFault.{GraphFault}
use Rattle.flow_graph.specs.System.{System}
use Rattle.flow_rules.specs.Adding.{with}
use Rattle.qual_types.specs.Skel.{Skel, no_skels, root}
use Rattle.row_rules.specs.Worlds.{World}
use Rattle.row_rules.specs.Annotations.{annotated, annotating, annotation_constraints, annotations_at, inner, sorted, words_of_level}
use Rattle.row_adding.specs.Adding.{StopsEarly}
use Rattle.row_adding.specs.Nodes.{annotated_inside, params_row, words_at, words_row}
use Rattle.row_adding.proofs.Lists.{with_append, stop_front, stop_back}
use Rattle.row_adding.proofs.Wording.{annotations_append}

no_more : {A : Type 0} (xs : List A) → xs ++ [] ≡ xs
no_more [] = refl
no_more (x ∷ xs) = ap (λ ys. x ∷ ys) (no_more xs)

module _ (w : World) where
  alone : (v : ℕ) (xs : Words) → annotations_at v (sorted xs) ≡ annotations_at v (sorted (xs ++ [])) ++ []
  alone v xs =
      ap (λ ys. annotations_at v (sorted ys)) (sym (no_more xs)) ∙ sym (no_more (annotations_at v (sorted (xs ++ []))))

  pub annotated_is : (t : CType) (s : Skel)
      → annotated w t s ≡ annotations_at (root s) (sorted (words_at w t)) ++ annotated_inside w t s
  annotated_is (base ws) s = alone (root s) (words_of_level w false ws)
  annotated_is (void ws) s = alone (root s) (words_of_level w false ws)
  annotated_is (struct ws n) s = alone (root s) (words_of_level w false ws)
  annotated_is (pointer ws t) s = refl
  annotated_is (function ws ps r e) s =
      ap (λ ys. annotations_at (root s) (sorted ys) ++ annotated_inside w (function ws ps r e) s)
      (sym (no_more (words_of_level w false ws)))

  row_is : (t : CType) (s : Skel)
      → annotating w t s ≡ words_row w (root s) (sorted (words_at w t))
      ++ annotation_constraints w (annotated_inside w t s)
  row_is t s =
      ap (annotation_constraints w) (annotated_is t s)
      ∙ annotations_append w (annotations_at (root s) (sorted (words_at w t))) (annotated_inside w t s)

  module _ (t : CType) (s : Skel) (a b c : System) (f : GraphFault) where
    pub node_added : b ≡ with a (words_row w (root s) (sorted (words_at w t)))
        → c ≡ with b (annotation_constraints w (annotated_inside w t s))
        → c ≡ with a (annotating w t s)
    node_added first rest = rest ∙ ap (λ g. with g (annotation_constraints w (annotated_inside w t s))) first
        ∙ sym (with_append a (words_row w (root s) (sorted (words_at w t)))
        (annotation_constraints w (annotated_inside w t s)))
        ∙ ap (with a) (sym (row_is t s))

    pub stops_at_node : StopsEarly a b f (words_row w (root s) (sorted (words_at w t)))
        → StopsEarly a b f (annotating w t s)
    stops_at_node stop = subst (StopsEarly a b f) (sym (row_is t s))
        (stop_front a b f (words_row w (root s) (sorted (words_at w t)))
        (annotation_constraints w (annotated_inside w t s)) stop)

    pub stops_inside_node : b ≡ with a (words_row w (root s) (sorted (words_at w t)))
        → StopsEarly b c f (annotation_constraints w (annotated_inside w t s))
        → StopsEarly a c f (annotating w t s)
    stops_inside_node first stop = subst (StopsEarly a c f) (sym (row_is t s))
        (stop_back a b c f (words_row w (root s) (sorted (words_at w t)))
        (annotation_constraints w (annotated_inside w t s)) first stop)

  place_is : (t : CType) (s : Skel) → annotating w (pointer [] t) s
      ≡ words_row w (root s) (sorted (words_of_level w true (words_of t))) ++ annotating w t (inner s)
  place_is t s =
      annotations_append w (annotations_at (root s) (sorted (words_of_level w true (words_of t))))
      (annotated w t (inner s))

  module _ (t : CType) (s u : Skel) (v : ℕ) (a b c : System) (f : GraphFault) where
    place_at : v ≡ root s → u ≡ inner s
        → words_row w v (sorted (words_of_level w true (words_of t)))
        ++ annotating w t u ≡ annotating w (pointer [] t) s
    place_at at inside = ap (λ n. words_row w n (sorted (words_of_level w true (words_of t))) ++ annotating w t u) at
        ∙ ap (λ x. words_row w (root s) (sorted (words_of_level w true (words_of t))) ++ annotating w t x) inside
        ∙ sym (place_is t s)

    pub place_added : v ≡ root s → u ≡ inner s
        → b ≡ with a (words_row w v (sorted (words_of_level w true (words_of t))))
        → c ≡ with b (annotating w t u) → c ≡ with a (annotating w (pointer [] t) s)
    place_added at inside first rest = rest ∙ ap (λ g. with g (annotating w t u)) first
        ∙ sym (with_append a (words_row w v (sorted (words_of_level w true (words_of t)))) (annotating w t u))
        ∙ ap (with a) (place_at at inside)

    pub stops_at_place : v ≡ root s → u ≡ inner s
        → StopsEarly a b f (words_row w v (sorted (words_of_level w true (words_of t))))
        → StopsEarly a b f (annotating w (pointer [] t) s)
    stops_at_place at inside stop = subst (StopsEarly a b f) (place_at at inside)
        (stop_front a b f (words_row w v (sorted (words_of_level w true (words_of t)))) (annotating w t u) stop)

    pub stops_inside_place : v ≡ root s → u ≡ inner s
        → b ≡ with a (words_row w v (sorted (words_of_level w true (words_of t))))
        → StopsEarly b c f (annotating w t u) → StopsEarly a c f (annotating w (pointer [] t) s)
    stops_inside_place at inside first stop = subst (StopsEarly a c f) (place_at at inside)
        (stop_back a b c f (words_row w v (sorted (words_of_level w true (words_of t)))) (annotating w t u) first stop)

  pub none_of_no_skels : (ps : CTypes) → [] ≡ params_row w ps no_skels
  none_of_no_skels no_types = refl
  none_of_no_skels (more_types t ts) = refl
