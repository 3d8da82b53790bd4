-- What annotation words give is the same whatever stands behind the skeletons of a world.
use Rattle.std.proofs.Common.{◌≡◌, ℕ, suc, ◌+◌, Bool, true, false, List, [], ◌∷◌, ◌++◌, Option, None, Some, refl, ap, ◌∙◌}
use Rattle.std.specs.Prelude.{◌||◌, ◌^◌, if◌then◌else◌}
use Rattle.lattice_core.specs.View.{LatticeView}
use Rattle.flow_graph.specs.declared.constraint.Constraint.{Constraint}
use Rattle.type_table.specs.Types.{Words, CType, base, void, struct, pointer, function, CTypes, no_types, more_types, words_of, words_or_none}
use Rattle.qual_types.specs.Skel.{Skel, Skels, no_skels, more_skels, root}
use Rattle.row_rules.specs.Annotations.{Annotation, all_words, annotated, annotated_params, annotating, annotation_constraints, annotations_at, further, inner, is_reference_mark, is_reference_word, marked, names_lattice, outcome, parameters, sorted, uncut, uncut_from, words_of_level}
use Rattle.row_rules.specs.Indexing.{Indexed, below_all, below_each, has_some, index_words, indexed, indexed_at, indexed_by, indexed_params, indexing, some_indexed_at, union_of}
use Rattle.row_rules.specs.Worlds.{World}
use Rattle.missing_laws.proofs.Found.{Further, world}

pub ap2 : {A B C : Type 0} (f : A → B → C) (x y : A) (u v : B) → x ≡ y → u ≡ v → f x u ≡ f y v
ap2 f x y u v p q = ap (λ a. f a u) p ∙ ap (f y) q

pub joined : (xs ys us vs : List Constraint) → xs ≡ ys → us ≡ vs → xs ++ us ≡ ys ++ vs
joined xs ys us vs p q = ap2 (λ (a b : List Constraint). a ++ b) xs ys us vs p q

-- two choices by equal tests between equal values are equal
if_same : {A : Type 0} (b c : Bool) (x y u v : A) → b ≡ c → x ≡ y → u ≡ v →
    (if b then x else u) ≡ (if c then y else v)
if_same true true x y u v e p q = p
if_same false false x y u v e p q = q
if_same true false x y u v e p q = absurd cc
if_same false true x y u v e p q = absurd cc

module _ (w : World) (k l : Further) where
  abbrev wk : World
  wk = world w k

  abbrev wl : World
  wl = world w l

  mark_is : (o : Option (ℕ × ℕ)) → is_reference_mark wk o ≡ is_reference_mark wl o
  mark_is None = refl
  mark_is (Some m) = refl

  level_is : (b : Bool) (ps : Words) → words_of_level wk b ps ≡ words_of_level wl b ps
  level_is true [] = refl
  level_is false [] = refl
  level_is true (p ∷ ps) = if_same (is_reference_word wk p) (is_reference_word wl p) _ _ _ _ (mark_is (w.mark p))
      (ap (λ (qs : Words). p ∷ qs) (level_is true ps)) (level_is true ps)
  level_is false (p ∷ ps) = if_same (is_reference_word wk p) (is_reference_word wl p) _ _ _ _ (mark_is (w.mark p))
      (level_is false ps) (ap (λ (qs : Words). p ∷ qs) (level_is false ps))

  values_is : (s : Skel) (ws : Words) →
      annotations_at (root s) (sorted (words_of_level wk false ws))
      ≡ annotations_at (root s) (sorted (words_of_level wl false ws))
  values_is s ws = ap (λ qs. annotations_at (root s) (sorted qs)) (level_is false ws)

  both : (xs ys us vs : List Annotation) → xs ≡ ys → us ≡ vs → xs ++ us ≡ ys ++ vs
  both xs ys us vs p q = ap2 (λ (a b : List Annotation). a ++ b) xs ys us vs p q

  mutual
    annotated_is : (t : CType) (s : Skel) → annotated wk t s ≡ annotated wl t s
    annotated_is (base ws) s = values_is s ws
    annotated_is (void ws) s = values_is s ws
    annotated_is (struct ws n) s = values_is s ws
    annotated_is (pointer ws t) s = both _ _ _ _
        (ap2 (λ (xs ys : Words). annotations_at (root s) (sorted (xs ++ ys))) _ _ _ _ (level_is false ws)
        (level_is true (words_of t))) (annotated_is t (inner s))
    annotated_is (function ws ps r e) s = both _ _ _ _ (values_is s ws) (both _ _ _ _
        (params_is ps (parameters s)) (both _ _ _ _ (annotated_is r (outcome s)) refl))

    params_is : (ts : CTypes) (ss : Skels) → annotated_params wk ts ss ≡ annotated_params wl ts ss
    params_is no_types ss = refl
    params_is (more_types t ts) no_skels = refl
    params_is (more_types t ts) (more_skels s ss) = both _ _ _ _ (annotated_is t s) (params_is ts ss)

  marked_is : (o : Option (ℕ × ℕ)) (a : Annotation) → marked wk o a ≡ marked wl o a
  marked_is None a = refl
  marked_is (Some m) a = refl

  links_is : (it : List Annotation) → annotation_constraints wk it ≡ annotation_constraints wl it
  links_is [] = refl
  links_is (a ∷ it) = joined _ _ _ _ (marked_is (w.mark a.word) a) (links_is it)

  pub annotating_is : (t : CType) (s : Skel) → annotating wk t s ≡ annotating wl t s
  annotating_is t s = ap (annotation_constraints wk) (annotated_is t s) ∙ links_is (annotated wl t s)

  -- index words

  words_is : (ps : Words) → index_words wk ps ≡ index_words wl ps
  words_is [] = refl
  words_is (p ∷ ps) = if_same (has_some (w.index p)) (has_some (w.index p)) _ _ _ _ refl
      (ap (λ (qs : Words). p ∷ qs) (words_is ps)) (words_is ps)

  union_is : (ps : Words) → union_of wk ps ≡ union_of wl ps
  union_is [] = refl
  union_is (p ∷ ps) = ap (λ (ms : List ℕ). w.index p ++ ms) (union_is ps)

  by_is : (v : ℕ) (ps : Words) → indexed_by wk v ps ≡ indexed_by wl v ps
  by_is v [] = refl
  by_is v (p ∷ ps) = ap (λ (set : List ℕ). record { variable = v; word = p; set = set } ∷ []) (union_is (p ∷ ps))

  at_is : (v : ℕ) (ps : Words) → indexed_at wk v ps ≡ indexed_at wl v ps
  at_is v ps = ap (λ qs. indexed_by wk v (sorted qs)) (words_is ps) ∙ by_is v (sorted (index_words wl ps))

  some_is : (v : Option ℕ) (ps : Words) → some_indexed_at wk v ps ≡ some_indexed_at wl v ps
  some_is None ps = refl
  some_is (Some v) ps = at_is v ps

  lists : (xs ys us vs : List Indexed) → xs ≡ ys → us ≡ vs → xs ++ us ≡ ys ++ vs
  lists xs ys us vs p q = ap2 (λ (a b : List Indexed). a ++ b) xs ys us vs p q

  mutual
    indexed_is : (t : CType) (s : Skel) → indexed wk t s ≡ indexed wl t s
    indexed_is (base ws) s = at_is (root s) ws
    indexed_is (void ws) s = at_is (root s) ws
    indexed_is (struct ws n) s = at_is (root s) ws
    indexed_is (pointer ws t) s = lists _ _ _ _ (at_is (root s) ws) (indexed_is t (inner s))
    indexed_is (function ws ps r e) s = lists _ _ _ _ (at_is (root s) ws) (lists _ _ _ _ (each_is ps (parameters s))
        (lists _ _ _ _ (indexed_is r (outcome s)) (some_is (further s) (words_or_none e))))

    each_is : (ts : CTypes) (ss : Skels) → indexed_params wk ts ss ≡ indexed_params wl ts ss
    each_is no_types ss = refl
    each_is (more_types t ts) no_skels = refl
    each_is (more_types t ts) (more_skels s ss) = lists _ _ _ _ (indexed_is t s) (each_is ts ss)

  below_is : (it : Indexed) (others : List Indexed) → below_each wk it others ≡ below_each wl it others
  below_is it [] = refl
  below_is it (other ∷ others) = joined _ _ _ _ refl (below_is it others)

  all_is : (its all : List Indexed) → below_all wk its all ≡ below_all wl its all
  all_is [] all = refl
  all_is (it ∷ its) all = joined _ _ _ _ (below_is it all) (all_is its all)

  pub indexing_is : (t : CType) (s : Skel) → indexing wk t s ≡ indexing wl t s
  indexing_is t s = ap (λ (its : List Indexed). below_all wk its its) (indexed_is t s)
      ∙ all_is (indexed wl t s) (indexed wl t s)

  -- the lattices of which no word is written

  named_is : (lattice : ℕ) (ps : Words) → names_lattice wk lattice ps ≡ names_lattice wl lattice ps
  named_is lattice [] = refl
  named_is lattice (p ∷ ps) = ap2 (λ (a b : Bool). a || b) _ _ _ _ refl (named_is lattice ps)

  left_is : (ps : Words) (n : ℕ) (views : List LatticeView) → uncut_from wk ps n views ≡ uncut_from wl ps n views
  left_is ps n [] = refl
  left_is ps n (view ∷ views) = ap2 (λ (a b : ℕ). a + b) _ _ _ _
      (if_same (names_lattice wk n ps) (names_lattice wl n ps) 0 0 (2 ^ n) (2 ^ n) (named_is n ps) refl refl)
      (left_is ps (suc n) views)

  pub uncut_is : (t : CType) → uncut wk t ≡ uncut wl t
  uncut_is t = left_is (all_words t) 0 w.lattices
