-- The function that a world says is around is of no use to index words.
use Rattle.std.proofs.Common.{◌≡◌, ℕ, List, [], ◌∷◌, ◌++◌, Option, None, Some, refl, ◌∙◌, ap}
use Rattle.std.specs.Prelude.{if◌then◌else◌}
use Rattle.flow_graph.specs.declared.constraint.Link.TheVariants.{Le}
use Rattle.flow_graph.specs.declared.constraint.Constraint.{Constraint}
use Rattle.type_table.specs.Types.{Words, CType, base, void, struct, pointer, function, CTypes, no_types, more_types, words_or_none}
use Rattle.qual_types.specs.Skel.{Skel, Skels, no_skels, more_skels, root}
use Rattle.row_rules.specs.Worlds.{World, constraint, word_span}
use Rattle.row_rules.specs.Annotations.{further, inner, outcome, parameters, sorted}
use Rattle.row_rules.specs.Indexing.{Indexed, has_some, index_words, union_of, indexed_by, indexed_at, some_indexed_at, indexed, indexed_params, value_lattices, is_below, below_each, below_all, indexing}

module _ (w : World) (o : Option Skel) where
  abbrev around : World
  around = record w { own = o }

  words_alike : (ps : Words) → index_words around ps ≡ index_words w ps
  words_alike [] = refl
  words_alike (p ∷ ps) = ap (λ (qs : Words). if has_some (w.index p) then p ∷ qs else qs) (words_alike ps)

  union_alike : (ps : Words) → union_of around ps ≡ union_of w ps
  union_alike [] = refl
  union_alike (p ∷ ps) = ap (λ ns. w.index p ++ ns) (union_alike ps)

  by_alike : (v : ℕ) (ps : Words) → indexed_by around v ps ≡ indexed_by w v ps
  by_alike v [] = refl
  by_alike v (p ∷ ps) = ap (λ ns. record { variable = v; word = p; set = ns } ∷ []) (union_alike (p ∷ ps))

  at_alike : (v : ℕ) (ps : Words) → indexed_at around v ps ≡ indexed_at w v ps
  at_alike v ps = by_alike v (sorted (index_words around ps))
      ∙ ap (λ (qs : Words). indexed_by w v (sorted qs)) (words_alike ps)

  some_alike : (v : Option ℕ) (ps : Words) → some_indexed_at around v ps ≡ some_indexed_at w v ps
  some_alike None ps = refl
  some_alike (Some v) ps = at_alike v ps

  both_alike : (xs ys us vs : List Indexed) → xs ≡ us → ys ≡ vs → xs ++ ys ≡ us ++ vs
  both_alike xs ys us vs one other = ap (λ zs. zs ++ ys) one ∙ ap (λ zs. us ++ zs) other

  mutual
    nodes_alike : (t : CType) (s : Skel) → indexed around t s ≡ indexed w t s
    nodes_alike (base ws) s = at_alike (root s) ws
    nodes_alike (void ws) s = at_alike (root s) ws
    nodes_alike (struct ws n) s = at_alike (root s) ws
    nodes_alike (pointer ws t) s = both_alike _ _ _ _ (at_alike (root s) ws) (nodes_alike t (inner s))
    nodes_alike (function ws ps r e) s =
        both_alike _ _ _ _ (at_alike (root s) ws) (both_alike _ _ _ _ (params_alike ps (parameters s))
        (both_alike _ _ _ _ (nodes_alike r (outcome s)) (some_alike (further s) (words_or_none e))))

    params_alike : (ts : CTypes) (ss : Skels) → indexed_params around ts ss ≡ indexed_params w ts ss
    params_alike no_types ss = refl
    params_alike (more_types t ts) no_skels = refl
    params_alike (more_types t ts) (more_skels s ss) = both_alike _ _ _ _ (nodes_alike t s) (params_alike ts ss)

  each_alike : (it : Indexed) (others : List Indexed) → below_each around it others ≡ below_each w it others
  each_alike it [] = refl
  each_alike it (other ∷ others) =
      ap (λ (cs : List Constraint). (if is_below it other then constraint (value_lattices w) (word_span it.word)
      (Le it.variable other.variable) ∷ [] else []) ++ cs) (each_alike it others)

  all_alike : (its all : List Indexed) → below_all around its all ≡ below_all w its all
  all_alike [] all = refl
  all_alike (it ∷ its) all =
      ap (λ (cs : List Constraint). cs ++ below_all around its all) (each_alike it all)
      ∙ ap (λ (cs : List Constraint). below_each w it all ++ cs) (all_alike its all)

  -- what a declared name gives by its index words is the same
  pub indexing_alike : (t : CType) (s : Skel) → indexing (record w { own = o }) t s ≡ indexing w t s
  indexing_alike t s = all_alike (indexed around t s) (indexed around t s)
      ∙ ap (λ (all : List Indexed). below_all w all all) (nodes_alike t s)
