-- What the index words of a declared name give stays in its skeleton.
use Rattle.std.proofs.Common.{ℕ, Bool, true, false, List, [], ◌∷◌, ◌++◌, Option, None, Some}
use Rattle.std.specs.Prelude.{if◌then◌else◌}
use Rattle.qual_base.specs.declared.places.Owner.{Owner}
use Rattle.flow_graph.specs.declared.constraint.Link.TheVariants.{Le}
use Rattle.flow_graph.specs.System.{System, owner_of}
use Rattle.type_table.specs.Types.{Words, CType, base, void, struct, pointer, function, CTypes, no_types, more_types, words_or_none}
use Rattle.qual_types.specs.Skel.{Skel, flat, ref, fun, Skels, no_skels, more_skels, root, nodes, all_nodes, of_some}
use Rattle.flow_rules.specs.Owners.{IsIn, AllIn}
use Rattle.row_rules.specs.Worlds.{World, constraint, word_span}
use Rattle.row_rules.specs.Annotations.{further, inner, outcome, parameters, sorted}
use Rattle.row_rules.specs.Indexing.{Indexed, index_words, indexed_by, indexed_at, some_indexed_at, indexed, indexed_params, value_lattices, is_below, below_each, below_all, indexing}
use Rattle.owned_laws.specs.OwnerLaws.Fitting.{AllFit}
use Rattle.owned_laws.proofs.OwnerLaws.Fitting.{lists_fit, front, back}

module _ (own : ℕ → Owner) (owner : Owner) where
  -- parts of skeletons

  pub root_in : (s : Skel) → AllIn own owner (nodes s) → IsIn own owner (root s)
  root_in (flat v k) h = h.0
  root_in (ref v s) h = h.0
  root_in (fun v ps r e) h = h.0

  inner_in : (s : Skel) → AllIn own owner (nodes s) → AllIn own owner (nodes (inner s))
  inner_in (flat v k) h = h
  inner_in (ref v s) h = h.1
  inner_in (fun v ps r e) h = h

  parameters_in : (s : Skel) → AllIn own owner (nodes s) → AllIn own owner (all_nodes (parameters s))
  parameters_in (flat v k) h = tt
  parameters_in (ref v s) h = tt
  parameters_in (fun v ps r e) h = front own owner (all_nodes ps) (nodes r ++ of_some e) h.1

  outcome_in : (s : Skel) → AllIn own owner (nodes s) → AllIn own owner (nodes (outcome s))
  outcome_in (flat v k) h = h
  outcome_in (ref v s) h = h
  outcome_in (fun v ps r e) h =
      front own owner (nodes r) (of_some e) (back own owner (all_nodes ps) (nodes r ++ of_some e) h.1)

  further_in : (s : Skel) → AllIn own owner (nodes s) → AllIn own owner (of_some (further s))
  further_in (flat v k) h = tt
  further_in (ref v s) h = tt
  further_in (fun v ps r e) h =
      back own owner (nodes r) (of_some e) (back own owner (all_nodes ps) (nodes r ++ of_some e) h.1)

  -- nodes with index words

  abbrev AreIn : List Indexed → Type 0
  AreIn [] = Unit {0}
  AreIn (it ∷ its) = IsIn own owner it.variable × AreIn its

  both_in : (xs ys : List Indexed) → AreIn xs → AreIn ys → AreIn (xs ++ ys)
  both_in [] ys h k = k
  both_in (x ∷ xs) ys h k = (h.0, both_in xs ys h.1 k)

  module _ (w : World) where
    by_in : (v : ℕ) (ps : Words) → IsIn own owner v → AreIn (indexed_by w v ps)
    by_in v [] h = tt
    by_in v (p ∷ ps) h = (h, tt)

    at_in : (v : ℕ) (ps : Words) → IsIn own owner v → AreIn (indexed_at w v ps)
    at_in v ps h = by_in v (sorted (index_words w ps)) h

    some_in : (v : Option ℕ) (ps : Words) → AllIn own owner (of_some v) → AreIn (some_indexed_at w v ps)
    some_in None ps h = tt
    some_in (Some v) ps h = at_in v ps h.0

    mutual
      nodes_in : (t : CType) (s : Skel) → AllIn own owner (nodes s) → AreIn (indexed w t s)
      nodes_in (base ws) s h = at_in (root s) ws (root_in s h)
      nodes_in (void ws) s h = at_in (root s) ws (root_in s h)
      nodes_in (struct ws n) s h = at_in (root s) ws (root_in s h)
      nodes_in (pointer ws t) s h =
          both_in (indexed_at w (root s) ws) (indexed w t (inner s)) (at_in (root s) ws (root_in s h))
          (nodes_in t (inner s) (inner_in s h))
      nodes_in (function ws ps r e) s h =
          let back = indexed w r (outcome s) in
          let last = some_indexed_at w (further s) (words_or_none e) in
          both_in (indexed_at w (root s) ws) (indexed_params w ps (parameters s) ++ (back ++ last))
          (at_in (root s) ws (root_in s h))
          (both_in (indexed_params w ps (parameters s)) (back ++ last) (params_in ps (parameters s) (parameters_in s h))
          (both_in back last (nodes_in r (outcome s) (outcome_in s h))
          (some_in (further s) (words_or_none e) (further_in s h))))

      params_in : (ts : CTypes) (ss : Skels) → AllIn own owner (all_nodes ss) → AreIn (indexed_params w ts ss)
      params_in no_types ss h = tt
      params_in (more_types t ts) no_skels h = tt
      params_in (more_types t ts) (more_skels s ss) h =
          both_in (indexed w t s) (indexed_params w ts ss) (nodes_in t s (front own owner (nodes s) (all_nodes ss) h))
          (params_in ts ss (back own owner (nodes s) (all_nodes ss) h))

module _ (sys : System) (owner : Owner) (w : World) where
  -- nodes below each other

  one_fits : (it other : Indexed) → IsIn (owner_of sys) owner it.variable → IsIn (owner_of sys) owner other.variable →
      (b : Bool) → AllFit sys (if b then constraint (value_lattices w) (word_span it.word)
      (Le it.variable other.variable) ∷ [] else [])
  one_fits it other h k true = (record { owner = owner; from = h; to = k }, tt)
  one_fits it other h k false = tt

  each_fits : (it : Indexed) (others : List Indexed) → IsIn (owner_of sys) owner it.variable →
      AreIn (owner_of sys) owner others → AllFit sys (below_each w it others)
  each_fits it [] h k = tt
  each_fits it (other ∷ others) h k =
      lists_fit sys _ (below_each w it others) (one_fits it other h k.0 (is_below it other)) (each_fits it others h k.1)

  all_fit : (its all : List Indexed) → AreIn (owner_of sys) owner its → AreIn (owner_of sys) owner all →
      AllFit sys (below_all w its all)
  all_fit [] all h k = tt
  all_fit (it ∷ its) all h k =
      lists_fit sys (below_each w it all) (below_all w its all) (each_fits it all h.0 k) (all_fit its all h.1 k)

  pub indexing_fits : (t : CType) (s : Skel) → AllIn (owner_of sys) owner (nodes s) → AllFit sys (indexing w t s)
  indexing_fits t s h =
      let all = nodes_in (owner_of sys) owner w t s h in all_fit (indexed w t s) (indexed w t s) all all
