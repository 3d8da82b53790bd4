-- The constraints of each form stand at good spans, where its own span and the words of its types are such.
use Rattle.std.proofs.Common.{ℕ, suc, Bool, true, false, List, [], ◌∷◌, ◌++◌, Option, None, Some}
use Rattle.std.specs.Prelude.{◌&&◌, ◌||◌, ◌^◌, nat_eq, if◌then◌else◌}
use Rattle.c_words.specs.declared.kinds.Punct.{Punct}
use Rattle.c_words.specs.declared.kinds.Punct.TheVariants as signs
use Rattle.qual_base.specs.declared.places.Span.{Span}
use Rattle.lattice_core.specs.declared.Entry.{Entry}
use Rattle.lattice_core.specs.View.{LatticeView}
use Rattle.flow_graph.specs.declared.constraint.Link.{Link}
use Rattle.flow_graph.specs.declared.constraint.Link.TheVariants.{Bound, Le}
use Rattle.flow_graph.specs.declared.constraint.Constraint.{Constraint}
use Rattle.qual_types.specs.declared.look.Kind.TheVariants as kinds
use Rattle.qual_types.specs.Skel.{Skel, Skels, flat, ref, fun, no_skels, more_skels, root, param_at}
use Rattle.flow_rules.specs.declared.arrow.Arrow.TheVariants.{Flow}
use Rattle.flow_rules.specs.Lists.{flow, smash, unsmash, equal, cross}
use Rattle.type_table.specs.Types.{Words, CType, base, void, struct, pointer, function, CTypes, no_types, more_types, words_of, words_or_none}
use Rattle.name_rules.specs.Spellings.{Place}
use Rattle.name_rules.specs.Scopes.{Role, typedef_role, object_role, function_role, parameter_role, field_role, enumerator_role, Declared, declared_at, Use, means, called, missing, is_place, Aggregate, Own}
use Rattle.name_rules.specs.Values.{is_additive, own_of}
use Rattle.row_rules.specs.Starting.{is_some_function}
use Rattle.row_rules.specs.Forming.{Ways, ways_in, in_some, pointing, into_member, into_members, formed_in, all_formed_in, formed}
use Rattle.row_rules.specs.Worlds.{World, Numbered, skeleton_among, all_lattices, at, constraint, constraints, site_number, skeleton, span, word_span}
use Rattle.row_rules.specs.Annotations.{Annotation, entry_at, is_reference_word, words_of_level, is_earlier, inserted, sorted, annotations_at, some_annotations_at, inner, outcome, further, links_of_entry, alone, marked, annotation_constraints, annotated, annotated_params, annotating, bounds_of, bounds_from, write_bounds, derefs_where, deref_bounds, access_lattices, uncut, parameters}
use Rattle.row_rules.specs.Indexing.{Indexed, has_some, index_words, indexed_by, indexed_at, some_indexed_at, indexed, indexed_params, value_lattices, is_below, below_each, below_all, indexing}
use Rattle.row_rules.specs.Vals.{Val, contents, is_empty, is_fun, is_nothing, is_ref, own, result, value, Candidate, is_vector_index}
use Rattle.row_rules.specs.Rows.{flowing, dereferenced, is_plus_or_minus, assigned, is_logical, computed, branched, chosen, picking, picked, index_demand, carrying, carried, prefixed, passed, formed_here, crossed, instance, some_instance, use_demand, annotating_some, annotating_place, casting, cast_demand, annotating_name, formed_name, plain_name_row, plain_param_row, equal_to, tied_to, name_row, declared_row, some_declared_row, into_param, param_row, RowKind, no_row, row_of_name, row_of_param, row_at, returned, started, taken}
use Rattle.token_laws.proofs.Types.{AllWords, Ok, Oks, SomeOk, words_append, words_are, DeclaredOk, SomeDeclaredOk, declared_there}

-- constraints that all stand at good spans
module _ (S : Span → Type 0) where
  abbrev pub Stand : List Constraint → Type 0
  Stand [] = Unit {0}
  Stand (c ∷ cs) = S c.span × Stand cs

  pub lists_stand : (cs ds : List Constraint) → Stand cs → Stand ds → Stand (cs ++ ds)
  lists_stand [] ds h k = k
  lists_stand (c ∷ cs) ds h k = (h.0, lists_stand cs ds h.1 k)

  pub none_where : (b : Bool) (cs : List Constraint) → Stand cs → Stand (if b then [] else cs)
  none_where true cs h = tt
  none_where false cs h = h

  some_where : (b : Bool) (cs : List Constraint) → Stand cs → Stand (if b then cs else [])
  some_where true cs h = h
  some_where false cs h = tt

  links_stand : (mask : ℕ) (where_ : Span) (links : List Link) → S where_ → Stand (constraints mask where_ links)
  links_stand mask where_ [] is = tt
  links_stand mask where_ (link ∷ links) is = (is, links_stand mask where_ links is)

  alone_stand : (m : ℕ × ℕ) (where_ : Span) (links : List Link) → S where_ → Stand (alone m where_ links)
  alone_stand m where_ [] is = tt
  alone_stand m where_ (link ∷ links) is = (is, alone_stand m where_ links is)

  -- a place is good where the span of its token is
  abbrev pub AtWord : Place → Type 0
  AtWord p = S (word_span p)

module _ (S : Span → Type 0) (w : World) where
  bounds_stand : (has : Entry → Bool) (v : ℕ) (where_ : Span) (lattice n : ℕ) (entries : List Entry) → S where_ →
      Stand S (bounds_of has v where_ lattice n entries)
  bounds_stand has v where_ lattice n [] is = tt
  bounds_stand has v where_ lattice n (entry ∷ entries) is =
      lists_stand S (if has entry then constraint (2 ^ lattice) where_ (Bound v lattice n) ∷ [] else [])
      (bounds_of has v where_ lattice (suc n) entries) (some_where S (has entry) _ (is, tt))
      (bounds_stand has v where_ lattice (suc n) entries is)

  views_stand : (has : Entry → Bool) (v : ℕ) (where_ : Span) (n : ℕ) (views : List LatticeView) → S where_ →
      Stand S (bounds_from has v where_ n views)
  views_stand has v where_ n [] is = tt
  views_stand has v where_ n (view ∷ views) is =
      lists_stand S (bounds_of has v where_ n 0 view.entries) (bounds_from has v where_ (suc n) views)
      (bounds_stand has v where_ n 0 view.entries is) (views_stand has v where_ (suc n) views is)

  pub writes_stand : (v : ℕ) (where_ : Span) → S where_ → Stand S (write_bounds w v where_)
  writes_stand v where_ is = views_stand (λ entry. entry.write) v where_ 0 w.lattices is

  pub dereferenced_stand : (s : Skel) (aims : Bool) (where_ : Span) → S where_ → Stand S (dereferenced w s aims where_)
  dereferenced_stand s aims where_ is =
      none_where S (is_fun (contents s)) (deref_bounds w (root s) aims where_)
      (views_stand (λ entry. derefs_where aims entry.deref) (root s) where_ 0 w.lattices is)

  pub index_stand : (a b : Skel) (aims : Bool) (where_ : Span) → S where_ → Stand S (index_demand w a b aims where_)
  index_stand a b aims where_ is =
      none_where S (is_vector_index w.spelling.wide a b) _
      (dereferenced_stand (if is_ref a then a else b) aims where_ is)

  -- words of types

  level_words : (is_ref_level : Bool) (ws : Words) → AllWords (AtWord S) ws
      → AllWords (AtWord S) (words_of_level w is_ref_level ws)
  level_words true [] h = tt
  level_words false [] h = tt
  level_words true (p ∷ ps) h = by (is_reference_word w p) (level_words true ps h.1)
    where
      by : (b : Bool) → AllWords (AtWord S) (words_of_level w true ps) →
          AllWords (AtWord S) (if b then p ∷ words_of_level w true ps else words_of_level w true ps)
      by true rest = (h.0, rest)
      by false rest = rest
  level_words false (p ∷ ps) h = by (is_reference_word w p) (level_words false ps h.1)
    where
      by : (b : Bool) → AllWords (AtWord S) (words_of_level w false ps) →
          AllWords (AtWord S) (if b then words_of_level w false ps else p ∷ words_of_level w false ps)
      by true rest = rest
      by false rest = (h.0, rest)

  inserted_words : (p : Place) (ws : Words) → AtWord S p → AllWords (AtWord S) ws → AllWords (AtWord S) (inserted p ws)
  inserted_words p [] is h = (is, tt)
  inserted_words p (q ∷ ps) is h = by (is_earlier p q) (inserted_words p ps is h.1)
    where
      by : (b : Bool) → AllWords (AtWord S) (inserted p ps) →
          AllWords (AtWord S) (if b then p ∷ q ∷ ps else q ∷ inserted p ps)
      by true rest = (is, h)
      by false rest = (h.0, rest)

  sorted_words : (ws : Words) → AllWords (AtWord S) ws → AllWords (AtWord S) (sorted ws)
  sorted_words [] h = tt
  sorted_words (p ∷ ps) h = inserted_words p (sorted ps) h.0 (sorted_words ps h.1)

  values_sorted : (ws : Words) → AllWords (AtWord S) ws → AllWords (AtWord S) (sorted (words_of_level w false ws))
  values_sorted ws h = sorted_words (words_of_level w false ws) (level_words false ws h)

  -- annotation words

  abbrev Noted : List Annotation → Type 0
  Noted [] = Unit {0}
  Noted (a ∷ others) = AtWord S a.word × Noted others

  noted_append : (xs ys : List Annotation) → Noted xs → Noted ys → Noted (xs ++ ys)
  noted_append [] ys h i = i
  noted_append (a ∷ xs) ys h i = (h.0, noted_append xs ys h.1 i)

  noted_at : (v : ℕ) (ws : Words) → AllWords (AtWord S) ws → Noted (annotations_at v ws)
  noted_at v [] h = tt
  noted_at v (p ∷ ps) h = (h.0, noted_at v ps h.1)

  some_noted : (v : Option ℕ) (ws : Words) → AllWords (AtWord S) ws → Noted (some_annotations_at v ws)
  some_noted None ws h = tt
  some_noted (Some v) ws h = noted_at v ws h

  mutual
    noted : (t : CType) (s : Skel) → Ok (AtWord S) t → Noted (annotated w t s)
    noted (base ws) s h = noted_at (root s) (sorted (words_of_level w false ws)) (values_sorted ws h)
    noted (void ws) s h = noted_at (root s) (sorted (words_of_level w false ws)) (values_sorted ws h)
    noted (struct ws n) s h = noted_at (root s) (sorted (words_of_level w false ws)) (values_sorted ws h)
    noted (pointer ws t) s h =
        let own = words_of_level w false ws in let inside = words_of_level w true (words_of t) in
        noted_append (annotations_at (root s) (sorted (own ++ inside))) (annotated w t (inner s))
        (noted_at (root s) (sorted (own ++ inside)) (sorted_words (own ++ inside) (words_append (AtWord S) own inside
        (level_words false ws h.0) (level_words true (words_of t) (words_are (AtWord S) t h.1)))))
        (noted t (inner s) h.1)
    noted (function ws ps r e) s h =
        let more = some_annotations_at (further s) (sorted (words_or_none e)) in
        noted_append (annotations_at (root s) (sorted (words_of_level w false ws)))
        (annotated_params w ps (parameters s) ++ (annotated w r (outcome s) ++ more))
        (noted_at (root s) (sorted (words_of_level w false ws)) (values_sorted ws h.0))
        (noted_append (annotated_params w ps (parameters s)) (annotated w r (outcome s) ++ more)
        (noted_params ps (parameters s) h.1)
        (noted_append (annotated w r (outcome s)) more (noted r (outcome s) h.2)
        (some_noted (further s) (sorted (words_or_none e)) (sorted_words (words_or_none e) h.3))))

    noted_params : (ts : CTypes) (ss : Skels) → Oks (AtWord S) ts → Noted (annotated_params w ts ss)
    noted_params no_types ss h = tt
    noted_params (more_types t ts) no_skels h = tt
    noted_params (more_types t ts) (more_skels s ss) h =
        noted_append (annotated w t s) (annotated_params w ts ss) (noted t s h.0) (noted_params ts ss h.1)

  marked_stand : (m : Option (ℕ × ℕ)) (a : Annotation) → AtWord S a.word → Stand S (marked w m a)
  marked_stand None a is = tt
  marked_stand (Some m) a is = alone_stand S m (word_span a.word) (links_of_entry (entry_at w m) m a.variable) is

  annotations_stand : (annotations : List Annotation) → Noted annotations
      → Stand S (annotation_constraints w annotations)
  annotations_stand [] h = tt
  annotations_stand (a ∷ others) h =
      lists_stand S (marked w (w.mark a.word) a) (annotation_constraints w others)
      (marked_stand (w.mark a.word) a h.0) (annotations_stand others h.1)

  annotating_stand : (t : CType) (s : Skel) → Ok (AtWord S) t → Stand S (annotating w t s)
  annotating_stand t s h = annotations_stand (annotated w t s) (noted t s h)

  pub annotating_some_stand : (t : Option CType) (s : Skel) → SomeOk (AtWord S) t → Stand S (annotating_some w t s)
  annotating_some_stand None s h = tt
  annotating_some_stand (Some t) s h = annotating_stand t s h

  pub annotating_place_stand : (t : Option CType) (s : Skel) → SomeOk (AtWord S) t → Stand S (annotating_place w t s)
  annotating_place_stand None s h = tt
  annotating_place_stand (Some t) s h = annotating_stand (pointer [] t) s (tt, h)

  -- index words

  abbrev Indices : List Indexed → Type 0
  Indices [] = Unit {0}
  Indices (it ∷ others) = AtWord S it.word × Indices others

  indices_append : (xs ys : List Indexed) → Indices xs → Indices ys → Indices (xs ++ ys)
  indices_append [] ys h i = i
  indices_append (a ∷ xs) ys h i = (h.0, indices_append xs ys h.1 i)

  index_kept : (ws : Words) → AllWords (AtWord S) ws → AllWords (AtWord S) (index_words w ws)
  index_kept [] h = tt
  index_kept (p ∷ ps) h = by (has_some (w.index p)) (index_kept ps h.1)
    where
      by : (b : Bool) → AllWords (AtWord S) (index_words w ps) →
          AllWords (AtWord S) (if b then p ∷ index_words w ps else index_words w ps)
      by true rest = (h.0, rest)
      by false rest = rest

  indexed_first : (v : ℕ) (ws : Words) → AllWords (AtWord S) ws → Indices (indexed_by w v ws)
  indexed_first v [] h = tt
  indexed_first v (p ∷ ps) h = (h.0, tt)

  indexed_there : (v : ℕ) (ws : Words) → AllWords (AtWord S) ws → Indices (indexed_at w v ws)
  indexed_there v ws h = indexed_first v (sorted (index_words w ws)) (sorted_words (index_words w ws) (index_kept ws h))

  some_indexed_there : (v : Option ℕ) (ws : Words) → AllWords (AtWord S) ws → Indices (some_indexed_at w v ws)
  some_indexed_there None ws h = tt
  some_indexed_there (Some v) ws h = indexed_there v ws h

  mutual
    indices : (t : CType) (s : Skel) → Ok (AtWord S) t → Indices (indexed w t s)
    indices (base ws) s h = indexed_there (root s) ws h
    indices (void ws) s h = indexed_there (root s) ws h
    indices (struct ws n) s h = indexed_there (root s) ws h
    indices (pointer ws t) s h =
        indices_append (indexed_at w (root s) ws) (indexed w t (inner s)) (indexed_there (root s) ws h.0)
        (indices t (inner s) h.1)
    indices (function ws ps r e) s h =
        let more = some_indexed_at w (further s) (words_or_none e) in
        indices_append (indexed_at w (root s) ws)
        (indexed_params w ps (parameters s) ++ (indexed w r (outcome s) ++ more))
        (indexed_there (root s) ws h.0)
        (indices_append (indexed_params w ps (parameters s)) (indexed w r (outcome s) ++ more)
        (indices_of ps (parameters s) h.1)
        (indices_append (indexed w r (outcome s)) more (indices r (outcome s) h.2)
        (some_indexed_there (further s) (words_or_none e) h.3)))

    indices_of : (ts : CTypes) (ss : Skels) → Oks (AtWord S) ts → Indices (indexed_params w ts ss)
    indices_of no_types ss h = tt
    indices_of (more_types t ts) no_skels h = tt
    indices_of (more_types t ts) (more_skels s ss) h =
        indices_append (indexed w t s) (indexed_params w ts ss) (indices t s h.0) (indices_of ts ss h.1)

  each_stand : (it : Indexed) (others : List Indexed) → AtWord S it.word → Stand S (below_each w it others)
  each_stand it [] is = tt
  each_stand it (other ∷ others) is =
      lists_stand S _ (below_each w it others) (some_where S (is_below it other)
      (constraint (value_lattices w) (word_span it.word) (Le it.variable other.variable) ∷ []) (is, tt))
      (each_stand it others is)

  all_stand : (its all : List Indexed) → Indices its → Stand S (below_all w its all)
  all_stand [] all h = tt
  all_stand (it ∷ its) all h =
      lists_stand S (below_each w it all) (below_all w its all) (each_stand it all h.0) (all_stand its all h.1)

  -- flows

  pub flowing_stand : (is_zero : Bool) (a t : Skel) (mask : ℕ) (where_ : Span) → S where_ →
      Stand S (flowing is_zero a t mask where_)
  flowing_stand is_zero a t mask where_ is =
      none_where S (is_zero || (is_empty a || is_empty t)) _ (links_stand S mask where_ (flow Flow true a t) is)

  pub assigned_stand : (p : Punct) (is_zero : Bool) (a b : Skel) (where_ : Span) → S where_ →
      Stand S (assigned w p is_zero a b where_)
  assigned_stand p is_zero a b where_ is =
      lists_stand S (write_bounds w (root a) where_) _ (writes_stand (root a) where_ is)
      (none_where S (is_plus_or_minus p && is_ref (contents a)) _
      (flowing_stand is_zero b (contents a) (all_lattices w) where_ is))

  both_stand : (first last : Bool) (a b t : Skel) (where_ : Span) → S where_ →
      Stand S (flowing first a t (all_lattices w) where_ ++ flowing last b t (all_lattices w) where_)
  both_stand first last a b t where_ is =
      lists_stand S (flowing first a t (all_lattices w) where_) (flowing last b t (all_lattices w) where_)
      (flowing_stand first a t (all_lattices w) where_ is) (flowing_stand last b t (all_lattices w) where_ is)

  pub computed_stand : (p : Punct) (first last : Bool) (a b t : Skel) (where_ : Span) → S where_ →
      Stand S (computed w p first last a b t where_)
  computed_stand p first last a b t where_ is =
      none_where S (is_logical p || (is_additive p && (is_ref a || is_ref b))) _ (both_stand first last a b t where_ is)

  -- what passes inside a skeleton

  some_stand : (lattices : ℕ) (where_ : Span) (u v : ℕ) → S where_ → Stand S (in_some lattices where_ (Le u v))
  some_stand lattices where_ u v is =
      none_where S (nat_eq lattices 0) (constraint lattices where_ (Le u v) ∷ []) (is, tt)

  into_members_stand : (ways : Ways) (skeletons : List Numbered) (where_ : Span) (n : ℕ) (own : List Own) → S where_ →
      Stand S (into_members ways skeletons where_ n own)
  into_members_stand ways skeletons where_ n [] is = tt
  into_members_stand ways skeletons where_ n (it ∷ own) is =
      let s = skeleton_among skeletons it.at in
      lists_stand S (into_member ways where_ n s) (into_members ways skeletons where_ n own)
      (none_where S (is_nothing s) (in_some ways.field where_ (Le n (root (contents s))))
      (some_stand ways.field where_ n (root (contents s)) is))
      (into_members_stand ways skeletons where_ n own is)

  mutual
    formed_in_stand : (ways : Ways) (skeletons : List Numbered) (all : List Aggregate) (where_ : Span) (s : Skel)
        → S where_ →
        Stand S (formed_in ways skeletons all where_ s)
    formed_in_stand ways skeletons all where_ (flat v (kinds.Struct n)) is =
        into_members_stand ways skeletons where_ v (own_of all n) is
    formed_in_stand ways skeletons all where_ (flat v kinds.Base) is = tt
    formed_in_stand ways skeletons all where_ (flat v kinds.Void) is = tt
    formed_in_stand ways skeletons all where_ (flat v kinds.Nothing) is = tt
    formed_in_stand ways skeletons all where_ (ref v s) is =
        lists_stand S (pointing ways where_ v (root s)) (formed_in ways skeletons all where_ s)
        (lists_stand S (in_some ways.up where_ (Le (root s) v)) (in_some ways.down where_ (Le v (root s)))
        (some_stand ways.up where_ (root s) v is) (some_stand ways.down where_ v (root s) is))
        (formed_in_stand ways skeletons all where_ s is)
    formed_in_stand ways skeletons all where_ (fun v ps r e) is =
        lists_stand S (all_formed_in ways skeletons all where_ ps) (formed_in ways skeletons all where_ r)
        (all_formed_in_stand ways skeletons all where_ ps is) (formed_in_stand ways skeletons all where_ r is)

    all_formed_in_stand : (ways : Ways) (skeletons : List Numbered) (all : List Aggregate) (where_ : Span)
        (ps : Skels) →
        S where_ → Stand S (all_formed_in ways skeletons all where_ ps)
    all_formed_in_stand ways skeletons all where_ no_skels is = tt
    all_formed_in_stand ways skeletons all where_ (more_skels s ss) is =
        lists_stand S (formed_in ways skeletons all where_ s) (all_formed_in ways skeletons all where_ ss)
        (formed_in_stand ways skeletons all where_ s is) (all_formed_in_stand ways skeletons all where_ ss is)

  pub formed_stand : (where_ : Span) (s : Skel) → S where_ → Stand S (formed w where_ s)
  formed_stand where_ s is = formed_in_stand (ways_in w.lattices) w.skeletons w.names.aggregates where_ s is

  pub formed_here_stand : (token : ℕ) → S (span w token token) → Stand S (formed_here w token)
  formed_here_stand token is = formed_stand (span w token token) (own w token) is

  pub chosen_stand : (first last : Bool) (a b t : Skel) (where_ : Span) → S where_
      → Stand S (chosen w first last a b t where_)
  chosen_stand first last a b t where_ is =
      none_where S (first || last) _
      (lists_stand S (formed w where_ t) (branched w a b t where_) (formed_stand where_ t is)
      (both_stand false false a b t where_ is))

  pub prefixed_stand : (p : Punct) (is_zero : Bool) (e : Val) (t : Skel) (aims : Bool) (where_ : Span) → S where_ →
      Stand S (prefixed w p is_zero e t aims where_)
  prefixed_stand signs.PlusPlus is_zero e t aims where_ is = writes_stand (root e.skel) where_ is
  prefixed_stand signs.MinusMinus is_zero e t aims where_ is = writes_stand (root e.skel) where_ is
  prefixed_stand signs.Star is_zero e t aims where_ is = dereferenced_stand (value e) aims where_ is
  prefixed_stand signs.Plus is_zero e t aims where_ is = flowing_stand is_zero (value e) t (all_lattices w) where_ is
  prefixed_stand signs.Minus is_zero e t aims where_ is = flowing_stand is_zero (value e) t (all_lattices w) where_ is
  prefixed_stand signs.Tilde is_zero e t aims where_ is = flowing_stand is_zero (value e) t (all_lattices w) where_ is
  prefixed_stand p is_zero e t aims where_ is = tt

  -- a pointer to a place that was come to by a pointer
  carrying_stand : (by t : Skel) (where_ : Span) → S where_ → Stand S (carrying w by t where_)
  carrying_stand by t where_ is =
      none_where S (is_nothing by || is_nothing t)
      (constraint (access_lattices w.lattices) where_ (Le (root by) (root t)) ∷ []) (is, tt)

  pub carried_stand : (place by t : Skel) (where_ : Span) → S where_ → Stand S (carried w place by t where_)
  carried_stand place by t where_ is =
      lists_stand S (formed w where_ t) _ (formed_stand where_ t is)
      (lists_stand S (flowing false place t (all_lattices w) where_) (carrying w by t where_)
      (flowing_stand false place t (all_lattices w) where_ is) (carrying_stand by t where_ is))

  -- picks

  picking_stand : (its : List Candidate) (t : Skel) (where_ : Span) → S where_ → Stand S (picking w its t where_)
  picking_stand [] t where_ is = tt
  picking_stand (it ∷ others) t where_ is =
      lists_stand S (flowing it.is_zero (value it.val) t (all_lattices w) where_) (picking w others t where_)
      (flowing_stand it.is_zero (value it.val) t (all_lattices w) where_ is) (picking_stand others t where_ is)

  pub picked_stand : (its : List Candidate) (t : Skel) (where_ : Span) → S where_ → Stand S (picked w its t where_)
  picked_stand [] t where_ is = tt
  picked_stand (it ∷ []) t where_ is = tt
  picked_stand (it ∷ other ∷ others) t where_ is =
      lists_stand S (formed w where_ t) (picking w (it ∷ other ∷ others) t where_) (formed_stand where_ t is)
      (picking_stand (it ∷ other ∷ others) t where_ is)

  pub passed_stand : (is_zero : Bool) (a : Skel) (t : Option Skel) (e : Option ℕ) (where_ : Span) → S where_ →
      Stand S (passed w is_zero a t e where_)
  passed_stand is_zero a (Some t) e where_ is = flowing_stand is_zero a t (all_lattices w) where_ is
  passed_stand is_zero a None None where_ is = tt
  passed_stand is_zero a None (Some e) where_ is =
      none_where S (is_zero || is_empty a) _ (links_stand S (all_lattices w) where_ (smash a e) is)

  pub returned_stand : (f : Option Skel) (is_zero : Bool) (a : Skel) (where_ : Span) → S where_ →
      Stand S (returned w f is_zero a where_)
  returned_stand None is_zero a where_ is = tt
  returned_stand (Some f) is_zero a where_ is = flowing_stand is_zero a (result f) (all_lattices w) where_ is

  pub cast_stand : (t : Option CType) (is_zero : Bool) (a s : Skel) (where_ : Span) → SomeOk (AtWord S) t → S where_ →
      Stand S (cast_demand w t is_zero a s where_)
  cast_stand None is_zero a s where_ h is = tt
  cast_stand (Some t) is_zero a s where_ h is =
      lists_stand S (formed w where_ s) (casting w t is_zero a s where_) (formed_stand where_ s is)
      (lists_stand S (annotating w t s) _ (annotating_stand t s h)
      (none_where S (nat_eq (uncut w t) 0) _ (flowing_stand is_zero a s (uncut w t) where_ is)))

  -- further arguments

  pub started_stand : (f : Option Skel) (list : Skel) (where_ : Span) → S where_ → Stand S (started w f list where_)
  started_stand None list where_ is = tt
  started_stand (Some (flat v k)) list where_ is = tt
  started_stand (Some (ref v s)) list where_ is = tt
  started_stand (Some (fun v ps r None)) list where_ is = tt
  started_stand (Some (fun v ps r (Some e))) list where_ is =
      none_where S (is_nothing list) (constraints (all_lattices w) where_ (Le e (root list) ∷ [])) (is, tt)

  pub taken_stand : (list t : Skel) (where_ : Span) → S where_ → Stand S (taken w list t where_)
  taken_stand list t where_ is =
      none_where S (is_nothing list || is_nothing t) _
      (links_stand S (all_lattices w) where_ (unsmash (root list) t) is)

  -- names

  role_stand : (token : ℕ) (p : Place) (role : Role) → S (span w token token) → Stand S (instance w token p role)
  role_stand token p function_role is =
      lists_stand S (formed_here w token) (crossed w token p) (formed_here_stand token is)
      (links_stand S (all_lattices w) (span w token token)
      (cross (site_number w (at w token)) (skeleton w p) (skeleton w (at w token))) is)
  role_stand token p typedef_role is = tt
  role_stand token p object_role is = tt
  role_stand token p (parameter_role i) is = tt
  role_stand token p (field_role n i) is = tt
  role_stand token p enumerator_role is = tt

  instance_stand : (token : ℕ) (d : Option Declared) → S (span w token token) → Stand S (some_instance w token d)
  instance_stand token None is = tt
  instance_stand token (Some d) is = role_stand token d.at d.role is

  pub use_stand : (token : ℕ) (use_ : Use) → S (span w token token) → Stand S (use_demand w token use_)
  use_stand token (means p) is = instance_stand token (declared_at w.names.declared p) is
  use_stand token called is = formed_here_stand token is
  use_stand token missing is = tt

  tied_stand : (d : Declared) (first : Place) → AtWord S d.at → Stand S (tied_to w d first)
  tied_stand d first is =
      none_where S (is_place first d.at || (is_nothing (skeleton w first) || is_nothing (skeleton w d.at))) _
      (links_stand S (all_lattices w) (word_span d.at) (equal Flow true (skeleton w first) (skeleton w d.at)) is)

  name_stand : (d : Declared) → AtWord S d.at → Ok (AtWord S) d.type → Stand S (name_row w d)
  name_stand d is ok =
      let t = pointer [] d.type in
      let s = skeleton w d.at in
      lists_stand S (formed_name w d) (plain_name_row w d) (formed_stand (word_span d.at) s is)
      (lists_stand S (annotating_name w d) _ (annotating_stand t s (tt, ok))
      (lists_stand S (indexing w t s) (tied_to w d (equal_to w d))
      (all_stand (indexed w t s) (indexed w t s) (indices t s (tt, ok)))
      (tied_stand d (equal_to w d) is)))

  declared_stand : (d : Declared) (role : Role) → AtWord S d.at → Ok (AtWord S) d.type → Stand S (declared_row w d role)
  declared_stand d typedef_role is ok = tt
  declared_stand d object_role is ok = name_stand d is ok
  declared_stand d function_role is ok = name_stand d is ok
  declared_stand d (parameter_role i) is ok = name_stand d is ok
  declared_stand d (field_role n i) is ok = name_stand d is ok
  declared_stand d enumerator_role is ok = tt

  some_declared_stand : (d : Option Declared) → SomeDeclaredOk (AtWord S) d → Stand S (some_declared_row w d)
  some_declared_stand None h = tt
  some_declared_stand (Some d) h = declared_stand d d.role h.0 h.1

  into_param_stand : (t : Option Skel) (d : Declared) → AtWord S d.at → Stand S (into_param w t d)
  into_param_stand None d is = tt
  into_param_stand (Some s) d is =
      let t = contents (skeleton w d.at) in
      none_where S (is_some_function (declared_at w.names.declared d.first) || is_nothing t) _
      (links_stand S (all_lattices w) (word_span d.at) (flow Flow true s t) is)

  param_stand : (f : Skel) (n : ℕ) (d : Option Declared) → SomeDeclaredOk (AtWord S) d → Stand S (param_row w f n d)
  param_stand f n None h = tt
  param_stand f n (Some d) h =
      lists_stand S (formed_name w d) (plain_param_row w f n d) (formed_stand (word_span d.at) (skeleton w d.at) h.0)
      (lists_stand S (annotating_name w d) (into_param w (param_at (parameters f) n) d)
      (annotating_stand (pointer [] d.type) (skeleton w d.at) (tt, h.1))
      (into_param_stand (param_at (parameters f) n) d h.0))

  pub row_stand : (kind : RowKind) (token : ℕ) → DeclaredOk (AtWord S) w.names.declared → Stand S (row_at w kind token)
  row_stand no_row token h = tt
  row_stand row_of_name token h =
      some_declared_stand (declared_at w.names.declared (at w token))
      (declared_there (AtWord S) w.names.declared (at w token) h)
  row_stand (row_of_param f n) token h =
      param_stand f n (declared_at w.names.declared (at w token))
      (declared_there (AtWord S) w.names.declared (at w token) h)
