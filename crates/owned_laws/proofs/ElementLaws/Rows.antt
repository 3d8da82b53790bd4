-- The constants and bounds of each form's constraints name elements.
use Rattle.std.proofs.Common.{◌≡◌, ℕ, zero, suc, ◌+◌, ◌<◌, Bool, true, false, List, [], ◌∷◌, ◌++◌, length, Option, None, Some, refl, sym, ◌∙◌, ap, subst, arith}
use Rattle.std.specs.Prelude.{◌&&◌, ◌||◌, ◌^◌, nat_eq, slice_get, if◌then◌else◌}
use Rattle.c_words.specs.declared.kinds.Punct.{Punct}
use Rattle.c_words.specs.declared.kinds.Punct.TheVariants as signs
use Rattle.qual_base.specs.declared.places.Owner.TheVariants.{Nobody}
use Rattle.qual_base.specs.declared.places.Span.{Span}
use Rattle.lattice_core.specs.declared.Entry.{Entry}
use Rattle.lattice_core.specs.declared.Sign.{Sign}
use Rattle.lattice_core.specs.declared.Sign.TheVariants as kinds_of_sign
use Rattle.lattice_core.specs.View.{LatticeView, IsElement}
use Rattle.flow_graph.specs.declared.constraint.Link.TheVariants.{Bound, Le}
use Rattle.flow_graph.specs.declared.constraint.Constraint.{Constraint}
use Rattle.type_table.specs.Types.{CType, pointer}
use Rattle.qual_types.specs.declared.look.Kind.TheVariants as kinds
use Rattle.qual_types.specs.Skel.{Skel, Skels, flat, ref, fun, no_skels, more_skels, root, param_at}
use Rattle.flow_rules.specs.declared.arrow.Arrow.TheVariants.{Flow}
use Rattle.flow_rules.specs.Lists.{flow, smash, unsmash, equal, cross}
use Rattle.flow_rules.specs.Owners.{AllStay, AllLead}
use Rattle.name_rules.specs.Spellings.{Place}
use Rattle.name_rules.specs.Scopes.{Role, typedef_role, object_role, function_role, parameter_role, field_role, enumerator_role, Declared, declared_at, Use, means, called, missing, is_place, Aggregate, Own}
use Rattle.name_rules.specs.Values.{is_additive, own_of}
use Rattle.row_rules.specs.Starting.{is_some_function}
use Rattle.row_rules.specs.Forming.{Ways, ways_in, in_some, pointing, into_member, into_members, formed_in, all_formed_in, formed}
use Rattle.row_rules.specs.Worlds.{World, Numbered, skeleton_among, all_lattices, at, constraint, constraints, site_number, skeleton, span, word_span}
use Rattle.row_rules.specs.Annotations.{derefs_where, Annotation, entry_of_view, entry_at, signed, links_of_entry, alone, marked, annotation_constraints, annotated, annotating, bounds_of, bounds_from, write_bounds, deref_bounds, uncut, parameters}
use Rattle.row_rules.specs.Indexing.{Indexed, indexed, value_lattices, is_below, below_each, below_all, indexing}
use Rattle.row_rules.specs.Vals.{Candidate, is_vector_index, Val, contents, is_empty, is_fun, is_nothing, is_ref, own, result, value}
use Rattle.row_rules.specs.Rows.{carried, carrying, index_demand, picked, picking, flowing, dereferenced, is_plus_or_minus, assigned, is_logical, computed, branched, chosen, prefixed, passed, formed_here, crossed, instance, some_instance, use_demand, annotating_some, annotating_place, casting, cast_demand, annotating_name, formed_name, plain_name_row, plain_param_row, equal_to, tied_to, name_row, declared_row, some_declared_row, into_param, param_row, RowKind, no_row, row_of_name, row_of_param, row_at, returned, started, taken}
use Rattle.owned_laws.proofs.ElementLaws.Elements.{AllNamed, lists_named, none_where, some_where, flows_named, calls_named, nobodys}

-- the flow lists of rows are flows, calls and returns alone
pub record Flows : Type 0 where
  pub flown : (a b : Skel) → AllStay nobodys Nobody (flow Flow true a b)
  pub made_equal : (a b : Skel) → AllStay nobodys Nobody (equal Flow true a b)
  pub smashed : (a : Skel) (e : ℕ) → AllStay nobodys Nobody (smash a e)
  pub unsmashed : (e : ℕ) (b : Skel) → AllStay nobodys Nobody (unsmash e b)
  pub crossed : (site : ℕ) (a b : Skel) → AllLead nobodys Nobody Nobody site (cross site a b)

-- the entry of an element in the view of a lattice makes it an element of that lattice
entry_within : (lattices : List LatticeView) (lattice elem : ℕ) (view : Option LatticeView) (entry : Entry) →
    slice_get lattices lattice ≡ view → entry_of_view view elem ≡ Some entry → IsElement lattices lattice elem
entry_within lattices lattice elem None entry there e = absurd cc
entry_within lattices lattice elem (Some view) entry there e =
    record { view = view; there = there; within = below view.entries elem e }
  where
    below : (entries : List Entry) (n : ℕ) → slice_get entries n ≡ Some entry → n < length entries
    below [] n e = absurd cc
    below (x ∷ xs) zero e = omega arith
    below (x ∷ xs) (suc n) e = let less : n < length xs = below xs n e in omega arith

module _ (law : Flows) (w : World) where
  abbrev Named : List Constraint → Type 0
  Named cs = AllNamed w.lattices cs

  -- bounds

  abbrev IsBehind : ℕ → ℕ → List Entry → Type 0
  IsBehind lattice n entries = (k : ℕ) → k < length entries → IsElement w.lattices lattice (n + k)

  bounds_named : (has : Entry → Bool) (v : ℕ) (where_ : Span) (lattice n : ℕ) (entries : List Entry) →
      IsBehind lattice n entries → Named (bounds_of has v where_ lattice n entries)
  bounds_named has v where_ lattice n [] h = tt
  bounds_named has v where_ lattice n (entry ∷ entries) h =
      lists_named w.lattices (if has entry then constraint (2 ^ lattice) where_ (Bound v lattice n) ∷ [] else [])
      (bounds_of has v where_ lattice (suc n) entries)
      (some_where w.lattices (has entry) _ (subst (IsElement w.lattices lattice) here (h 0 (omega arith)), tt))
      (bounds_named has v where_ lattice (suc n) entries later)
    where
      here : n + 0 ≡ n
      here = omega arith

      later : IsBehind lattice (suc n) entries
      later k less = subst (IsElement w.lattices lattice) (next k) (h (suc k) (omega arith))
        where
          next : (k : ℕ) → n + suc k ≡ suc n + k
          next k = omega arith

  abbrev AreBehind : ℕ → List LatticeView → Type 0
  AreBehind n views =
      (k : ℕ) (view : LatticeView) → slice_get views k ≡ Some view → slice_get w.lattices (n + k) ≡ Some view

  views_named : (has : Entry → Bool) (v : ℕ) (where_ : Span) (n : ℕ) (views : List LatticeView) → AreBehind n views →
      Named (bounds_from has v where_ n views)
  views_named has v where_ n [] h = tt
  views_named has v where_ n (view ∷ views) h =
      lists_named w.lattices (bounds_of has v where_ n 0 view.entries) (bounds_from has v where_ (suc n) views)
      (bounds_named has v where_ n 0 view.entries first) (views_named has v where_ (suc n) views later)
    where
      here : n + 0 ≡ n
      here = omega arith

      first : IsBehind n 0 view.entries
      first k less = record {
        view = view;
        there = sym (ap (slice_get w.lattices) here) ∙ h 0 view refl;
        within = omega arith;
      }

      later : AreBehind (suc n) views
      later k it e = ap (slice_get w.lattices) next ∙ h (suc k) it e
        where
          next : suc n + k ≡ n + suc k
          next = omega arith

  all_behind : AreBehind 0 w.lattices
  all_behind k view e = ap (slice_get w.lattices) from_none ∙ e
    where
      from_none : 0 + k ≡ k
      from_none = omega arith

  pub writes_named : (v : ℕ) (where_ : Span) → Named (write_bounds w v where_)
  writes_named v where_ = views_named (λ entry. entry.write) v where_ 0 w.lattices all_behind

  pub dereferenced_named : (s : Skel) (aims : Bool) (where_ : Span) → Named (dereferenced w s aims where_)
  dereferenced_named s aims where_ =
      none_where w.lattices (is_fun (contents s)) (deref_bounds w (root s) aims where_)
      (views_named (λ entry. derefs_where aims entry.deref) (root s) where_ 0 w.lattices all_behind)

  -- annotation words

  signed_named : (m : ℕ × ℕ) (where_ : Span) (v : ℕ) (sign : Sign) → IsElement w.lattices m.0 m.1 →
      Named (alone m where_ (signed sign m v))
  signed_named m where_ v kinds_of_sign.Pos h = (h, tt)
  signed_named m where_ v kinds_of_sign.Neg h = (h, tt)
  signed_named m where_ v kinds_of_sign.Eq h = (h, (h, tt))

  entry_named : (m : ℕ × ℕ) (where_ : Span) (v : ℕ) (entry : Option Entry) → entry_at w m ≡ entry →
      Named (alone m where_ (links_of_entry entry m v))
  entry_named m where_ v None e = tt
  entry_named m where_ v (Some entry) e =
      signed_named m where_ v entry.sign
      (entry_within w.lattices m.0 m.1 (slice_get w.lattices m.0) entry refl e)

  marked_named : (m : Option (ℕ × ℕ)) (a : Annotation) → Named (marked w m a)
  marked_named None a = tt
  marked_named (Some m) a = entry_named m (word_span a.word) a.variable (entry_at w m) refl

  annotations_named : (annotations : List Annotation) → Named (annotation_constraints w annotations)
  annotations_named [] = tt
  annotations_named (a ∷ others) =
      lists_named w.lattices (marked w (w.mark a.word) a) (annotation_constraints w others)
      (marked_named (w.mark a.word) a) (annotations_named others)

  annotating_named : (t : CType) (s : Skel) → Named (annotating w t s)
  annotating_named t s = annotations_named (annotated w t s)

  pub annotating_some_named : (t : Option CType) (s : Skel) → Named (annotating_some w t s)
  annotating_some_named None s = tt
  annotating_some_named (Some t) s = annotating_named t s

  pub annotating_place_named : (t : Option CType) (s : Skel) → Named (annotating_place w t s)
  annotating_place_named None s = tt
  annotating_place_named (Some t) s = annotating_named (pointer [] t) s

  -- index words

  each_named : (it : Indexed) (others : List Indexed) → Named (below_each w it others)
  each_named it [] = tt
  each_named it (other ∷ others) =
      lists_named w.lattices _ (below_each w it others) (some_where w.lattices (is_below it other)
      (constraint (value_lattices w) (word_span it.word) (Le it.variable other.variable) ∷ []) (tt, tt))
      (each_named it others)

  all_named : (its all : List Indexed) → Named (below_all w its all)
  all_named [] all = tt
  all_named (it ∷ its) all =
      lists_named w.lattices (below_each w it all) (below_all w its all) (each_named it all) (all_named its all)

  -- flows

  pub flowing_named : (is_zero : Bool) (a t : Skel) (mask : ℕ) (where_ : Span) → Named (flowing is_zero a t mask where_)
  flowing_named is_zero a t mask where_ =
      none_where w.lattices (is_zero || (is_empty a || is_empty t)) _
      (flows_named w.lattices nobodys Nobody mask where_ (flow Flow true a t) (law.flown a t))

  pub assigned_named : (p : Punct) (is_zero : Bool) (a b : Skel) (where_ : Span)
      → Named (assigned w p is_zero a b where_)
  assigned_named p is_zero a b where_ =
      lists_named w.lattices (write_bounds w (root a) where_) _ (writes_named (root a) where_)
      (none_where w.lattices (is_plus_or_minus p && is_ref (contents a)) _
      (flowing_named is_zero b (contents a) (all_lattices w) where_))

  both_named : (first last : Bool) (a b t : Skel) (where_ : Span) →
      Named (flowing first a t (all_lattices w) where_ ++ flowing last b t (all_lattices w) where_)
  both_named first last a b t where_ =
      lists_named w.lattices (flowing first a t (all_lattices w) where_) (flowing last b t (all_lattices w) where_)
      (flowing_named first a t (all_lattices w) where_) (flowing_named last b t (all_lattices w) where_)

  pub computed_named : (p : Punct) (first last : Bool) (a b t : Skel) (where_ : Span) →
      Named (computed w p first last a b t where_)
  computed_named p first last a b t where_ =
      none_where w.lattices (is_logical p || (is_additive p && (is_ref a || is_ref b))) _
      (both_named first last a b t where_)

  -- what passes inside a skeleton

  some_named : (lattices : ℕ) (where_ : Span) (u v : ℕ) → Named (in_some lattices where_ (Le u v))
  some_named lattices where_ u v =
      none_where w.lattices (nat_eq lattices 0) (constraint lattices where_ (Le u v) ∷ []) (tt, tt)

  into_members_named : (ways : Ways) (skeletons : List Numbered) (where_ : Span) (n : ℕ) (own : List Own) →
      Named (into_members ways skeletons where_ n own)
  into_members_named ways skeletons where_ n [] = tt
  into_members_named ways skeletons where_ n (it ∷ own) =
      let s = skeleton_among skeletons it.at in
      lists_named w.lattices (into_member ways where_ n s) (into_members ways skeletons where_ n own)
      (none_where w.lattices (is_nothing s) (in_some ways.field where_ (Le n (root (contents s))))
      (some_named ways.field where_ n (root (contents s))))
      (into_members_named ways skeletons where_ n own)

  mutual
    formed_in_named : (ways : Ways) (skeletons : List Numbered) (all : List Aggregate) (where_ : Span) (s : Skel) →
        Named (formed_in ways skeletons all where_ s)
    formed_in_named ways skeletons all where_ (flat v (kinds.Struct n)) =
        into_members_named ways skeletons where_ v (own_of all n)
    formed_in_named ways skeletons all where_ (flat v kinds.Base) = tt
    formed_in_named ways skeletons all where_ (flat v kinds.Void) = tt
    formed_in_named ways skeletons all where_ (flat v kinds.Nothing) = tt
    formed_in_named ways skeletons all where_ (ref v s) =
        lists_named w.lattices (pointing ways where_ v (root s)) (formed_in ways skeletons all where_ s)
        (lists_named w.lattices (in_some ways.up where_ (Le (root s) v)) (in_some ways.down where_ (Le v (root s)))
        (some_named ways.up where_ (root s) v) (some_named ways.down where_ v (root s)))
        (formed_in_named ways skeletons all where_ s)
    formed_in_named ways skeletons all where_ (fun v ps r e) =
        lists_named w.lattices (all_formed_in ways skeletons all where_ ps) (formed_in ways skeletons all where_ r)
        (all_formed_in_named ways skeletons all where_ ps) (formed_in_named ways skeletons all where_ r)

    all_formed_in_named : (ways : Ways) (skeletons : List Numbered) (all : List Aggregate) (where_ : Span)
        (ps : Skels) →
        Named (all_formed_in ways skeletons all where_ ps)
    all_formed_in_named ways skeletons all where_ no_skels = tt
    all_formed_in_named ways skeletons all where_ (more_skels s ss) =
        lists_named w.lattices (formed_in ways skeletons all where_ s) (all_formed_in ways skeletons all where_ ss)
        (formed_in_named ways skeletons all where_ s) (all_formed_in_named ways skeletons all where_ ss)

  pub formed_named : (where_ : Span) (s : Skel) → Named (formed w where_ s)
  formed_named where_ s = formed_in_named (ways_in w.lattices) w.skeletons w.names.aggregates where_ s

  pub formed_here_named : (token : ℕ) → Named (formed_here w token)
  formed_here_named token = formed_named (span w token token) (own w token)

  pub chosen_named : (first last : Bool) (a b t : Skel) (where_ : Span) → Named (chosen w first last a b t where_)
  chosen_named first last a b t where_ =
      none_where w.lattices (first || last) _
      (lists_named w.lattices (formed w where_ t) (branched w a b t where_) (formed_named where_ t)
      (both_named false false a b t where_))

  pub prefixed_named : (p : Punct) (is_zero : Bool) (e : Val) (t : Skel) (aims : Bool) (where_ : Span) →
      Named (prefixed w p is_zero e t aims where_)
  prefixed_named signs.PlusPlus is_zero e t aims where_ = writes_named (root e.skel) where_
  prefixed_named signs.MinusMinus is_zero e t aims where_ = writes_named (root e.skel) where_
  prefixed_named signs.Star is_zero e t aims where_ = dereferenced_named (value e) aims where_
  prefixed_named signs.Plus is_zero e t aims where_ = flowing_named is_zero (value e) t (all_lattices w) where_
  prefixed_named signs.Minus is_zero e t aims where_ = flowing_named is_zero (value e) t (all_lattices w) where_
  prefixed_named signs.Tilde is_zero e t aims where_ = flowing_named is_zero (value e) t (all_lattices w) where_
  prefixed_named p is_zero e t aims where_ = tt

  pub index_named : (a b : Skel) (aims : Bool) (where_ : Span) → Named (index_demand w a b aims where_)
  index_named a b aims where_ =
      none_where w.lattices (is_vector_index w.spelling.wide a b)
      (dereferenced w (if is_ref a then a else b) aims where_)
      (dereferenced_named (if is_ref a then a else b) aims where_)

  -- a pointer that carries another one names no element for that
  carrying_named : (by t : Skel) (where_ : Span) → Named (carrying w by t where_)
  carrying_named by t where_ = none_where w.lattices (is_nothing by || is_nothing t) _ (tt, tt)

  pub carried_named : (place by t : Skel) (where_ : Span) → Named (carried w place by t where_)
  carried_named place by t where_ = lists_named w.lattices (formed w where_ t) _ (formed_named where_ t)
      (lists_named w.lattices (flowing false place t (all_lattices w) where_) _
      (flowing_named false place t (all_lattices w) where_) (carrying_named by t where_))

  -- picks

  picking_named : (all : List Candidate) (t : Skel) (where_ : Span) → Named (picking w all t where_)
  picking_named [] t where_ = tt
  picking_named (it ∷ others) t where_ =
      lists_named w.lattices (flowing it.is_zero (value it.val) t (all_lattices w) where_) _
      (flowing_named it.is_zero (value it.val) t (all_lattices w) where_) (picking_named others t where_)

  pub picked_named : (all : List Candidate) (t : Skel) (where_ : Span) → Named (picked w all t where_)
  picked_named [] t where_ = tt
  picked_named (it ∷ []) t where_ = tt
  picked_named (it ∷ (other ∷ others)) t where_ = lists_named w.lattices (formed w where_ t) _ (formed_named where_ t)
      (picking_named (it ∷ (other ∷ others)) t where_)

  pub passed_named : (is_zero : Bool) (a : Skel) (t : Option Skel) (e : Option ℕ) (where_ : Span) →
      Named (passed w is_zero a t e where_)
  passed_named is_zero a (Some t) e where_ = flowing_named is_zero a t (all_lattices w) where_
  passed_named is_zero a None None where_ = tt
  passed_named is_zero a None (Some e) where_ =
      none_where w.lattices (is_zero || is_empty a) _
      (flows_named w.lattices nobodys Nobody (all_lattices w) where_ (smash a e) (law.smashed a e))

  pub returned_named : (f : Option Skel) (is_zero : Bool) (a : Skel) (where_ : Span)
      → Named (returned w f is_zero a where_)
  returned_named None is_zero a where_ = tt
  returned_named (Some f) is_zero a where_ = flowing_named is_zero a (result f) (all_lattices w) where_

  pub cast_named : (t : Option CType) (is_zero : Bool) (a s : Skel) (where_ : Span) →
      Named (cast_demand w t is_zero a s where_)
  cast_named None is_zero a s where_ = tt
  cast_named (Some t) is_zero a s where_ =
      lists_named w.lattices (formed w where_ s) (casting w t is_zero a s where_) (formed_named where_ s)
      (lists_named w.lattices (annotating w t s) _ (annotating_named t s)
      (none_where w.lattices (nat_eq (uncut w t) 0) _ (flowing_named is_zero a s (uncut w t) where_)))

  -- further arguments

  pub started_named : (f : Option Skel) (list : Skel) (where_ : Span) → Named (started w f list where_)
  started_named None list where_ = tt
  started_named (Some (flat v k)) list where_ = tt
  started_named (Some (ref v s)) list where_ = tt
  started_named (Some (fun v ps r None)) list where_ = tt
  started_named (Some (fun v ps r (Some e))) list where_ =
      none_where w.lattices (is_nothing list) (constraints (all_lattices w) where_ (Le e (root list) ∷ [])) (tt, tt)

  pub taken_named : (list t : Skel) (where_ : Span) → Named (taken w list t where_)
  taken_named list t where_ =
      none_where w.lattices (is_nothing list || is_nothing t) _
      (flows_named w.lattices nobodys Nobody (all_lattices w) where_ (unsmash (root list) t)
      (law.unsmashed (root list) t))

  -- names

  role_named : (token : ℕ) (p : Place) (role : Role) → Named (instance w token p role)
  role_named token p function_role =
      let site = site_number w (at w token) in
      lists_named w.lattices (formed_here w token) (crossed w token p) (formed_here_named token)
      (calls_named w.lattices nobodys Nobody Nobody site (all_lattices w) (span w token token)
      (cross site (skeleton w p) (skeleton w (at w token))) (law.crossed site (skeleton w p) (skeleton w (at w token))))
  role_named token p typedef_role = tt
  role_named token p object_role = tt
  role_named token p (parameter_role i) = tt
  role_named token p (field_role n i) = tt
  role_named token p enumerator_role = tt

  instance_named : (token : ℕ) (d : Option Declared) → Named (some_instance w token d)
  instance_named token None = tt
  instance_named token (Some d) = role_named token d.at d.role

  pub use_named : (token : ℕ) (use_ : Use) → Named (use_demand w token use_)
  use_named token (means p) = instance_named token (declared_at w.names.declared p)
  use_named token called = formed_here_named token
  use_named token missing = tt

  tied_named : (d : Declared) (first : Place) → Named (tied_to w d first)
  tied_named d first =
      none_where w.lattices (is_place first d.at || (is_nothing (skeleton w first) || is_nothing (skeleton w d.at))) _
      (flows_named w.lattices nobodys Nobody (all_lattices w) (word_span d.at)
      (equal Flow true (skeleton w first) (skeleton w d.at)) (law.made_equal (skeleton w first) (skeleton w d.at)))

  name_named : (d : Declared) → Named (name_row w d)
  name_named d =
      let t = pointer [] d.type in
      let s = skeleton w d.at in
      lists_named w.lattices (formed_name w d) (plain_name_row w d) (formed_named (word_span d.at) s)
      (lists_named w.lattices (annotating_name w d) _ (annotating_named t s)
      (lists_named w.lattices (indexing w t s) (tied_to w d (equal_to w d)) (all_named (indexed w t s) (indexed w t s))
      (tied_named d (equal_to w d))))

  declared_named : (d : Declared) (role : Role) → Named (declared_row w d role)
  declared_named d typedef_role = tt
  declared_named d object_role = name_named d
  declared_named d function_role = name_named d
  declared_named d (parameter_role i) = name_named d
  declared_named d (field_role n i) = name_named d
  declared_named d enumerator_role = tt

  some_declared_named : (d : Option Declared) → Named (some_declared_row w d)
  some_declared_named None = tt
  some_declared_named (Some d) = declared_named d d.role

  into_param_named : (t : Option Skel) (d : Declared) → Named (into_param w t d)
  into_param_named None d = tt
  into_param_named (Some s) d =
      let t = contents (skeleton w d.at) in
      none_where w.lattices (is_some_function (declared_at w.names.declared d.first) || is_nothing t) _
      (flows_named w.lattices nobodys Nobody (all_lattices w) (word_span d.at) (flow Flow true s t) (law.flown s t))

  param_named : (f : Skel) (n : ℕ) (d : Option Declared) → Named (param_row w f n d)
  param_named f n None = tt
  param_named f n (Some d) =
      lists_named w.lattices (formed_name w d) (plain_param_row w f n d)
      (formed_named (word_span d.at) (skeleton w d.at))
      (lists_named w.lattices (annotating_name w d) (into_param w (param_at (parameters f) n) d)
      (annotating_named (pointer [] d.type) (skeleton w d.at)) (into_param_named (param_at (parameters f) n) d))

  pub row_named : (kind : RowKind) (token : ℕ) → Named (row_at w kind token)
  row_named no_row token = tt
  row_named row_of_name token = some_declared_named (declared_at w.names.declared (at w token))
  row_named (row_of_param f n) token = param_named f n (declared_at w.names.declared (at w token))
