-- The constraints of each form fit where the skeletons of its parts belong to one owner or to nobody.
use Rattle.std.proofs.Common.{◌≡◌, ◌⊎◌, inl, inr, ℕ, suc, Bool, true, false, List, [], ◌∷◌, ◌++◌, Option, None, Some, refl}
use Rattle.std.specs.Prelude.{◌&&◌, ◌||◌, ◌^◌, nat_eq, slice_get, if◌then◌else◌}
use Rattle.std.proofs.lemmas.Bool.{or_right, or_left}
use Rattle.c_words.specs.declared.kinds.Punct.{Punct}
use Rattle.c_words.specs.declared.kinds.Punct.TheVariants as signs
use Rattle.qual_base.specs.declared.places.Owner.{Owner}
use Rattle.qual_base.specs.declared.places.Owner.TheVariants.{Nobody}
use Rattle.qual_base.specs.declared.places.Span.{Span}
use Rattle.lattice_core.specs.declared.Entry.{Entry}
use Rattle.lattice_core.specs.declared.Sign.{Sign}
use Rattle.lattice_core.specs.declared.Sign.TheVariants as kinds_of_sign
use Rattle.lattice_core.specs.View.{LatticeView}
use Rattle.flow_graph.specs.declared.constraint.Link.TheVariants.{Bound, Le}
use Rattle.flow_graph.specs.declared.constraint.Constraint.{Constraint}
use Rattle.flow_graph.specs.System.{System, owner_of}
use Rattle.type_table.specs.Types.{CType, pointer}
use Rattle.qual_types.specs.declared.look.Kind.TheVariants as kinds
use Rattle.qual_types.specs.Skel.{Skel, Skels, nodes, root, flat, ref, fun, no_skels, more_skels, all_nodes, of_some, param_at}
use Rattle.flow_rules.specs.declared.arrow.Arrow.TheVariants.{Flow}
use Rattle.flow_rules.specs.Lists.{flow, smash, unsmash, equal}
use Rattle.flow_rules.specs.Owners.{IsIn, AllIn, AllStay}
use Rattle.name_rules.specs.Spellings.{Place}
use Rattle.name_rules.specs.Values.{own_of}
use Rattle.row_rules.specs.Starting.{is_some_function}
use Rattle.row_rules.specs.Forming.{Ways, ways_in, in_some, pointing, into_member, into_members, formed_in, all_formed_in, formed}
use Rattle.row_rules.specs.Worlds.{World, all_lattices, constraint, constraints, word_span, skeleton}
use Rattle.row_rules.specs.Annotations.{Annotation, entry_at, signed, links_of_entry, alone, marked, annotation_constraints, annotated, annotating, bounds_of, bounds_from, write_bounds, deref_bounds, derefs_where, access_lattices, uncut, parameters}
use Rattle.row_rules.specs.Vals.{Val, Candidate, is_vector_index, contents, is_empty, is_fun, is_nothing, is_ref, result, value, read}
use Rattle.row_rules.specs.Rows.{flowing, dereferenced, index_demand, carrying, carried, picking, picked, is_plus_or_minus, assigned, is_logical, prefixed, passed, cast_demand, returned, annotating_name, branched, casting, formed_name, plain_name_row, plain_param_row, name_row, into_param, param_row, started, taken, equal_to, tied_to}
use Rattle.row_rules.specs.Indexing.{indexing}
use Rattle.name_rules.specs.Values.{is_additive}
use Rattle.name_rules.specs.Scopes.{Declared, Own, declared_at, is_place}
use Rattle.owned_laws.specs.OwnerLaws.Fitting.{AllFit}
use Rattle.owned_laws.specs.OwnerLaws.Rows.{Inside, SomeInside, AllInside, SomeIn, PartsInside, AllPartsInside, MembersInside, RowsFit}
use Rattle.owned_laws.proofs.OwnerLaws.Fitting.{lists_fit, staying_fits, parts_stay, front, back}
use Rattle.owned_laws.proofs.OwnerLaws.Indexing.{indexing_fits, root_in}

-- the laws of flow lists that rows stand on
pub record Flows : Type 0 where
  pub stay : (own : ℕ → Owner) (owner : Owner) (a b : Skel) → AllIn own owner (nodes a) → AllIn own owner (nodes b) →
      AllStay own owner (flow Flow true a b)
  pub made_equal : (own : ℕ → Owner) (owner : Owner) (a b : Skel) → AllIn own owner (nodes a) →
      AllIn own owner (nodes b) → AllStay own owner (equal Flow true a b)
  pub smashed : (own : ℕ → Owner) (owner : Owner) (a : Skel) (e : ℕ) → AllIn own owner (nodes a) → IsIn own owner e →
      AllStay own owner (smash a e)
  pub unsmashed : (own : ℕ → Owner) (owner : Owner) (e : ℕ) (b : Skel) → IsIn own owner e → AllIn own owner (nodes b) →
      AllStay own owner (unsmash e b)

-- what is no skeleton

-- a skeleton of nothing is empty
nothing_is_empty : (s : Skel) → is_nothing s ≡ true → is_empty s ≡ true
nothing_is_empty (flat v kinds.Nothing) e = refl
nothing_is_empty (flat v kinds.Void) e = absurd cc
nothing_is_empty (flat v kinds.Base) e = absurd cc
nothing_is_empty (flat v (kinds.Struct n)) e = absurd cc
nothing_is_empty (ref v s) e = absurd cc
nothing_is_empty (fun v ps r e) is = absurd cc

-- a case of three tests that is left out
either_true : (a b c : Bool) → (b ≡ true) ⊎ (c ≡ true) → (a || (b || c)) ≡ true
either_true true b c h = refl
either_true false true c h = refl
either_true false false c (inl e) = absurd cc
either_true false false c (inr e) = e

-- the parts of a skeleton of nothing are inside any owner
parts_of_nothing : (sys : System) (owner : Owner) (s : Skel) → is_nothing s ≡ true → PartsInside sys owner s
parts_of_nothing sys owner (flat v k) e =
    record { contents_in = inl e; read_in = inl e; result_in = inl e; param_in = λ n q is. absurd cc }
parts_of_nothing sys owner (ref v s) e = absurd cc
parts_of_nothing sys owner (fun v ps r e) is = absurd cc

-- the parts of a skeleton are inside where it is
pub parts_inside : AllPartsInside
parts_inside sys owner s (inl e) = parts_of_nothing sys owner s e
parts_inside sys owner s (inr h) =
    let parts = parts_stay (owner_of sys) owner s h in
    record {
      contents_in = inr parts.contents_in;
      read_in = inr parts.read_in;
      result_in = inr parts.result_in;
      param_in = λ n q e. inr (parts.param_in n q e);
    }

module _ (sys : System) where
  none_where : (b : Bool) (cs : List Constraint) → AllFit sys cs → AllFit sys (if b then [] else cs)
  none_where true cs h = tt
  none_where false cs h = h

  none_or : (b : Bool) (cs : List Constraint) → (b ≡ true) ⊎ AllFit sys cs → AllFit sys (if b then [] else cs)
  none_or true cs h = tt
  none_or false cs (inl e) = absurd cc
  none_or false cs (inr h) = h

  -- bounds

  bounds_fit : (has : Entry → Bool) (v : ℕ) (where_ : Span) (lattice n : ℕ) (entries : List Entry) →
      AllFit sys (bounds_of has v where_ lattice n entries)
  bounds_fit has v where_ lattice n [] = tt
  bounds_fit has v where_ lattice n (entry ∷ entries) =
      lists_fit sys (if has entry then constraint (2 ^ lattice) where_ (Bound v lattice n) ∷ [] else [])
      (bounds_of has v where_ lattice (suc n) entries) (by (has entry))
      (bounds_fit has v where_ lattice (suc n) entries)
    where
      by : (b : Bool) → AllFit sys (if b then constraint (2 ^ lattice) where_ (Bound v lattice n) ∷ [] else [])
      by true = (tt, tt)
      by false = tt

  views_fit : (has : Entry → Bool) (v : ℕ) (where_ : Span) (n : ℕ) (views : List LatticeView) →
      AllFit sys (bounds_from has v where_ n views)
  views_fit has v where_ n [] = tt
  views_fit has v where_ n (view ∷ views) =
      lists_fit sys (bounds_of has v where_ n 0 view.entries) (bounds_from has v where_ (suc n) views)
      (bounds_fit has v where_ n 0 view.entries) (views_fit has v where_ (suc n) views)

  writes_fit : (w : World) (v : ℕ) (where_ : Span) → AllFit sys (write_bounds w v where_)
  writes_fit w v where_ = views_fit (λ entry. entry.write) v where_ 0 w.lattices

  dereferenced_fit : (w : World) (s : Skel) (aims : Bool) (where_ : Span) → AllFit sys (dereferenced w s aims where_)
  dereferenced_fit w s aims where_ =
      none_where (is_fun (contents s)) (deref_bounds w (root s) aims where_)
      (views_fit (λ entry. derefs_where aims entry.deref) (root s) where_ 0 w.lattices)

  index_fits : (w : World) (a b : Skel) (aims : Bool) (where_ : Span) → AllFit sys (index_demand w a b aims where_)
  index_fits w a b aims where_ =
      none_where (is_vector_index w.spelling.wide a b) (dereferenced w (if is_ref a then a else b) aims where_)
      (dereferenced_fit w (if is_ref a then a else b) aims where_)

  -- constants and bounds of annotation words

  signed_fits : (m : ℕ × ℕ) (where_ : Span) (v : ℕ) (sign : Sign) → AllFit sys (alone m where_ (signed sign m v))
  signed_fits m where_ v kinds_of_sign.Pos = (tt, tt)
  signed_fits m where_ v kinds_of_sign.Neg = (tt, tt)
  signed_fits m where_ v kinds_of_sign.Eq = (tt, (tt, tt))

  entry_fits : (m : ℕ × ℕ) (where_ : Span) (v : ℕ) (entry : Option Entry) →
      AllFit sys (alone m where_ (links_of_entry entry m v))
  entry_fits m where_ v None = tt
  entry_fits m where_ v (Some entry) = signed_fits m where_ v entry.sign

  marked_fits : (w : World) (m : Option (ℕ × ℕ)) (a : Annotation) → AllFit sys (marked w m a)
  marked_fits w None a = tt
  marked_fits w (Some m) a = entry_fits m (word_span a.word) a.variable (entry_at w m)

  annotations_fit : (w : World) (annotations : List Annotation) → AllFit sys (annotation_constraints w annotations)
  annotations_fit w [] = tt
  annotations_fit w (a ∷ others) =
      lists_fit sys (marked w (w.mark a.word) a) (annotation_constraints w others)
      (marked_fits w (w.mark a.word) a) (annotations_fit w others)

module _ (law : Flows) (sys : System) (owner : Owner) (w : World) where
  flowing_fits : (zero : Bool) (a t : Skel) (lattices : ℕ) (where_ : Span) → Inside sys owner a →
      Inside sys owner t → AllFit sys (flowing zero a t lattices where_)
  flowing_fits zero a t lattices where_ h k =
      none_or sys (zero || (is_empty a || is_empty t)) (constraints lattices where_ (flow Flow true a t)) (by h k)
    where
      by : Inside sys owner a → Inside sys owner t → ((zero || (is_empty a || is_empty t)) ≡ true)
          ⊎ AllFit sys (constraints lattices where_ (flow Flow true a t))
      by (inl e) k = inl (either_true zero (is_empty a) (is_empty t) (inl (nothing_is_empty a e)))
      by (inr h) (inl e) = inl (either_true zero (is_empty a) (is_empty t) (inr (nothing_is_empty t e)))
      by (inr h) (inr k) =
          inr (staying_fits sys owner lattices where_ (flow Flow true a t) (law.stay (owner_of sys) owner a t h k))

  value_inside : (e : Val) → Inside sys owner e.skel → Inside sys owner (value e)
  value_inside e h = by e.is_place
    where
      by : (b : Bool) → Inside sys owner (if b then read e.skel else e.skel)
      by true = (parts_inside sys owner e.skel h).read_in
      by false = h

  assigned_fits : (p : Punct) (zero : Bool) (a b : Skel) (where_ : Span) → Inside sys owner a →
      Inside sys owner b → AllFit sys (assigned w p zero a b where_)
  assigned_fits p zero a b where_ h k =
      lists_fit sys (write_bounds w (root a) where_) _ (writes_fit sys w (root a) where_)
      (none_where sys (is_plus_or_minus p && is_ref (contents a)) _
      (flowing_fits zero b (contents a) (all_lattices w) where_ k
      (parts_inside sys owner a h).contents_in))

  -- what passes inside a skeleton

  nobodys_in : (v : ℕ) → IsIn (owner_of sys) Nobody v → IsIn (owner_of sys) owner v
  nobodys_in v (inl e) = inr e
  nobodys_in v (inr e) = inr e

  some_fit : (lattices : ℕ) (where_ : Span) (u v : ℕ) → IsIn (owner_of sys) owner u → IsIn (owner_of sys) owner v →
      AllFit sys (in_some lattices where_ (Le u v))
  some_fit lattices where_ u v h k =
      none_where sys (nat_eq lattices 0) (constraint lattices where_ (Le u v) ∷ [])
      (record { owner = owner; from = h; to = k }, tt)

  into_member_fits : (ways : Ways) (where_ : Span) (n : ℕ) (s : Skel) → IsIn (owner_of sys) owner n
      → Inside sys Nobody s →
      AllFit sys (into_member ways where_ n s)
  into_member_fits ways where_ n s h (inl e) =
      none_or sys (is_nothing s) (in_some ways.field where_ (Le n (root (contents s)))) (inl e)
  into_member_fits ways where_ n s h (inr k) =
      none_where sys (is_nothing s) (in_some ways.field where_ (Le n (root (contents s))))
      (some_fit ways.field where_ n (root (contents s)) h (nobodys_in (root (contents s))
      (root_in (owner_of sys) Nobody (contents s) (parts_stay (owner_of sys) Nobody s k).contents_in)))

  into_members_fit : (ways : Ways) (where_ : Span) (n : ℕ) (own : List Own) → IsIn (owner_of sys) owner n →
      ((i : ℕ) (it : Own) → slice_get own i ≡ Some it → Inside sys Nobody (skeleton w it.at)) →
      AllFit sys (into_members ways w.skeletons where_ n own)
  into_members_fit ways where_ n [] h k = tt
  into_members_fit ways where_ n (it ∷ own) h k =
      lists_fit sys (into_member ways where_ n (skeleton w it.at)) (into_members ways w.skeletons where_ n own)
      (into_member_fits ways where_ n (skeleton w it.at) h (k 0 it refl))
      (into_members_fit ways where_ n own h (λ i. k (suc i)))

  mutual
    formed_in_fits : (ways : Ways) (where_ : Span) (s : Skel) → MembersInside sys w
        → AllIn (owner_of sys) owner (nodes s) →
        AllFit sys (formed_in ways w.skeletons w.names.aggregates where_ s)
    formed_in_fits ways where_ (flat v (kinds.Struct n)) m h =
        into_members_fit ways where_ v (own_of w.names.aggregates n) h.0 (m n)
    formed_in_fits ways where_ (flat v kinds.Base) m h = tt
    formed_in_fits ways where_ (flat v kinds.Void) m h = tt
    formed_in_fits ways where_ (flat v kinds.Nothing) m h = tt
    formed_in_fits ways where_ (ref v s) m h =
        let inside = root_in (owner_of sys) owner s h.1 in
        lists_fit sys (pointing ways where_ v (root s)) (formed_in ways w.skeletons w.names.aggregates where_ s)
        (lists_fit sys (in_some ways.up where_ (Le (root s) v)) (in_some ways.down where_ (Le v (root s)))
        (some_fit ways.up where_ (root s) v inside h.0) (some_fit ways.down where_ v (root s) h.0 inside))
        (formed_in_fits ways where_ s m h.1)
    formed_in_fits ways where_ (fun v ps r e) m h =
        lists_fit sys (all_formed_in ways w.skeletons w.names.aggregates where_ ps)
        (formed_in ways w.skeletons w.names.aggregates where_ r)
        (all_formed_in_fit ways where_ ps m (front (owner_of sys) owner (all_nodes ps) (nodes r ++ of_some e) h.1))
        (formed_in_fits ways where_ r m
        (front (owner_of sys) owner (nodes r) (of_some e)
        (back (owner_of sys) owner (all_nodes ps) (nodes r ++ of_some e) h.1)))

    all_formed_in_fit : (ways : Ways) (where_ : Span) (ps : Skels) → MembersInside sys w →
        AllIn (owner_of sys) owner (all_nodes ps)
        → AllFit sys (all_formed_in ways w.skeletons w.names.aggregates where_ ps)
    all_formed_in_fit ways where_ no_skels m h = tt
    all_formed_in_fit ways where_ (more_skels s ss) m h =
        lists_fit sys (formed_in ways w.skeletons w.names.aggregates where_ s)
        (all_formed_in ways w.skeletons w.names.aggregates where_ ss)
        (formed_in_fits ways where_ s m (front (owner_of sys) owner (nodes s) (all_nodes ss) h))
        (all_formed_in_fit ways where_ ss m (back (owner_of sys) owner (nodes s) (all_nodes ss) h))

  form_fits : (s : Skel) (where_ : Span) → MembersInside sys w → Inside sys owner s → AllFit sys (formed w where_ s)
  form_fits (flat v kinds.Nothing) where_ m (inl e) = tt
  form_fits (flat v kinds.Void) where_ m (inl e) = tt
  form_fits (flat v kinds.Base) where_ m (inl e) = tt
  form_fits (flat v (kinds.Struct n)) where_ m (inl e) = absurd cc
  form_fits (ref v s) where_ m (inl e) = absurd cc
  form_fits (fun v ps r e) where_ m (inl is) = absurd cc
  form_fits s where_ m (inr h) = formed_in_fits (ways_in w.lattices) where_ s m h

  both_flow : (first last : Bool) (a b t : Skel) (where_ : Span) → Inside sys owner a → Inside sys owner b →
      Inside sys owner t →
      AllFit sys (flowing first a t (all_lattices w) where_ ++ flowing last b t (all_lattices w) where_)
  both_flow first last a b t where_ h k l =
      lists_fit sys (flowing first a t (all_lattices w) where_) (flowing last b t (all_lattices w) where_)
      (flowing_fits first a t (all_lattices w) where_ h l) (flowing_fits last b t (all_lattices w) where_ k l)

  -- a pointer that carries another one

  carrying_fits : (point t : Skel) (where_ : Span) → Inside sys owner point → Inside sys owner t →
      AllFit sys (carrying w point t where_)
  carrying_fits point t where_ h k =
      none_or sys (is_nothing point || is_nothing t)
      (constraint (access_lattices w.lattices) where_ (Le (root point) (root t)) ∷ []) (by h k)
    where
      by : Inside sys owner point → Inside sys owner t → ((is_nothing point || is_nothing t) ≡ true)
          ⊎ AllFit sys (constraint (access_lattices w.lattices) where_ (Le (root point) (root t)) ∷ [])
      by (inl e) k = inl (or_left (is_nothing point) (is_nothing t) e)
      by (inr h) (inl e) = inl (or_right (is_nothing point) (is_nothing t) e)
      by (inr h) (inr k) =
          inr (
            record {
              owner = owner;
              from = root_in (owner_of sys) owner point h;
              to = root_in (owner_of sys) owner t k;
            },
            tt,
          )

  carried_fits : (place point t : Skel) (where_ : Span) → Inside sys owner place → Inside sys owner point →
      Inside sys owner t → AllFit sys (formed w where_ t) → AllFit sys (carried w place point t where_)
  carried_fits place point t where_ h k l f =
      lists_fit sys (formed w where_ t) (flowing false place t (all_lattices w) where_ ++ carrying w point t where_) f
      (lists_fit sys (flowing false place t (all_lattices w) where_) (carrying w point t where_)
      (flowing_fits false place t (all_lattices w) where_ h l) (carrying_fits point t where_ k l))

  -- picks

  picking_fits : (left : List Candidate) (t : Skel) (where_ : Span) → AllInside sys owner left → Inside sys owner t →
      AllFit sys (picking w left t where_)
  picking_fits [] t where_ h k = tt
  picking_fits (it ∷ others) t where_ h k =
      lists_fit sys (flowing it.is_zero (value it.val) t (all_lattices w) where_) (picking w others t where_)
      (flowing_fits it.is_zero (value it.val) t (all_lattices w) where_ (value_inside it.val h.0) k)
      (picking_fits others t where_ h.1 k)

  picked_fits : (left : List Candidate) (t : Skel) (where_ : Span) → AllInside sys owner left → Inside sys owner t →
      AllFit sys (formed w where_ t) → AllFit sys (picked w left t where_)
  picked_fits [] t where_ h k f = tt
  picked_fits (it ∷ []) t where_ h k f = tt
  picked_fits (it ∷ other ∷ others) t where_ h k f =
      lists_fit sys (formed w where_ t) (picking w (it ∷ other ∷ others) t where_) f
      (picking_fits (it ∷ other ∷ others) t where_ h k)

  prefixed_fits : (p : Punct) (zero : Bool) (e : Val) (t : Skel) (aims : Bool) (where_ : Span)
      → Inside sys owner e.skel →
      Inside sys owner t → AllFit sys (prefixed w p zero e t aims where_)
  prefixed_fits signs.PlusPlus zero e t aims where_ h k = writes_fit sys w (root e.skel) where_
  prefixed_fits signs.MinusMinus zero e t aims where_ h k = writes_fit sys w (root e.skel) where_
  prefixed_fits signs.Star zero e t aims where_ h k = dereferenced_fit sys w (value e) aims where_
  prefixed_fits signs.Plus zero e t aims where_ h k =
      flowing_fits zero (value e) t (all_lattices w) where_ (value_inside e h) k
  prefixed_fits signs.Minus zero e t aims where_ h k =
      flowing_fits zero (value e) t (all_lattices w) where_ (value_inside e h) k
  prefixed_fits signs.Tilde zero e t aims where_ h k =
      flowing_fits zero (value e) t (all_lattices w) where_ (value_inside e h) k
  prefixed_fits p zero e t aims where_ h k = tt

  passed_fits : (zero : Bool) (a : Skel) (t : Option Skel) (e : Option ℕ) (where_ : Span) → Inside sys owner a →
      SomeInside sys owner t → SomeIn sys owner e → AllFit sys (passed w zero a t e where_)
  passed_fits zero a (Some t) e where_ h k l = flowing_fits zero a t (all_lattices w) where_ h k
  passed_fits zero a None None where_ h k l = tt
  passed_fits zero a None (Some e) where_ h k l =
      none_or sys (zero || is_empty a) (constraints (all_lattices w) where_ (smash a e)) (by h)
    where
      by : Inside sys owner a →
          ((zero || is_empty a) ≡ true) ⊎ AllFit sys (constraints (all_lattices w) where_ (smash a e))
      by (inl is) = inl (or_right zero (is_empty a) (nothing_is_empty a is))
      by (inr h) =
          inr (staying_fits sys owner (all_lattices w) where_ (smash a e) (law.smashed (owner_of sys) owner a e h l))

  returned_fits : (f : Option Skel) (zero : Bool) (a : Skel) (where_ : Span) → SomeInside sys owner f →
      Inside sys owner a → AllFit sys (returned w f zero a where_)
  returned_fits None zero a where_ h k = tt
  returned_fits (Some f) zero a where_ h k =
      flowing_fits zero a (result f) (all_lattices w) where_ k (parts_inside sys owner f h).result_in

  cast_fits : (t : Option CType) (zero : Bool) (a s : Skel) (where_ : Span) → Inside sys owner a →
      Inside sys owner s → AllFit sys (formed w where_ s) → AllFit sys (cast_demand w t zero a s where_)
  cast_fits None zero a s where_ h k f = tt
  cast_fits (Some t) zero a s where_ h k f =
      lists_fit sys (formed w where_ s) (casting w t zero a s where_) f
      (lists_fit sys (annotating w t s) _ (annotations_fit sys w (annotated w t s))
      (none_where sys (nat_eq (uncut w t) 0) (flowing zero a s (uncut w t) where_)
      (flowing_fits zero a s (uncut w t) where_ h k)))

  -- names

  -- a skeleton of one variable stays in the owner of that
  indexed_nothing_fit : (t : CType) (s : Skel) → is_nothing s ≡ true → AllFit sys (indexing w t s)
  indexed_nothing_fit t (flat v k) e = indexing_fits sys (owner_of sys v) w t (flat v k) (inl refl, tt)
  indexed_nothing_fit t (ref v s) e = absurd cc
  indexed_nothing_fit t (fun v ps r e) is = absurd cc

  indexed_fit : (t : CType) (s : Skel) → Inside sys owner s → AllFit sys (indexing w t s)
  indexed_fit t s (inl e) = indexed_nothing_fit t s e
  indexed_fit t s (inr h) = indexing_fits sys owner w t s h

  tied_fit : (d : Declared) (first : Place) → Inside sys owner (skeleton w first) → Inside sys owner (skeleton w d.at) →
      AllFit sys (tied_to w d first)
  tied_fit d first h k =
      none_or sys (is_place first d.at || (is_nothing (skeleton w first) || is_nothing (skeleton w d.at)))
      (constraints (all_lattices w) (word_span d.at) (equal Flow true (skeleton w first) (skeleton w d.at))) (by h k)
    where
      by : Inside sys owner (skeleton w first) → Inside sys owner (skeleton w d.at) →
          ((is_place first d.at || (is_nothing (skeleton w first) || is_nothing (skeleton w d.at))) ≡ true)
          ⊎ AllFit sys
          (constraints (all_lattices w) (word_span d.at) (equal Flow true (skeleton w first) (skeleton w d.at)))
      by (inl e) k =
          inl (either_true (is_place first d.at) (is_nothing (skeleton w first)) (is_nothing (skeleton w d.at)) (inl e))
      by (inr h) (inl e) =
          inl (either_true (is_place first d.at) (is_nothing (skeleton w first)) (is_nothing (skeleton w d.at)) (inr e))
      by (inr h) (inr k) =
          inr (staying_fits sys owner (all_lattices w) (word_span d.at)
          (equal Flow true (skeleton w first) (skeleton w d.at))
          (law.made_equal (owner_of sys) owner (skeleton w first) (skeleton w d.at) h k))

  name_fits : (d : Declared) → AllFit sys (formed_name w d) → Inside sys owner (skeleton w (equal_to w d)) →
      Inside sys owner (skeleton w d.at) → AllFit sys (name_row w d)
  name_fits d f h k =
      lists_fit sys (formed_name w d) (plain_name_row w d) f
      (lists_fit sys (annotating_name w d) _ (annotations_fit sys w (annotated w (pointer [] d.type) (skeleton w d.at)))
      (lists_fit sys (indexing w (pointer [] d.type) (skeleton w d.at)) (tied_to w d (equal_to w d))
      (indexed_fit (pointer [] d.type) (skeleton w d.at) k) (tied_fit d (equal_to w d) h k)))

  abbrev HasPlace : Declared → Type 0
  HasPlace d = (is_some_function (declared_at w.names.declared d.first) ≡ true) ⊎ Inside sys owner (skeleton w d.at)

  into_param_fits : (t : Option Skel) (d : Declared) →
      ((s : Skel) → t ≡ Some s → AllIn (owner_of sys) owner (nodes s)) → HasPlace d → AllFit sys (into_param w t d)
  into_param_fits None d h k = tt
  into_param_fits (Some s) d h k =
      none_or sys (is_some_function (declared_at w.names.declared d.first) || is_nothing t)
      (constraints (all_lattices w) (word_span d.at) (flow Flow true s t)) (by k)
    where
      t : Skel
      t = contents (skeleton w d.at)

      placed : Inside sys owner t →
          ((is_some_function (declared_at w.names.declared d.first) || is_nothing t) ≡ true)
          ⊎ AllFit sys (constraints (all_lattices w) (word_span d.at) (flow Flow true s t))
      placed (inl e) = inl (or_right (is_some_function (declared_at w.names.declared d.first)) (is_nothing t) e)
      placed (inr k) =
          inr (staying_fits sys owner (all_lattices w) (word_span d.at) (flow Flow true s t)
          (law.stay (owner_of sys) owner s t (h s refl) k))

      by : HasPlace d → ((is_some_function (declared_at w.names.declared d.first) || is_nothing t) ≡ true)
          ⊎ AllFit sys (constraints (all_lattices w) (word_span d.at) (flow Flow true s t))
      by (inl e) = inl (or_left (is_some_function (declared_at w.names.declared d.first)) (is_nothing t) e)
      by (inr k) = placed (parts_inside sys owner (skeleton w d.at) k).contents_in

  -- parameters of what is no skeleton are none
  params_in : (f : Skel) (n : ℕ) → Inside sys owner f → (s : Skel) → param_at (parameters f) n ≡ Some s →
      AllIn (owner_of sys) owner (nodes s)
  params_in (flat v k) n h s e = absurd cc
  params_in (ref v t) n h s e = absurd cc
  params_in (fun v ps r o) n (inl is) s e = absurd cc
  params_in (fun v ps r o) n (inr h) s e = (parts_stay (owner_of sys) owner (fun v ps r o) h).param_in n s e

  param_fits : (f : Skel) (n : ℕ) (d : Declared) → AllFit sys (formed_name w d) → Inside sys owner f → HasPlace d →
      AllFit sys (param_row w f n (Some d))
  param_fits f n d formed_fits h k =
      lists_fit sys (formed_name w d) (plain_param_row w f n d) formed_fits
      (lists_fit sys (annotating_name w d) (into_param w (param_at (parameters f) n) d)
      (annotations_fit sys w (annotated w (pointer [] d.type) (skeleton w d.at)))
      (into_param_fits (param_at (parameters f) n) d (params_in f n h) k))

  -- further arguments

  started_fits : (f : Option Skel) (list : Skel) (where_ : Span) → SomeInside sys owner f →
      Inside sys owner list → AllFit sys (started w f list where_)
  started_fits None list where_ h k = tt
  started_fits (Some (flat v it)) list where_ h k = tt
  started_fits (Some (ref v s)) list where_ h k = tt
  started_fits (Some (fun v ps r None)) list where_ h k = tt
  started_fits (Some (fun v ps r (Some e))) list where_ (inl is) k = absurd cc
  started_fits (Some (fun v ps r (Some e))) list where_ (inr h) (inl is) = none_or sys (is_nothing list) _ (inl is)
  started_fits (Some (fun v ps r (Some e))) list where_ (inr h) (inr k) =
      let all : AllIn (owner_of sys) owner (nodes r ++ e ∷ []) =
      back (owner_of sys) owner (all_nodes ps) (nodes r ++ e ∷ []) h.1 in
      none_where sys (is_nothing list) (constraints (all_lattices w) where_ (Le e (root list) ∷ [])) (
        record {
          owner = owner;
          from = (back (owner_of sys) owner (nodes r) (e ∷ []) all).0;
          to = root_in (owner_of sys) owner list k;
        },
        tt,
      )

  taken_fits : (list t : Skel) (where_ : Span) → Inside sys owner list → Inside sys owner t →
      AllFit sys (taken w list t where_)
  taken_fits list t where_ h k =
      none_or sys (is_nothing list || is_nothing t)
      (constraints (all_lattices w) where_ (unsmash (root list) t)) (by h k)
    where
      by : Inside sys owner list → Inside sys owner t → ((is_nothing list || is_nothing t) ≡ true)
          ⊎ AllFit sys (constraints (all_lattices w) where_ (unsmash (root list) t))
      by (inl e) k = inl (either_true false (is_nothing list) (is_nothing t) (inl e))
      by (inr h) (inl e) = inl (or_right (is_nothing list) (is_nothing t) e)
      by (inr h) (inr k) =
          inr (staying_fits sys owner (all_lattices w) where_ (unsmash (root list) t)
          (law.unsmashed (owner_of sys) owner (root list) t (root_in (owner_of sys) owner list h) k))

-- the constraints of each form fit where the skeletons of its parts are inside one owner
pub rows_fit : Flows → RowsFit
rows_fit law sys owner w = record {
  annotations = λ t s. annotations_fit sys w (annotated w t s);
  writes = writes_fit sys w;
  dereference = dereferenced_fit sys w;
  index = index_fits sys w;
  assignment = assigned_fits law sys owner w;
  operator = λ p first last a b t where_ h k l.
      none_where sys (is_logical p || (is_additive p && (is_ref a || is_ref b))) _
      (both_flow law sys owner w first last a b t where_ h k l);
  condition = λ first last a b t where_ h k l f.
      none_where sys (first || last) _
      (lists_fit sys (formed w where_ t) (branched w a b t where_) f
      (both_flow law sys owner w false false a b t where_ h k l));
  prefix = prefixed_fits law sys owner w;
  carry = carried_fits law sys owner w;
  pick = picked_fits law sys owner w;
  argument = passed_fits law sys owner w;
  cast = cast_fits law sys owner w;
  returning = returned_fits law sys owner w;
  flow_into = flowing_fits law sys owner w;
  form = form_fits law sys owner w;
  name = name_fits law sys owner w;
  parameter = param_fits law sys owner w;
  start_of_list = started_fits law sys owner w;
  next_of_list = taken_fits law sys owner w;
}
