-- The skeletons on the stacks of a tape belong to the function around, or to nobody.
use Rattle.std.proofs.Common.{◌≡◌, inl, inr, ℕ, zero, suc, Bool, true, false, List, [], ◌∷◌, ◌++◌, drop, take, reverse, slice_get, Option, None, Some, refl, sym, subst}
use Rattle.std.specs.Prelude.{◌&&◌, if◌then◌else◌}
use Rattle.std.proofs.lemmas.List.{reverse-append}
use Rattle.c_words.specs.declared.kinds.Punct.{Punct}
use Rattle.c_words.specs.declared.kinds.Punct.TheVariants as signs
use Rattle.flow_graph.specs.System.{owner_of}
use Rattle.qual_types.specs.declared.look.Kind.TheVariants as kinds
use Rattle.qual_types.specs.Skel.{Skel, flat, ref, fun, nodes, all_nodes, of_some, struct_of}
use Rattle.flow_rules.specs.Owners.{AllIn}
use Rattle.name_rules.specs.Scopes.{Role, typedef_role, object_role, function_role, parameter_role, field_role, enumerator_role, Declared, declared_at, Use, means, called, missing, Own, Known, body_of}
use Rattle.name_rules.specs.Values.{is_additive, member_in, own_of, own_number}
use Rattle.row_rules.specs.Worlds.{at, skeleton}
use Rattle.row_rules.specs.Annotations.{further, has_access}
use Rattle.row_rules.specs.Vals.{Val, a_value, a_place, Candidate, no_zeros, or_all, left_of, value_of_left, pick_of, is_vector_index, index_of, contents, read, value, is_ref, result, member_of, known_skeleton, member_skel, sum_of, binary_of, prefix_of, used_by_role, used_some, used, own, branch}
use Rattle.row_rules.specs.Rows.{own_skel, next_of_struct, first_alone, by_role, by_first, initialised_at}
use Rattle.row_rules.specs.RowSteps.State.{Operand, expression, named_type, Braces, whole, untargeted, listed, first_operand, val_of_operand, first_braces}
use Rattle.row_rules.specs.RowSteps.Steps.{item_target, target_in, list_of, with_member, with_index, with_item, initialised_by}
use Rattle.row_rules.specs.RowSteps.OpRows.{function_skeleton}
use Rattle.name_rules.specs.ShapeSteps.State.{changed, without_innermost}
use Rattle.owned_laws.specs.OwnerLaws.Rows.{SomeInside, SomeIn, AllInside}
use Rattle.owned_laws.specs.Around.{MeantFits, SomeMeantFits, UseFits, FunctionFits, InitFits, FirstInitFits, SomeInitFits, InitialisedFits}
use Rattle.owned_laws.proofs.Found.{Setting, sys, owner, In, Begins, none_in, skeleton_in, nobodys_in}

module _ (k : Setting) where
  abbrev pub SomeSkelIn : Option Skel → Type 0
  SomeSkelIn t = SomeInside (sys k) (owner k) t

  -- parts

  pub contents_in : (s : Skel) → In k s → In k (contents s)
  contents_in s h = (k.law.parts (sys k) (owner k) s h).contents_in

  pub result_in : (s : Skel) → In k s → In k (result s)
  result_in s h = (k.law.parts (sys k) (owner k) s h).result_in

  pub value_in : (v : Val) → In k v.skel → In k (value v)
  value_in v h = by v.is_place
    where
      by : (b : Bool) → In k (if b then read v.skel else v.skel)
      by true = (k.law.parts (sys k) (owner k) v.skel h).read_in
      by false = h

  behind : (xs ys : List ℕ) → AllIn (owner_of (sys k)) (owner k) (xs ++ ys) → AllIn (owner_of (sys k)) (owner k) ys
  behind [] ys h = h
  behind (x ∷ xs) ys h = behind xs ys h.1

  some_variable_in : (e : Option ℕ) → AllIn (owner_of (sys k)) (owner k) (of_some e) → SomeIn (sys k) (owner k) e
  some_variable_in None h = tt
  some_variable_in (Some e) h = h.0

  pub further_in : (s : Skel) → In k s → SomeIn (sys k) (owner k) (further s)
  further_in (flat v kind) h = tt
  further_in (ref v s) h = tt
  further_in (fun v ps r e) (inl is) = absurd cc
  further_in (fun v ps r e) (inr h) =
      some_variable_in e (behind (nodes r) (of_some e) (behind (all_nodes ps) (nodes r ++ of_some e) h.1))

  pub own_in : (token : ℕ) → Begins k (at k.world token) → In k (own k.world token)
  own_in token h = skeleton_in k (at k.world token) h

  pub either_in : (b : Bool) (s t : Skel) → In k s → In k t → In k (if b then s else t)
  either_in true s t h l = h
  either_in false s t h l = l

  pub branch_in : (first last : Bool) (token : ℕ) (a b : Skel) → In k a → In k b → Begins k (at k.world token) →
      In k (branch k.world first last token a b)
  branch_in first true token a b h l m = h
  branch_in true false token a b h l m = l
  branch_in false false token a b h l m = own_in token m

  sum_in : (x y : Bool) (a b t : Skel) → In k a → In k b → In k t → In k (sum_of x y a b t)
  sum_in true true a b t h l m = m
  sum_in true false a b t h l m = h
  sum_in false true a b t h l m = l
  sum_in false false a b t h l m = m

  pub binary_in : (p : Punct) (a b t : Skel) → In k a → In k b → In k t → In k (binary_of p a b t)
  binary_in p a b t h l m =
      either_in (is_additive p) (sum_of (is_ref a) (is_ref b) a b t) t (sum_in (is_ref a) (is_ref b) a b t h l m) m

  pub prefix_in : (token : ℕ) (p : Punct) (e : Val) (aims : Bool) → In k e.skel → Begins k (at k.world token) →
      In k (prefix_of k.world token p e aims).skel
  prefix_in token signs.Ampersand e aims h m = by (aims && has_access k.world.lattices)
    where
      by : (b : Bool) → In k (if b then a_value (skeleton k.world (at k.world token)) else a_value e.skel).skel
      by true = own_in token m
      by false = h
  prefix_in token signs.Star e aims h m = value_in e h
  prefix_in token signs.PlusPlus e aims h m = value_in e h
  prefix_in token signs.MinusMinus e aims h m = value_in e h
  prefix_in token p e aims h m = own_in token m

  pub index_in : (wide : Bool) (e e2 : Val) → In k e.skel → In k e2.skel → In k (index_of wide e e2).skel
  index_in wide e e2 h l = by (is_vector_index wide (value e) (value e2))
    where
      by : (b : Bool) → In k (if b then e else a_place (if is_ref (value e) then value e else value e2)).skel
      by true = h
      by false = either_in (is_ref (value e)) (value e) (value e2) (value_in e h) (value_in e2 l)

  -- picks

  abbrev pub AllValsIn : List Candidate → Type 0
  AllValsIn its = AllInside (sys k) (owner k) its

  pub vals_joined : (xs ys : List Candidate) → AllValsIn xs → AllValsIn ys → AllValsIn (xs ++ ys)
  vals_joined [] ys h l = l
  vals_joined (x ∷ xs) ys h l = (h.0, vals_joined xs ys h.1 l)

  no_zeros_in : (its : List Candidate) → AllValsIn its → AllValsIn (no_zeros its)
  no_zeros_in [] h = tt
  no_zeros_in (it ∷ others) h = by it.is_zero (no_zeros_in others h.1)
    where
      by : (b : Bool) → AllValsIn (no_zeros others) → AllValsIn (if b then no_zeros others else it ∷ no_zeros others)
      by true rest = rest
      by false rest = (h.0, rest)

  or_all_in : (some others : List Candidate) → AllValsIn some → AllValsIn others → AllValsIn (or_all some others)
  or_all_in [] others h l = l
  or_all_in (it ∷ some) others h l = h

  pub left_in : (its : List Candidate) → AllValsIn its → AllValsIn (left_of its)
  left_in its h = or_all_in (no_zeros its) its (no_zeros_in its h) h

  one_left_in : (t : Skel) (its : List Candidate) → In k t → AllValsIn its → In k (value_of_left t its)
  one_left_in t [] h l = h
  one_left_in t (it ∷ []) h l = value_in it.val l.0
  one_left_in t (it ∷ other ∷ others) h l = h

  pub pick_in : (t : Skel) (its : List Candidate) → In k t → AllValsIn its → In k (pick_of t its).skel
  pick_in t [] h l = h
  pick_in t (it ∷ []) h l = l.0
  pick_in t (it ∷ other ∷ others) h l =
      one_left_in t (left_of (it ∷ other ∷ others)) h (left_in (it ∷ other ∷ others) l)

  -- names

  role_in : (quiet : Bool) (token : ℕ) (d : Declared) (role : Role) →
      MeantFits k.world k.starts k.function quiet token d role → In k (used_by_role k.world token d.at role).skel
  role_in quiet token d enumerator_role h = own_in token h
  role_in quiet token d function_role h = own_in token h.0
  role_in quiet token d typedef_role h = skeleton_in k d.at h
  role_in quiet token d object_role h = skeleton_in k d.at h
  role_in quiet token d (parameter_role i) h = skeleton_in k d.at h
  role_in quiet token d (field_role n i) h = skeleton_in k d.at h

  some_used_in : (quiet : Bool) (token : ℕ) (d : Option Declared) →
      SomeMeantFits k.world k.starts k.function quiet token d → In k (used_some k.world token d).skel
  some_used_in quiet token None h = none_in k
  some_used_in quiet token (Some d) h = role_in quiet token d d.role h

  pub used_in : (quiet : Bool) (token : ℕ) (use_ : Use) → UseFits k.world k.starts k.function quiet token use_ →
      In k (used k.world token use_).skel
  used_in quiet token (means p) h = some_used_in quiet token (declared_at k.world.names.declared p) h
  used_in quiet token called h = own_in token h
  used_in quiet token missing h = none_in k

  -- members

  known_in : (found : Option Known) → ((it : Known) → found ≡ Some it → In k (skeleton k.world it.at)) →
      In k (known_skeleton k.world found)
  known_in None h = none_in k
  known_in (Some it) h = h it refl

  member_of_in : (n : Option ℕ) (name : ℕ) → In k (known_skeleton k.world (member_of k.world n name))
  member_of_in None name = none_in k
  member_of_in (Some n) name =
      known_in (member_in (body_of k.world.names.aggregates n) (k.world.spelling.key name))
      (λ it e. nobodys_in k it.at (k.settled.members.known n (k.world.spelling.key name) it e))

  pub member_skel_in : (s : Skel) (name : ℕ) → In k (member_skel k.world s name)
  member_skel_in s name = member_of_in (struct_of s) name

  own_skel_in : (found : Option Own) → ((it : Own) → found ≡ Some it → In k (skeleton k.world it.at)) →
      SomeSkelIn (own_skel k.world found)
  own_skel_in None h = tt
  own_skel_in (Some it) h = contents_in (skeleton k.world it.at) (h it refl)

  next_in : (n next : ℕ) → SomeSkelIn (next_of_struct k.world n next)
  next_in n next =
      own_skel_in (slice_get (own_of k.world.names.aggregates n) (own_number k.world.names.aggregates n next))
      (λ it e. nobodys_in k it.at
      (k.settled.members.own n (own_number k.world.names.aggregates n next) it e))

  alone_in : (is_first : Bool) (s : Skel) → In k s → SomeSkelIn (first_alone is_first s)
  alone_in true s h = h
  alone_in false s h = tt

  -- initialisers

  by_role_in : (d : Declared) (role : Role) → InitFits k.starts k.function d role → SomeSkelIn (by_role k.world d role)
  by_role_in d typedef_role h = tt
  by_role_in d function_role h = tt
  by_role_in d object_role h = contents_in (skeleton k.world d.at) (skeleton_in k d.at h)
  by_role_in d (parameter_role i) h = contents_in (skeleton k.world d.at) (skeleton_in k d.at h)
  by_role_in d (field_role n i) h = contents_in (skeleton k.world d.at) (skeleton_in k d.at h)
  by_role_in d enumerator_role h = tt

  by_first_in : (d : Declared) (first : Option Declared) → FirstInitFits k.starts k.function d first →
      SomeSkelIn (by_first k.world d first)
  by_first_in d None h = tt
  by_first_in d (Some first) h = by_role_in d first.role h

  initialised_at_in : (d : Option Declared) → SomeInitFits k.world k.starts k.function d →
      SomeSkelIn (initialised_at k.world d)
  initialised_at_in None h = tt
  initialised_at_in (Some d) h = by_first_in d (declared_at k.world.names.declared d.first) h

  pub initialised_in : (token : Option ℕ) → InitialisedFits k.world k.starts k.function token →
      SomeSkelIn (initialised_by k.world token)
  initialised_in None h = tt
  initialised_in (Some token) h = initialised_at_in (declared_at k.world.names.declared (at k.world token)) h

  pub function_in : (token : Option ℕ) → FunctionFits k.world k.starts k.function token →
      SomeSkelIn (function_skeleton k.world token)
  function_in None h = tt
  function_in (Some token) h = contents_in (skeleton k.world (at k.world token)) (own_in token h)

  -- operands

  abbrev pub OperandIn : Operand → Type 0
  OperandIn (expression v is_zero) = In k v.skel
  OperandIn (named_type t) = Unit {0}

  abbrev pub OperandsIn : List Operand → Type 0
  OperandsIn [] = Unit {0}
  OperandsIn (it ∷ others) = OperandIn it × OperandsIn others

  pub drop_in : (n : ℕ) (xs : List Operand) → OperandsIn xs → OperandsIn (drop n xs)
  drop_in zero xs h = h
  drop_in (suc n) [] h = tt
  drop_in (suc n) (x ∷ xs) h = drop_in n xs h.1

  pub take_in : (n : ℕ) (xs : List Operand) → OperandsIn xs → OperandsIn (take n xs)
  take_in zero xs h = tt
  take_in (suc n) [] h = tt
  take_in (suc n) (x ∷ xs) h = (h.0, take_in n xs h.1)

  append_in : (xs ys : List Operand) → OperandsIn xs → OperandsIn ys → OperandsIn (xs ++ ys)
  append_in [] ys h l = l
  append_in (x ∷ xs) ys h l = (h.0, append_in xs ys h.1 l)

  pub reverse_in : (xs : List Operand) → OperandsIn xs → OperandsIn (reverse xs)
  reverse_in [] h = tt
  reverse_in (x ∷ xs) h =
      subst OperandsIn (sym (reverse-append (x ∷ []) xs))
      (append_in (reverse xs) (x ∷ []) (reverse_in xs h.1) (h.0, tt))

  first_in : (xs : List Operand) → OperandsIn xs → OperandIn (first_operand xs)
  first_in [] h = tt
  first_in (x ∷ xs) h = h.0

  val_of_in : (it : Operand) → OperandIn it → In k (val_of_operand it).skel
  val_of_in (expression v is_zero) h = h
  val_of_in (named_type t) h = none_in k

  pub first_val_in : (xs : List Operand) → OperandsIn xs → In k (val_of_operand (first_operand xs)).skel
  first_val_in xs h = val_of_in (first_operand xs) (first_in xs h)

  pub first_value_in : (xs : List Operand) → OperandsIn xs → In k (value (val_of_operand (first_operand xs)))
  first_value_in xs h = value_in (val_of_operand (first_operand xs)) (first_val_in xs h)

  -- braces

  abbrev pub BracesIn : Braces → Type 0
  BracesIn (whole t) = SomeSkelIn t
  BracesIn untargeted = Unit {0}
  BracesIn (listed t is_first next named) = In k t × SomeSkelIn named

  abbrev pub AllBracesIn : List Braces → Type 0
  AllBracesIn [] = Unit {0}
  AllBracesIn (it ∷ others) = BracesIn it × AllBracesIn others

  pub first_braces_in : (bs : List Braces) → AllBracesIn bs → BracesIn (first_braces bs)
  first_braces_in [] h = tt
  first_braces_in (it ∷ others) h = h.0

  pub others_in : (bs : List Braces) → AllBracesIn bs → AllBracesIn (without_innermost bs)
  others_in [] h = tt
  others_in (it ∷ others) h = h.1

  pub changed_in : (change : Braces → Braces) → ((it : Braces) → BracesIn it → BracesIn (change it)) →
      (bs : List Braces) → AllBracesIn bs → AllBracesIn (changed change bs)
  changed_in change c [] h = tt
  changed_in change c (it ∷ others) h = (c it h.0, h.1)

  item_target_in : (t : Skel) (is_first : Bool) (next : ℕ) (named : Option Skel) → In k t → SomeSkelIn named →
      SomeSkelIn (item_target k.world t is_first next named)
  item_target_in (ref v s) is_first next named (inl is) l = absurd cc
  item_target_in (ref v s) is_first next named (inr h) l = inr h.1
  item_target_in (flat v (kinds.Struct n)) is_first next None h l = next_in n next
  item_target_in (flat v (kinds.Struct n)) is_first next (Some named) h l = l
  item_target_in (flat v kinds.Base) is_first next named h l = alone_in is_first (flat v kinds.Base) h
  item_target_in (flat v kinds.Void) is_first next named h l = alone_in is_first (flat v kinds.Void) h
  item_target_in (flat v kinds.Nothing) is_first next named h l = tt
  item_target_in (fun v ps r e) is_first next named h l = tt

  pub target_in_in : (it : Braces) → BracesIn it → SomeSkelIn (target_in k.world it)
  target_in_in (whole t) h = h
  target_in_in untargeted h = tt
  target_in_in (listed t is_first next named) h = item_target_in t is_first next named h.0 h.1

  pub list_of_in : (t : Option Skel) → SomeSkelIn t → BracesIn (list_of t)
  list_of_in None h = tt
  list_of_in (Some t) h = (h, tt)

  pub with_member_in : (name : ℕ) (it : Braces) → BracesIn it → BracesIn (with_member k.world name it)
  with_member_in name (whole t) h = h
  with_member_in name untargeted h = tt
  with_member_in name (listed t is_first next None) h =
      (h.0, contents_in (member_skel k.world t name) (member_skel_in t name))
  with_member_in name (listed t is_first next (Some named)) h =
      (h.0, contents_in (member_skel k.world named name) (member_skel_in named name))

  pub with_index_in : (it : Braces) → BracesIn it → BracesIn (with_index it)
  with_index_in (whole t) h = h
  with_index_in untargeted h = tt
  with_index_in (listed t is_first next None) h = (h.0, contents_in t h.0)
  with_index_in (listed t is_first next (Some named)) h = (h.0, contents_in named h.1)

  pub with_item_in : (it : Braces) → BracesIn it → BracesIn (with_item it)
  with_item_in (whole t) h = h
  with_item_in untargeted h = tt
  with_item_in (listed t is_first next None) h = (h.0, tt)
  with_item_in (listed t is_first next (Some named)) h = (h.0, tt)
