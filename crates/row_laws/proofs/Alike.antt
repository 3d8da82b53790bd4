-- The function that a world says is around is of no use to the steps along a tape.
use Rattle.std.proofs.Common.{◌≡◌, ℕ, ◌+◌, ◌^◌, zero, suc, Bool, true, false, List, [], ◌∷◌, ◌++◌, Option, None, Some, refl, ◌∙◌, ap}
use Rattle.std.specs.Prelude.{◌&&◌, ◌||◌, if◌then◌else◌, nat_eq}
use Rattle.lattice_core.specs.View.{LatticeView}
use Rattle.c_words.specs.declared.kinds.Punct.{Punct}
use Rattle.qual_base.specs.declared.places.Span.{Span}
use Rattle.flow_graph.specs.declared.constraint.Constraint.{Constraint}
use Rattle.tape_ops.specs.declared.op.Op.{Op}
use Rattle.tape_ops.specs.declared.op.Op.TheVariants as ops
use Rattle.tape_ops.specs.declared.expression.ExprOp.{ExprOp}
use Rattle.tape_ops.specs.declared.expression.ExprOp.TheVariants as exprs
use Rattle.tape_ops.specs.declared.form.FormOp.{FormOp}
use Rattle.tape_ops.specs.declared.form.FormOp.TheVariants as forms
use Rattle.tape_ops.specs.declared.initialiser.InitOp.{InitOp}
use Rattle.tape_ops.specs.declared.initialiser.InitOp.TheVariants as inits
use Rattle.tape_ops.specs.declared.declarator.DeclrOp.{DeclrOp}
use Rattle.tape_ops.specs.declared.declarator.DeclrOp.TheVariants as declrs
use Rattle.tape_ops.specs.declared.specifier.SpecOp.{SpecOp}
use Rattle.tape_ops.specs.declared.specifier.SpecOp.TheVariants as specs
use Rattle.tape_ops.specs.declared.statement.StmtOp.{StmtOp}
use Rattle.tape_ops.specs.declared.statement.StmtOp.TheVariants as stmts
use Rattle.type_table.specs.Types.{Words, CType, base, void, struct, pointer, function, CTypes, no_types, more_types, words_of, words_or_none}
use Rattle.qual_types.specs.declared.look.Kind.TheVariants as kinds
use Rattle.qual_types.specs.Skel.{Skel, flat, ref, fun, Skels, no_skels, more_skels, root, param_at, struct_of}
use Rattle.name_rules.specs.Spellings.{Place}
use Rattle.name_rules.specs.Scopes.{Role, typedef_role, object_role, function_role, parameter_role, field_role, enumerator_role, Declared, declared_at, Use, means, called, missing, Known, Own}
use Rattle.name_rules.specs.Uses.{use_at}
use Rattle.name_rules.specs.ShapeSteps.State.{declared_last, changed}
use Rattle.row_rules.specs.Worlds.{World, all_lattices, at, span, skeleton}
use Rattle.row_rules.specs.Annotations.{Annotation, is_reference_mark, is_reference_word, words_of_level, sorted, annotations_at, some_annotations_at, inner, parameters, outcome, further, annotated, annotated_params, marked, annotation_constraints, annotating, names_lattice, all_words, uncut_from, uncut}
use Rattle.row_rules.specs.Vals.{Val, Candidate, is_carrying, left_of, pick_of, value, a_place, contents, member_of, known_skeleton, member_skel, prefix_of, used_by_role, used_some, used, own}
use Rattle.row_rules.specs.Forming.{formed}
use Rattle.row_rules.specs.Rows.{picking, picked, carried, identified_by, flowing, formed_here, formed_name, prefixed, passed, instance, some_instance, use_demand, annotating_some, cast_demand, annotating_name, name_row, declared_row, some_declared_row, into_param, param_row, RowKind, no_row, row_of_name, row_of_param, row_at, returned, started, own_skel, behind_known, annotating_place, by_role, by_first, initialised_at, taken, tied_to_first}
use Rattle.row_rules.specs.Indexing.{indexing}
use Rattle.row_rules.specs.RowSteps.Rounds.{Naming, a_name, own_param, other_param, identified_param, naming, is_quiet}
use Rattle.row_rules.specs.RowSteps.State.{Operand, Braces, whole, untargeted, listed, State, put, val_at, value_at, is_zero_at, type_at, first_operand, type_of_operand, operands_below, first_braces}
use Rattle.name_rules.specs.Checks.{is_star}
use Rattle.name_rules.specs.ShapeSteps.Steps.{twice}
use Rattle.row_rules.specs.RowSteps.Steps as steps
use Rattle.row_rules.specs.RowSteps.Steps.{carrying, selected, candidate_at, item_target, target_in, list_of, with_member, initialised_by, gone_through, expr_step, form_step, init_step, declr_step, stack_step, with_round_step, step, run}
use Rattle.row_rules.specs.RowSteps.OpRows.{function_skeleton, some_param_row, naming_row, into_target, expr_row, form_row, init_row, spec_row, declr_row, stmt_row, loud_row, op_row}
use Rattle.row_rules.specs.RowSteps.Found.{rows_found}
use Rattle.row_laws.proofs.Indexing.{indexing_alike}

-- a world with another function around
abbrev pub inside : Option Skel → World → World
inside o w = record w { own = o }

abbrev is_of_lattice : ℕ → Option (ℕ × ℕ) → Bool
is_of_lattice lattice None = false
is_of_lattice lattice (Some m) = nat_eq m.0 lattice

module _ (w : World) (o : Option Skel) where
  -- skeletons

  member_of_alike : (n : Option ℕ) (name : ℕ) → member_of (inside o w) n name ≡ member_of w n name
  member_of_alike None name = refl
  member_of_alike (Some n) name = refl

  known_alike : (it : Option Known) → known_skeleton (inside o w) it ≡ known_skeleton w it
  known_alike None = refl
  known_alike (Some it) = refl

  member_alike : (s : Skel) (name : ℕ) → member_skel (inside o w) s name ≡ member_skel w s name
  member_alike s name =
      known_alike (member_of (inside o w) (struct_of s) name)
      ∙ ap (known_skeleton w) (member_of_alike (struct_of s) name)

  prefix_alike : (p : Punct) (token : ℕ) (e : Val) (aims : Bool)
      → prefix_of (inside o w) token p e aims ≡ prefix_of w token p e aims
  prefix_alike p token e aims = refl

  carrying_alike : (p : Punct) (aims : Bool) → is_carrying (inside o w) p aims ≡ is_carrying w p aims
  carrying_alike p aims = refl

  role_alike : (token : ℕ) (p : Place) (role : Role) →
      used_by_role (inside o w) token p role ≡ used_by_role w token p role
  role_alike token p typedef_role = refl
  role_alike token p object_role = refl
  role_alike token p function_role = refl
  role_alike token p (parameter_role i) = refl
  role_alike token p (field_role n i) = refl
  role_alike token p enumerator_role = refl

  used_some_alike : (token : ℕ) (d : Option Declared) → used_some (inside o w) token d ≡ used_some w token d
  used_some_alike token None = refl
  used_some_alike token (Some d) = role_alike token d.at d.role

  used_alike : (token : ℕ) (u : Use) → used (inside o w) token u ≡ used w token u
  used_alike token (means p) = used_some_alike token (declared_at w.names.declared p)
  used_alike token called = refl
  used_alike token missing = refl

  -- annotations

  mark_alike : (m : Option (ℕ × ℕ)) → is_reference_mark (inside o w) m ≡ is_reference_mark w m
  mark_alike None = refl
  mark_alike (Some m) = refl

  level_alike : (is_reference : Bool) (ps : Words) →
      words_of_level (inside o w) is_reference ps ≡ words_of_level w is_reference ps
  level_alike true [] = refl
  level_alike false [] = refl
  level_alike true (p ∷ ps) =
      ap (λ (b : Bool). if b then p ∷ words_of_level (inside o w) true ps else words_of_level (inside o w) true ps)
      (mark_alike (w.mark p))
      ∙ ap (λ (qs : Words). if is_reference_word w p then p ∷ qs else qs) (level_alike true ps)
  level_alike false (p ∷ ps) =
      ap (λ (b : Bool). if b then words_of_level (inside o w) false ps else p ∷ words_of_level (inside o w) false ps)
      (mark_alike (w.mark p))
      ∙ ap (λ (qs : Words). if is_reference_word w p then qs else p ∷ qs) (level_alike false ps)

  flat_alike : (v : ℕ) (ps : Words) → annotations_at v (sorted (words_of_level (inside o w) false ps)) ≡
      annotations_at v (sorted (words_of_level w false ps))
  flat_alike v ps = ap (λ (qs : Words). annotations_at v (sorted qs)) (level_alike false ps)

  mutual
    annotated_alike : (t : CType) (s : Skel) → annotated (inside o w) t s ≡ annotated w t s
    annotated_alike (base ws) s = flat_alike (root s) ws
    annotated_alike (void ws) s = flat_alike (root s) ws
    annotated_alike (struct ws n) s = flat_alike (root s) ws
    annotated_alike (pointer ws t) s =
        ap (λ (qs : Words). annotations_at (root s) (sorted (qs ++ words_of_level (inside o w) true (words_of t)))
        ++ annotated (inside o w) t (inner s)) (level_alike false ws)
        ∙ (ap (λ (qs : Words). annotations_at (root s) (sorted (words_of_level w false ws ++ qs))
        ++ annotated (inside o w) t (inner s)) (level_alike true (words_of t))
        ∙ ap (λ (others : List Annotation). annotations_at (root s) (sorted (words_of_level w false ws
        ++ words_of_level w true (words_of t))) ++ others) (annotated_alike t (inner s)))
    annotated_alike (function ws ps t e) s =
        ap (λ (first : List Annotation). first ++ (annotated_params (inside o w) ps (parameters s)
        ++ (annotated (inside o w) t (outcome s) ++ some_annotations_at (further s) (sorted (words_or_none e)))))
        (flat_alike (root s) ws)
        ∙ (ap (λ (of_params : List Annotation). annotations_at (root s) (sorted (words_of_level w false ws))
        ++ (of_params ++ (annotated (inside o w) t (outcome s)
        ++ some_annotations_at (further s) (sorted (words_or_none e))))) (params_alike ps (parameters s))
        ∙ ap (λ (of_result : List Annotation). annotations_at (root s) (sorted (words_of_level w false ws))
        ++ (annotated_params w ps (parameters s) ++ (of_result
        ++ some_annotations_at (further s) (sorted (words_or_none e))))) (annotated_alike t (outcome s)))

    params_alike : (ts : CTypes) (ss : Skels) → annotated_params (inside o w) ts ss ≡ annotated_params w ts ss
    params_alike no_types ss = refl
    params_alike (more_types t ts) no_skels = refl
    params_alike (more_types t ts) (more_skels s ss) =
        ap (λ (first : List Annotation). first ++ annotated_params (inside o w) ts ss) (annotated_alike t s)
        ∙ ap (λ (others : List Annotation). annotated w t s ++ others) (params_alike ts ss)

  marked_alike : (m : Option (ℕ × ℕ)) (a : Annotation) → marked (inside o w) m a ≡ marked w m a
  marked_alike None a = refl
  marked_alike (Some m) a = refl

  constraints_alike : (all : List Annotation) →
      annotation_constraints (inside o w) all ≡ annotation_constraints w all
  constraints_alike [] = refl
  constraints_alike (a ∷ others) =
      ap (λ (first : List Constraint). first ++ annotation_constraints (inside o w) others)
      (marked_alike (w.mark a.word) a)
      ∙ ap (λ (rest : List Constraint). marked w (w.mark a.word) a ++ rest) (constraints_alike others)

  annotating_alike : (t : CType) (s : Skel) → annotating (inside o w) t s ≡ annotating w t s
  annotating_alike t s =
      constraints_alike (annotated (inside o w) t s) ∙ ap (annotation_constraints w) (annotated_alike t s)

  names_alike : (lattice : ℕ) (ps : Words) → names_lattice (inside o w) lattice ps ≡ names_lattice w lattice ps
  names_alike lattice [] = refl
  names_alike lattice (p ∷ ps) =
      ap (λ (b : Bool). is_of_lattice lattice (w.mark p) || b) (names_alike lattice ps)

  uncut_from_alike : (ps : Words) (n : ℕ) (views : List LatticeView) →
      uncut_from (inside o w) ps n views ≡ uncut_from w ps n views
  uncut_from_alike ps n [] = refl
  uncut_from_alike ps n (view ∷ views) =
      ap (λ (b : Bool). (if b then 0 else 2 ^ n) + uncut_from (inside o w) ps (suc n) views) (names_alike n ps)
      ∙ ap (λ (m : ℕ). (if names_lattice w n ps then 0 else 2 ^ n) + m) (uncut_from_alike ps (suc n) views)

  -- rows

  prefixed_alike : (p : Punct) (is_zero : Bool) (e : Val) (t : Skel) (aims : Bool) (where_ : Span) →
      prefixed (inside o w) p is_zero e t aims where_ ≡ prefixed w p is_zero e t aims where_
  prefixed_alike p is_zero e t aims where_ = refl

  picking_alike : (all : List Candidate) (t : Skel) (where_ : Span)
      → picking (inside o w) all t where_ ≡ picking w all t where_
  picking_alike [] t where_ = refl
  picking_alike (it ∷ others) t where_ =
      ap (λ (rows : List Constraint). flowing it.is_zero (value it.val) t (all_lattices w) where_ ++ rows)
      (picking_alike others t where_)

  picked_alike : (all : List Candidate) (t : Skel) (where_ : Span)
      → picked (inside o w) all t where_ ≡ picked w all t where_
  picked_alike [] t where_ = refl
  picked_alike (it ∷ []) t where_ = refl
  picked_alike (it ∷ other ∷ others) t where_ =
      ap (λ (rows : List Constraint). formed w where_ t ++ rows) (picking_alike (it ∷ other ∷ others) t where_)

  passed_alike : (is_zero : Bool) (a : Skel) (t : Option Skel) (e : Option ℕ) (where_ : Span) →
      passed (inside o w) is_zero a t e where_ ≡ passed w is_zero a t e where_
  passed_alike is_zero a (Some t) e where_ = refl
  passed_alike is_zero a None None where_ = refl
  passed_alike is_zero a None (Some e) where_ = refl

  instance_alike : (token : ℕ) (p : Place) (role : Role) →
      instance (inside o w) token p role ≡ instance w token p role
  instance_alike token p typedef_role = refl
  instance_alike token p object_role = refl
  instance_alike token p function_role = refl
  instance_alike token p (parameter_role i) = refl
  instance_alike token p (field_role n i) = refl
  instance_alike token p enumerator_role = refl

  some_instance_alike : (token : ℕ) (d : Option Declared) →
      some_instance (inside o w) token d ≡ some_instance w token d
  some_instance_alike token None = refl
  some_instance_alike token (Some d) = instance_alike token d.at d.role

  use_alike : (token : ℕ) (u : Use) → use_demand (inside o w) token u ≡ use_demand w token u
  use_alike token (means p) = some_instance_alike token (declared_at w.names.declared p)
  use_alike token called = refl
  use_alike token missing = refl

  annotating_some_alike : (t : Option CType) (s : Skel) → annotating_some (inside o w) t s ≡ annotating_some w t s
  annotating_some_alike None s = refl
  annotating_some_alike (Some t) s = annotating_alike t s

  annotating_place_alike : (t : Option CType) (s : Skel) →
      annotating_place (inside o w) t s ≡ annotating_place w t s
  annotating_place_alike None s = refl
  annotating_place_alike (Some t) s = annotating_alike (pointer [] t) s

  cast_alike : (t : Option CType) (is_zero : Bool) (a own : Skel) (where_ : Span) →
      cast_demand (inside o w) t is_zero a own where_ ≡ cast_demand w t is_zero a own where_
  cast_alike None is_zero a own where_ = refl
  cast_alike (Some t) is_zero a own where_ =
      ap (λ (rows : List Constraint). formed w where_ own ++ (rows ++ flowing_in (uncut (inside o w) t)))
      (annotating_alike t own)
      ∙ ap (λ (n : ℕ). formed w where_ own ++ (annotating w t own ++ flowing_in n))
      (uncut_from_alike (all_words t) 0 w.lattices)
    where
      flowing_in : ℕ → List Constraint
      flowing_in n = if nat_eq n 0 then [] else flowing is_zero a own n where_

  name_alike : (d : Declared) → name_row (inside o w) d ≡ name_row w d
  name_alike d =
      ap (λ (rows : List Constraint). formed_name w d ++ (rows
      ++ (indexing (inside o w) (pointer [] d.type) (skeleton w d.at) ++ tied_to_first w d)))
      (annotating_alike (pointer [] d.type) (skeleton w d.at))
      ∙ ap (λ (rows : List Constraint). formed_name w d ++ (annotating_name w d ++ (rows ++ tied_to_first w d)))
      (indexing_alike w o (pointer [] d.type) (skeleton w d.at))

  declared_alike : (d : Declared) (role : Role) → declared_row (inside o w) d role ≡ declared_row w d role
  declared_alike d typedef_role = refl
  declared_alike d object_role = name_alike d
  declared_alike d function_role = name_alike d
  declared_alike d (parameter_role i) = name_alike d
  declared_alike d (field_role n i) = name_alike d
  declared_alike d enumerator_role = refl

  some_declared_alike : (d : Option Declared) → some_declared_row (inside o w) d ≡ some_declared_row w d
  some_declared_alike None = refl
  some_declared_alike (Some d) = declared_alike d d.role

  into_alike : (s : Option Skel) (d : Declared) → into_param (inside o w) s d ≡ into_param w s d
  into_alike None d = refl
  into_alike (Some s) d = refl

  param_alike : (s : Skel) (i : ℕ) (d : Option Declared) → param_row (inside o w) s i d ≡ param_row w s i d
  param_alike s i None = refl
  param_alike s i (Some d) =
      ap (λ (rows : List Constraint).
      formed_name w d ++ (rows ++ into_param (inside o w) (param_at (parameters s) i) d))
      (annotating_alike (pointer [] d.type) (skeleton w d.at))
      ∙ ap (λ (rows : List Constraint). formed_name w d ++ (annotating_name w d ++ rows))
      (into_alike (param_at (parameters s) i) d)

  row_alike : (row : RowKind) (token : ℕ) → row_at (inside o w) row token ≡ row_at w row token
  row_alike no_row token = refl
  row_alike row_of_name token = some_declared_alike (declared_at w.names.declared (at w token))
  row_alike (row_of_param s i) token = param_alike s i (declared_at w.names.declared (at w token))

  function_alike : (token : Option ℕ) → function_skeleton (inside o w) token ≡ function_skeleton w token
  function_alike None = refl
  function_alike (Some token) = refl

  naming_alike : (it : Naming) (token : ℕ) → naming_row (inside o w) it token ≡ naming_row w it token
  naming_alike a_name token = refl
  naming_alike (own_param f n) token = ap (λ (s : Option Skel). some_param_row s n) (function_alike f)
  naming_alike other_param token = refl
  naming_alike (identified_param f) token =
      ap (λ (s : Option Skel). identified_by s (declared_at w.names.declared (at w token))) (function_alike f)

  returned_alike : (s : Option Skel) (is_zero : Bool) (a : Skel) (where_ : Span) →
      returned (inside o w) s is_zero a where_ ≡ returned w s is_zero a where_
  returned_alike None is_zero a where_ = refl
  returned_alike (Some s) is_zero a where_ = refl

  started_alike : (s : Option Skel) (list : Skel) (where_ : Span) →
      started (inside o w) s list where_ ≡ started w s list where_
  started_alike None list where_ = refl
  started_alike (Some (fun v ps t (Some e))) list where_ = refl
  started_alike (Some (fun v ps t None)) list where_ = refl
  started_alike (Some (flat v kind)) list where_ = refl
  started_alike (Some (ref v s)) list where_ = refl

  -- initialisers

  own_skel_alike : (it : Option Own) → own_skel (inside o w) it ≡ own_skel w it
  own_skel_alike None = refl
  own_skel_alike (Some it) = refl

  by_role_alike : (d : Declared) (role : Role) → by_role (inside o w) d role ≡ by_role w d role
  by_role_alike d typedef_role = refl
  by_role_alike d object_role = refl
  by_role_alike d function_role = refl
  by_role_alike d (parameter_role i) = refl
  by_role_alike d (field_role n i) = refl
  by_role_alike d enumerator_role = refl

  by_first_alike : (d : Declared) (first : Option Declared) → by_first (inside o w) d first ≡ by_first w d first
  by_first_alike d None = refl
  by_first_alike d (Some first) = by_role_alike d first.role

  initialised_at_alike : (d : Option Declared) → initialised_at (inside o w) d ≡ initialised_at w d
  initialised_at_alike None = refl
  initialised_at_alike (Some d) = by_first_alike d (declared_at w.names.declared d.first)

  initialised_alike : (token : Option ℕ) → initialised_by (inside o w) token ≡ initialised_by w token
  initialised_alike None = refl
  initialised_alike (Some token) = initialised_at_alike (declared_at w.names.declared (at w token))

  item_alike : (t : Skel) (is_first : Bool) (n : ℕ) (now : Option Skel) →
      item_target (inside o w) t is_first n now ≡ item_target w t is_first n now
  item_alike (ref v s) is_first n now = refl
  item_alike (flat v (kinds.Struct m)) is_first n None = own_skel_alike _
  item_alike (flat v (kinds.Struct m)) is_first n (Some now) = refl
  item_alike (flat v kinds.Base) is_first n now = refl
  item_alike (flat v kinds.Void) is_first n now = refl
  item_alike (flat v kinds.Nothing) is_first n now = refl
  item_alike (fun v ps t e) is_first n now = refl

  target_alike : (it : Braces) → target_in (inside o w) it ≡ target_in w it
  target_alike (whole t) = refl
  target_alike untargeted = refl
  target_alike (listed t is_first n now) = item_alike t is_first n now

  braces_alike : (name : ℕ) (it : Braces) → with_member (inside o w) name it ≡ with_member w name it
  braces_alike name (whole t) = refl
  braces_alike name untargeted = refl
  braces_alike name (listed t is_first n None) =
      ap (λ (m : Option Known). listed t is_first (behind_known m n)
      (Some (contents (member_skel (inside o w) t name)))) (member_of_alike (struct_of t) name)
      ∙ ap (λ (s : Skel). listed t is_first (behind_known (member_of w (struct_of t) name) n) (Some (contents s)))
      (member_alike t name)
  braces_alike name (listed t is_first n (Some now)) =
      ap (λ (s : Skel). listed t is_first n (Some (contents s))) (member_alike now name)

  all_braces_alike : (name : ℕ) (all : List Braces) →
      changed (with_member (inside o w) name) all ≡ changed (with_member w name) all
  all_braces_alike name [] = refl
  all_braces_alike name (it ∷ outer) = ap (λ (first : Braces). first ∷ outer) (braces_alike name it)

  into_target_alike : (t : Option Skel) (it : Operand) (where_ : Span) →
      into_target (inside o w) t it where_ ≡ into_target w t it where_
  into_target_alike None it where_ = refl
  into_target_alike (Some t) it where_ = refl

  -- steps

  expr_step_alike : (st : State) (op : ExprOp) → expr_step (inside o w) st op ≡ expr_step w st op
  expr_step_alike st (exprs.Name is_called token name) =
      ap (λ (it : Val). put 0 it st) (used_alike token (use_at w.names.uses (at w token)))
  expr_step_alike st (exprs.Number token) = refl
  expr_step_alike st (exprs.Char token) = refl
  expr_step_alike st (exprs.Text token) = refl
  expr_step_alike st (exprs.Paren token) = refl
  expr_step_alike st (exprs.Ext token) = refl
  expr_step_alike st (exprs.Comma token) = refl
  expr_step_alike st (exprs.Assign sign token first last) = refl
  expr_step_alike st (exprs.Cond has_middle token first last) = refl
  expr_step_alike st (exprs.Binary sign token first last) = refl
  expr_step_alike st (exprs.Prefix sign token last aims) =
      ap (λ (it : Val). put 1 it (carrying (aims && is_star sign) (value_at 0 st) st))
      (prefix_alike sign token (val_at 0 st) aims)
  expr_step_alike st (exprs.Post sign token first) = refl
  expr_step_alike st (exprs.Index token first last aims) = refl
  expr_step_alike st (exprs.Arg behind first last) = refl
  expr_step_alike st (exprs.Call token count) = refl
  expr_step_alike st (exprs.Arrow token first last aims) = refl
  expr_step_alike st (exprs.Dot token member name) =
      ap (λ (it : Skel). put 1 (a_place it) st) (member_alike (value_at 0 st) name)
  expr_step_alike st (exprs.Label token) = refl

  selected_alike : (token i n : ℕ) (st : State) → selected (inside o w) token i n st ≡ selected w token i n st
  selected_alike token i zero st = refl
  selected_alike token i (suc n) st =
      ap (λ (all : List Candidate). (if w.candidate (at w token) i then candidate_at (twice n) st ∷ [] else []) ++ all)
      (selected_alike token (suc i) n st)

  form_step_alike : (st : State) (op : FormOp) → form_step (inside o w) st op ≡ form_step w st op
  form_step_alike st (forms.Cast token last) = refl
  form_step_alike st (forms.Sizeof token) = refl
  form_step_alike st (forms.StmtExpr has_value token) = refl
  form_step_alike st (forms.VaArg token last) = refl
  form_step_alike st (forms.VaStart token last) = refl
  form_step_alike st (forms.VaCopy token last) = refl
  form_step_alike st (forms.OffsetMember token name) = refl
  form_step_alike st (forms.OffsetIndex token) = refl
  form_step_alike st (forms.Offset token) = refl
  form_step_alike st (forms.Compat token) = refl
  form_step_alike st forms.Control = refl
  form_step_alike st forms.NoType = refl
  form_step_alike st (forms.Choose token) = refl
  form_step_alike st (forms.Generic token count) =
      ap (λ (all : List Candidate). put (suc (twice count)) (pick_of (own w token) all) st)
      (selected_alike token 0 count st)

  init_step_alike : (st : State) (op : InitOp) → init_step (inside o w) st op ≡ init_step w st op
  init_step_alike st (inits.Value first last) = refl
  init_step_alike st inits.Begin = refl
  init_step_alike st inits.Rule =
      ap (λ (t : Option Skel). gone_through t st) (initialised_alike (declared_last st.declarations))
  init_step_alike st (inits.Literal token) = refl
  init_step_alike st inits.ListBegin =
      ap (λ (t : Option Skel). record st { braces = list_of t ∷ st.braces }) (target_alike (first_braces st.braces))
  init_step_alike st (inits.Member token name) =
      ap (λ (all : List Braces). record st { braces = all }) (all_braces_alike name st.braces)
  init_step_alike st (inits.Index token) = refl
  init_step_alike st (inits.Leaf first last) = refl
  init_step_alike st inits.ListEnd = refl
  init_step_alike st inits.End = refl
  init_step_alike st inits.LiteralEnd = refl

  declr_step_alike : (st : State) (op : DeclrOp) → declr_step (inside o w) st op ≡ declr_step w st op
  declr_step_alike st (declrs.DeclName token name) = refl
  declr_step_alike st (declrs.ParamsBegin is_own) = refl
  declr_step_alike st declrs.Param = refl
  declr_step_alike st declrs.ParamsEnd = refl
  declr_step_alike st declrs.Pointer = refl
  declr_step_alike st declrs.Array = refl
  declr_step_alike st (declrs.Function has_ellipsis) = refl
  declr_step_alike st declrs.Declare = refl
  declr_step_alike st declrs.AutoBegin = refl
  declr_step_alike st (declrs.AutoEnd token) = refl
  declr_step_alike st (declrs.Identifier token name) = refl
  declr_step_alike st declrs.OldParam = refl
  declr_step_alike st declrs.Member = refl
  declr_step_alike st (declrs.TypeName first) = refl
  declr_step_alike st declrs.DeclarationEnd = refl

  stack_alike : (st : State) (op : Op) → stack_step (inside o w) st op ≡ stack_step w st op
  stack_alike st (ops.Expr op) = expr_step_alike st op
  stack_alike st (ops.Form op) = form_step_alike st op
  stack_alike st (ops.Init op) = init_step_alike st op
  stack_alike st (ops.Spec op) = refl
  stack_alike st (ops.Declr op) = declr_step_alike st op
  stack_alike st (ops.Stmt op) = refl

  step_alike : (st : State) (op : Op) → step (inside o w) st op ≡ step w st op
  step_alike st op = ap (with_round_step st op) (stack_alike st op)

  -- rows of ops

  expr_row_alike : (st : State) (op : ExprOp) → expr_row (inside o w) st op ≡ expr_row w st op
  expr_row_alike st (exprs.Name is_called token name) = use_alike token (use_at w.names.uses (at w token))
  expr_row_alike st (exprs.Number token) = refl
  expr_row_alike st (exprs.Char token) = refl
  expr_row_alike st (exprs.Text token) = refl
  expr_row_alike st (exprs.Paren token) = refl
  expr_row_alike st (exprs.Ext token) = refl
  expr_row_alike st (exprs.Comma token) = refl
  expr_row_alike st (exprs.Assign sign token first last) = refl
  expr_row_alike st (exprs.Cond has_middle token first last) = refl
  expr_row_alike st (exprs.Binary sign token first last) = refl
  expr_row_alike st (exprs.Prefix sign token last aims) =
      ap (λ (is : Bool). if is then carried w (val_at 0 st).skel st.carried (own w token) (span w token token)
      else prefixed (inside o w) sign (is_zero_at 0 st) (val_at 0 st) (own w token) aims (span w token last))
      (carrying_alike sign aims)
      ∙ ap (λ (rows : List Constraint). if is_carrying w sign aims
      then carried w (val_at 0 st).skel st.carried (own w token) (span w token token) else rows)
      (prefixed_alike sign (is_zero_at 0 st) (val_at 0 st) (own w token) aims (span w token last))
  expr_row_alike st (exprs.Post sign token first) = refl
  expr_row_alike st (exprs.Index token first last aims) = refl
  expr_row_alike st (exprs.Arg behind first last) = passed_alike _ _ _ _ _
  expr_row_alike st (exprs.Call token count) = refl
  expr_row_alike st (exprs.Arrow token first last aims) = refl
  expr_row_alike st (exprs.Dot token member name) = refl
  expr_row_alike st (exprs.Label token) = refl

  form_row_alike : (st : State) (op : FormOp) → form_row (inside o w) st op ≡ form_row w st op
  form_row_alike st (forms.Cast token last) =
      cast_alike (type_at 1 st) (is_zero_at 0 st) (value_at 0 st) (own w token) (span w token last)
  form_row_alike st (forms.Sizeof token) = refl
  form_row_alike st (forms.StmtExpr has_value token) = refl
  form_row_alike st (forms.VaArg token last) =
      ap (λ (rows : List Constraint). formed w (span w token last) (own w token) ++ (rows
      ++ taken w (value_at 1 st) (own w token) (span w token last)))
      (annotating_some_alike (type_at 0 st) (own w token))
  form_row_alike st (forms.VaStart token last) =
      started_alike (function_skeleton (inside o w) st.rounds.body) (value_at 1 st) (span w token last)
      ∙ ap (λ (s : Option Skel). started w s (value_at 1 st) (span w token last)) (function_alike st.rounds.body)
  form_row_alike st (forms.VaCopy token last) = refl
  form_row_alike st (forms.OffsetMember token name) = refl
  form_row_alike st (forms.OffsetIndex token) = refl
  form_row_alike st (forms.Offset token) = refl
  form_row_alike st (forms.Compat token) = refl
  form_row_alike st forms.Control = refl
  form_row_alike st forms.NoType = refl
  form_row_alike st (forms.Choose token) = picked_alike (left_of (steps.chosen st)) (own w token) (span w token token)
  form_row_alike st (forms.Generic token count) =
      ap (λ (all : List Candidate). picked (inside o w) (left_of all) (own w token) (span w token token))
      (selected_alike token 0 count st)
      ∙ picked_alike (left_of (selected w token 0 count st)) (own w token) (span w token token)

  init_row_alike : (st : State) (op : InitOp) → init_row (inside o w) st op ≡ init_row w st op
  init_row_alike st (inits.Value first last) =
      into_target_alike (initialised_by (inside o w) (declared_last st.declarations)) (first_operand st.operands)
      (span w first last)
      ∙ ap (λ (t : Option Skel). into_target w t (first_operand st.operands) (span w first last))
      (initialised_alike (declared_last st.declarations))
  init_row_alike st inits.Begin = refl
  init_row_alike st inits.Rule = refl
  init_row_alike st (inits.Literal token) =
      ap (λ (rows : List Constraint). formed_here w token ++ rows)
      (annotating_place_alike (type_of_operand (first_operand (operands_below st))) (own w token))
  init_row_alike st inits.ListBegin = refl
  init_row_alike st (inits.Member token name) = refl
  init_row_alike st (inits.Index token) = refl
  init_row_alike st (inits.Leaf first last) =
      into_target_alike (target_in (inside o w) (first_braces st.braces)) (first_operand st.leaves)
      (span w first last)
      ∙ ap (λ (t : Option Skel). into_target w t (first_operand st.leaves) (span w first last))
      (target_alike (first_braces st.braces))
  init_row_alike st inits.ListEnd = refl
  init_row_alike st inits.End = refl
  init_row_alike st inits.LiteralEnd = refl

  declr_row_alike : (st : State) (op : DeclrOp) → declr_row (inside o w) st op ≡ declr_row w st op
  declr_row_alike st (declrs.DeclName token name) =
      row_alike (naming_row (inside o w) (naming st.rounds) token) token
      ∙ ap (λ (row : RowKind). row_at w row token) (naming_alike (naming st.rounds) token)
  declr_row_alike st (declrs.ParamsBegin is_own) = refl
  declr_row_alike st declrs.Param = refl
  declr_row_alike st declrs.ParamsEnd = refl
  declr_row_alike st declrs.Pointer = refl
  declr_row_alike st declrs.Array = refl
  declr_row_alike st (declrs.Function has_ellipsis) = refl
  declr_row_alike st declrs.Declare = refl
  declr_row_alike st declrs.AutoBegin = refl
  declr_row_alike st (declrs.AutoEnd token) = refl
  declr_row_alike st (declrs.Identifier token name) = refl
  declr_row_alike st declrs.OldParam = refl
  declr_row_alike st declrs.Member = refl
  declr_row_alike st (declrs.TypeName first) = refl
  declr_row_alike st declrs.DeclarationEnd = refl

  stmt_row_alike : (st : State) (op : StmtOp) → stmt_row (inside o w) st op ≡ stmt_row w st op
  stmt_row_alike st stmts.Quiet = refl
  stmt_row_alike st stmts.Loud = refl
  stmt_row_alike st stmts.Pop = refl
  stmt_row_alike st (stmts.Return token last) =
      returned_alike (function_skeleton (inside o w) st.rounds.body) (is_zero_at 0 st) (value_at 0 st)
      (span w token last)
      ∙ ap (λ (s : Option Skel). returned w s (is_zero_at 0 st) (value_at 0 st) (span w token last))
      (function_alike st.rounds.body)
  stmt_row_alike st stmts.Enter = refl
  stmt_row_alike st stmts.Leave = refl
  stmt_row_alike st stmts.FunctionBody = refl
  stmt_row_alike st stmts.FunctionEnd = refl

  spec_row_alike : (op : SpecOp) → spec_row (inside o w) op ≡ spec_row w op
  spec_row_alike (specs.Word token) = refl
  spec_row_alike (specs.Storage keyword) = refl
  spec_row_alike specs.Void = refl
  spec_row_alike (specs.Typedef token name) = refl
  spec_row_alike (specs.TagUse kind token name) = refl
  spec_row_alike (specs.TagAlone kind token name) = refl
  spec_row_alike (specs.TagBody kind token name) = refl
  spec_row_alike (specs.Untagged kind token) = refl
  spec_row_alike specs.BodyEnd = refl
  spec_row_alike (specs.Enumerator token name) = refl
  spec_row_alike (specs.UnnamedMember token) = refl
  spec_row_alike specs.PartBegin = refl
  spec_row_alike (specs.TypeofEnd token) = refl
  spec_row_alike specs.TypeEnd = refl
  spec_row_alike specs.SpecsEnd = refl

  loud_alike : (st : State) (op : Op) → loud_row (inside o w) st op ≡ loud_row w st op
  loud_alike st (ops.Expr op) = expr_row_alike st op
  loud_alike st (ops.Form op) = form_row_alike st op
  loud_alike st (ops.Init op) = init_row_alike st op
  loud_alike st (ops.Spec op) = spec_row_alike op
  loud_alike st (ops.Declr op) = declr_row_alike st op
  loud_alike st (ops.Stmt op) = stmt_row_alike st op

  op_row_alike : (st : State) (op : Op) → op_row (inside o w) st op ≡ op_row w st op
  op_row_alike st op = ap (λ (rows : List Constraint). if is_quiet st.rounds then [] else rows) (loud_alike st op)

  pub run_alike : (tape : List Op) (st : State) → run (inside o w) st tape ≡ run w st tape
  run_alike [] st = refl
  run_alike (op ∷ tape) st =
      ap (λ (it : State). run (inside o w) it tape) (step_alike st op) ∙ run_alike tape (step w st op)

  pub rows_alike : (tape : List Op) (st : State) → rows_found (inside o w) st tape ≡ rows_found w st tape
  rows_alike [] st = refl
  rows_alike (op ∷ tape) st =
      ap (λ (rows : List Constraint). rows ++ rows_found (inside o w) (step (inside o w) st op) tape)
      (op_row_alike st op)
      ∙ (ap (λ (it : State). op_row w st op ++ rows_found (inside o w) it tape) (step_alike st op)
      ∙ ap (λ (rows : List Constraint). op_row w st op ++ rows) (rows_alike tape (step w st op)))
