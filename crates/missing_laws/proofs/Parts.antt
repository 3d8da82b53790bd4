-- What the rows of forms stand on is the same whatever stands behind the skeletons and call sites of a world.
use Rattle.std.proofs.Common.{◌≡◌, ℕ, suc, Bool, true, false, List, [], ◌∷◌, ◌++◌, length, Option, None, Some, refl, sym, ap, subst, ◌∙◌}
use Rattle.std.specs.Prelude.{◌&&◌, ◌||◌, not, nat_eq, nat_lt, if◌then◌else◌}
use Rattle.c_words.specs.declared.kinds.Punct.{Punct}
use Rattle.c_words.specs.declared.kinds.Punct.TheVariants as signs
use Rattle.qual_base.specs.declared.places.Span.{Span}
use Rattle.flow_graph.specs.declared.constraint.Constraint.{Constraint}
use Rattle.c_tree.specs.Tree.{Expr, operation, cast, prefix, sizeof_value, sizeof_type, extension, index, call, dot, arrow, post, compound, name_use, number_use, char_use, text_use, paren, statement_expr, va_arg, va_start, va_copy, offset, comma, assign, cond, binary, SomeExpr, no_expr, some_expr, Exprs, no_exprs, more_exprs, Init, init_value, init_braced, InitList, init_list, InitItems, no_init_items, more_init_items, Desigs, no_desigs, more_desigs, Desig, member_desig, index_desig, SomeInit, no_init, some_init, InitDeclrs, no_init_declrs, more_init_declrs, Declaration, declaration, Decl, decl_declaration, decl_assert, BlockItems, no_block_items, more_block_items, BlockItem, block_decl, block_stmt, Stmt, block, expr_stmt, attr_stmt, label, case_stmt, default_stmt, if_stmt, switch_stmt, while_stmt, do_stmt, for_stmt, goto_stmt, continue_stmt, break_stmt, return_stmt, asm_stmt, SomeElse, no_else, some_else, ForStart, start_declaration, start_value, Declr, declr_name, declr_paren, array, params, abs_pointer, abs_paren, abs_array, abs_params, SomeDeclr, no_declr, some_declr, complex_part, label_use, compat, choose, generic, typeof_value, typeof_type, align, auto_word, range_desig, old_desig, case_range, goto_value, block_labels, identifiers, base_name, Assocs, no_assocs, more_assocs, Assoc, typed_assoc, default_assoc}
use Rattle.c_tree.specs.Tree as trees
use Rattle.type_table.specs.Types.{CType, pointer}
use Rattle.qual_types.specs.declared.look.Kind.TheVariants as kinds
use Rattle.qual_types.specs.Skel.{Skel, flat, ref, fun, root}
use Rattle.flow_rules.specs.Lists.{cross}
use Rattle.name_rules.specs.Spellings.{Place, Named}
use Rattle.name_rules.specs.Scopes.{is_place, Role, typedef_role, object_role, function_role, parameter_role, field_role, enumerator_role, Declared, declared_at, Use, means, called, missing}
use Rattle.name_rules.specs.Values.{Shape, is_additive}
use Rattle.name_rules.specs.Values as shapes
use Rattle.name_rules.specs.Uses.{use_at}
use Rattle.type_rules.specs.Shapes.{shape_of}
use Rattle.type_rules.specs.Tokens.{declared_name, some_declared_name}
use Rattle.row_rules.specs.Annotations.{annotating, write_bounds, uncut}
use Rattle.row_rules.specs.Sites.{has_place}
use Rattle.row_rules.specs.Starting.{Around, Start, fresh, some_fresh, some_place, fresh_where, is_fresh_binary, is_fresh_sum, is_some_pointer, use_start, some_use_start, use_by_role, Having, had_name, name_start, without_skeleton, is_fresh_prefix}
use Rattle.row_rules.specs.Forming.{formed}
use Rattle.row_rules.specs.Rows.{carried, carrying, picked, picking, by_first, by_role, initialised, initialised_at, annotating_place, annotating_some, cast_demand, computed, crossed, dereferenced, flowing, formed_here, instance, is_logical, prefixed, some_instance, use_demand}
use Rattle.row_rules.specs.Vals.{Candidate, Val, contents, is_ref, own, value}
use Rattle.row_rules.specs.Worlds.{World, all_lattices, at, in_all, number_among, site_number, skeleton, span}
use Rattle.constraint_rules.specs.Starts.{expr_starts, some_declr_starts, declr_starts, some_declr_starts}
use Rattle.constraint_rules.specs.Values.{val}
use Rattle.constraint_rules.specs.Demands.{desig_skel, desigs_skel, item_skel, next_behind}
use Rattle.first_laws.specs.Firsts.{has_skeleton}
use Rattle.missing_laws.specs.Everywhere.{ExprHas, NamedHas}
use Rattle.missing_laws.specs.Finding.{AreFound, HasType, FirstIsMet, IsSettled, MembersBegin, NameBegins, RoleHasSkeleton, TokenBegins, UseBegins, loud}
use Rattle.missing_laws.proofs.Picks.{more_than_one}
use Rattle.missing_laws.proofs.Readings.{ref_where}
use Rattle.missing_laws.proofs.Found.{Further, world, front}
use Rattle.missing_laws.proofs.Types.{Is, valued}
use Rattle.missing_laws.proofs.Values.{agrees, reads}
use Rattle.missing_laws.proofs.Marks.{ap2, joined, annotating_is, uncut_is}
use Rattle.missing_laws.proofs.Rows.{formed_same, found_same, member_same, name_same, next_same}

-- sites

number_where : (b : Bool) (n x y : ℕ) (h : Bool) → (if b then true else h) ≡ true → (h ≡ true → x ≡ y) →
    (if b then n else x) ≡ (if b then n else y)
number_where true n x y h e g = refl
number_where false n x y h e g = g e

-- a place among the call sites has the same number with further sites behind them
site_same : (places more : List Place) (p : Place) (n : ℕ) → has_place places p ≡ true →
    number_among n (places ++ more) p ≡ number_among n places p
site_same [] more p n h = absurd cc
site_same (r ∷ places) more p n h =
    number_where (is_place r p) n _ _ (has_place places p) h (λ e. site_same places more p (suc n) e)

-- the name of a declarator

mutual
  named_found : (w : World) (a : Around) (h g : Having) (d : Declr) (it : Named) → declared_name d ≡ Some it →
      AreFound w (declr_starts a h g d) → AreFound w (had_name h a it.token)
  named_found w a h g (trees.pointer star words d) it e found = named_found w a h g d it e found
  named_found w a h g (declr_name token name) it e found =
      let same : record { token = token; name = name } ≡ it = cc in
      subst (λ (o : Named). AreFound w (had_name h a o.token)) same found
  named_found w a h g (declr_paren opening attrs d closing) it e found = named_found w a h g d it e found
  named_found w a h g (array d opening words size closing) it e found =
      named_found w a h g d it e (front w (declr_starts a h g d) _ found)
  named_found w a h g (params d opening ps dots closing) it e found =
      named_found w a h g d it e (front w (declr_starts a h g d) _ found)
  named_found w a h g (identifiers d opening names closing) it e found = named_found w a h g d it e found
  named_found w a h g (base_name token) it e found = absurd cc
  named_found w a h g (abs_pointer star words d) it e found = some_named_found w a h d it e found
  named_found w a h g (abs_paren opening attrs d closing) it e found = named_found w a h g d it e found
  named_found w a h g (abs_array d opening words size closing) it e found =
      some_named_found w a h d it e (front w (some_declr_starts a h d) _ found)
  named_found w a h g (abs_params d opening ps dots closing) it e found =
      some_named_found w a h d it e (front w (some_declr_starts a h d) _ found)

  some_named_found : (w : World) (a : Around) (h : Having) (d : SomeDeclr) (it : Named) →
      some_declared_name d ≡ Some it → AreFound w (some_declr_starts a h d) → AreFound w (had_name h a it.token)
  some_named_found w a h no_declr it e found = absurd cc
  some_named_found w a h (some_declr d) it e found = named_found w a h without_skeleton d it e found

pub name_found : (w : World) (a : Around) (h g : Having) (d : Declr) (it : Named) → declared_name d ≡ Some it →
    AreFound w (declr_starts a h g d) → AreFound w (had_name h a it.token)
name_found = named_found

pub some_name_found : (w : World) (a : Around) (h : Having) (d : SomeDeclr) (it : Named)
    → some_declared_name d ≡ Some it →
    AreFound w (some_declr_starts a h d) → AreFound w (had_name h a it.token)
some_name_found = some_named_found

module _ (w : World) (members : MembersBegin w) (k l : Further) (same_own : k.2 ≡ l.2) (f : Option Place) where
  abbrev pub wk : World
  wk = world w k

  abbrev pub wl : World
  wl = world w l

  abbrev pub a : Around
  a = loud w f

  abbrev pub U : ℕ → Type 0
  U token = TokenBegins w token

  abbrev pub V : ℕ → Type 0
  V token = FirstIsMet w token

  abbrev pub W : ℕ → Type 0
  W token = RoleHasSkeleton w token

  abbrev pub sh : Expr → Shape
  sh e = shape_of w.spelling w.names e

  abbrev pub S : Expr → Type 0
  S e = ExprHas (IsSettled w) U V W e

  abbrev pub T : Expr → Type 0
  T e = ExprHas (HasType w) U V W e

  -- values

  pub top : (e : Expr) → T e → HasType w e
  top (operation e op token e2) h = h.0
  top (cast opening ws d closing e) h = h.0
  top (prefix token p e) h = h.0
  top (sizeof_value word e) h = h
  top (sizeof_type word opening ws d closing) h = h
  top (extension keyword e) h = h.0
  top (index e opening e2 closing) h = h.0
  top (call e opening es closing) h = h.0
  top (dot e token name) h = h.0
  top (arrow e token name) h = h.0
  top (post e token p) h = h.0
  top (compound opening ws d closing list) h = h.0
  top (name_use token name) h = h
  top (number_use token) h = h
  top (char_use token) h = h
  top (text_use texts) h = h
  top (paren opening e closing) h = h.0
  top (statement_expr opening opening2 items closing closing2) h = h.0
  top (va_arg keyword opening e separator ws d closing) h = h.0
  top (va_start keyword opening e separator e2 closing) h = h.0
  top (va_copy keyword opening e separator e2 closing) h = h.0
  top (offset keyword opening ws d separator name steps closing) h = h
  top (complex_part keyword e) h = h.0
  top (label_use token name) h = h
  top (compat keyword opening ws d separator ws2 d2 closing) h = h
  top (choose keyword opening e separator e2 separator2 e3 closing) h = h.0
  top (generic keyword opening e xs closing) h = h.0

  pub v_is : (e : Expr) → S e → T e → AreFound w (expr_starts a e) → val wk e ≡ val wl e
  v_is e s t h =
      let type = top e t in
      let one = agrees w U V W f members e s h type.0 type.1 in one.1 k ∙ sym (one.1 l)

  pub x_is : (e : Expr) → S e → T e → AreFound w (expr_starts a e) → value (val wk e) ≡ value (val wl e)
  x_is e s t h = ap value (v_is e s t h)

  pub ref_is : (e : Expr) → S e → T e → AreFound w (expr_starts a e) →
      is_ref (value (val wl e)) ≡ is_some_pointer (shapes.value (sh e))
  ref_is e s t h =
      let type = valued (sh e) (top e t) in
      let one = reads w U V W f members e (agrees w U V W f members e s h) type.0 type.1 in
      ap is_ref (one.1 l) ∙ (ref_where type.0 one.0 ∙ ap is_some_pointer (sym type.1))

  pub own_is_same : (token : ℕ) (t : CType) → AreFound w (fresh a token t) → own wk token ≡ own wl token
  own_is_same token t h = found_same w members k l (at w token) t h.0.0

  pub some_own_is : (token : ℕ) (o : Option CType) → Is o → AreFound w (some_fresh a token o)
      → own wk token ≡ own wl token
  some_own_is token None is h = absurd cc
  some_own_is token (Some t) is h = own_is_same token t h

  pub place_own_is : (token : ℕ) (o : Option CType) → Is o → AreFound w (some_fresh a token (some_place o)) →
      own wk token ≡ own wl token
  place_own_is token None is h = absurd cc
  place_own_is token (Some t) is h = own_is_same token (pointer [] t) h

  pub there : (b : Bool) (starts : List Start) → AreFound w (fresh_where b starts) → b ≡ true → AreFound w starts
  there true starts h e = h
  there false starts h e = absurd cc

  pub formed_is : (where_ : Span) (s t : Skel) → s ≡ t → formed wk where_ s ≡ formed wl where_ t
  formed_is where_ s t e = formed_same w members k l where_ s t e

  -- rows

  pub computed_where : (lg ad ra rb : Bool) (F : Skel → List Constraint) (s t : Skel) →
      ((not ad || is_fresh_sum ra rb) ≡ true → s ≡ t) →
      (if lg || (ad && (ra || rb)) then [] else F s) ≡ (if lg || (ad && (ra || rb)) then [] else F t)
  computed_where true ad ra rb F s t g = refl
  computed_where false false ra rb F s t g = ap F (g refl)
  computed_where false true true rb F s t g = refl
  computed_where false true false true F s t g = refl
  computed_where false true false false F s t g = ap F (g refl)

  pub computed_is : (p : Punct) (first last pa pb : Bool) (x y c d s t : Skel) (where_ : Span) → x ≡ c → y ≡ d →
      is_ref c ≡ pa → is_ref d ≡ pb → (is_fresh_binary p pa pb ≡ true → s ≡ t) →
      computed wk p first last x y s where_ ≡ computed wl p first last c d t where_
  computed_is p first last pa pb x y c d s t where_ ex ey ea eb g =
      ap2 (λ (m n : Skel). computed wk p first last m n s where_) x c y d ex ey
      ∙ computed_where (is_logical p) (is_additive p) (is_ref c) (is_ref d)
      (λ u. flowing first c u (all_lattices w) where_ ++ flowing last d u (all_lattices w) where_) s t
      (λ h. g (subst (λ (m : Bool). is_fresh_binary p m pb ≡ true) ea
      (subst (λ (n : Bool). is_fresh_binary p (is_ref c) n ≡ true) eb h)))

  pub passing_is : (z : Bool) (u v n m : ℕ) (c d s t : Skel) (where_ : Span) → n ≡ m → c ≡ d → s ≡ t →
      (if nat_eq n 0 then [] else flowing z c s n where_) ≡ (if nat_eq m 0 then [] else flowing z d t m where_)
  passing_is z u v n m c d s t where_ p q r = rw p rw q rw r refl

  pub cast_is : (o : Option CType) (z : Bool) (c d s t : Skel) (where_ : Span) → c ≡ d → s ≡ t →
      cast_demand wk o z c s where_ ≡ cast_demand wl o z d t where_
  cast_is None z c d s t where_ p q = refl
  cast_is (Some type) z c d s t where_ p q = joined _ _ _ _ (formed_is where_ s t q) (joined _ _ _ _
      (ap (λ x. annotating wk type x) q ∙ annotating_is w k l type t)
      (passing_is z 0 0 (uncut wk type) (uncut wl type) c d s t where_ (uncut_is w k l type) p q))

  pub prefixed_is : (p : Punct) (z : Bool) (x y : Val) (s t : Skel) (aims : Bool) (where_ : Span) → x ≡ y →
      (is_fresh_prefix p ≡ true → s ≡ t) → prefixed wk p z x s aims where_ ≡ prefixed wl p z y t aims where_
  prefixed_is signs.PlusPlus z x y s t aims where_ e g = ap (λ (it : Val). write_bounds wk (root it.skel) where_) e
  prefixed_is signs.MinusMinus z x y s t aims where_ e g = ap (λ (it : Val). write_bounds wk (root it.skel) where_) e
  prefixed_is signs.Star z x y s t aims where_ e g = ap (λ (it : Val). dereferenced wk (value it) aims where_) e
  prefixed_is signs.Plus z x y s t aims where_ e g =
      ap2 (λ (it : Val) (u : Skel). flowing z (value it) u (all_lattices w) where_) x y s t e (g refl)
  prefixed_is signs.Minus z x y s t aims where_ e g =
      ap2 (λ (it : Val) (u : Skel). flowing z (value it) u (all_lattices w) where_) x y s t e (g refl)
  prefixed_is signs.Tilde z x y s t aims where_ e g =
      ap2 (λ (it : Val) (u : Skel). flowing z (value it) u (all_lattices w) where_) x y s t e (g refl)
  prefixed_is p z x y s t aims where_ e g = refl

  -- a `&` whose pointer carries the one by which its operand came to its place, or does not

  pub carried_is : (x y c d s t : Skel) (where_ : Span) → x ≡ y → c ≡ d → s ≡ t →
      carried wk x c s where_ ≡ carried wl y d t where_
  carried_is x y c d s t where_ p q r = joined _ _ _ _ (formed_is where_ s t r) (joined _ _ _ _
      (ap2 (λ (m n : Skel). flowing false m n (all_lattices w) where_) x y s t p r)
      (ap2 (λ (m n : Skel). carrying wk m n where_) c d s t q r))

  pub addressed_is : (b z : Bool) (x y : Val) (c d s t : Skel) (near whole : Span) → x ≡ y → (b ≡ true → c ≡ d) →
      (b ≡ true → s ≡ t) →
      (if b then carried wk x.skel c s near else prefixed wk signs.Ampersand z x s false whole)
      ≡ (if b then carried wl y.skel d t near else prefixed wl signs.Ampersand z y t false whole)
  addressed_is true z x y c d s t near whole e p q =
      carried_is x.skel y.skel c d s t near (ap (λ (it : Val). it.skel) e) (p refl) (q refl)
  addressed_is false z x y c d s t near whole e p q = refl

  -- picks

  picking_is : (xs : List Candidate) (t : Skel) (where_ : Span) → picking wk xs t where_ ≡ picking wl xs t where_
  picking_is [] t where_ = refl
  picking_is (x ∷ xs) t where_ =
      ap (λ cs. flowing x.is_zero (value x.val) t (all_lattices w) where_ ++ cs) (picking_is xs t where_)

  pub picked_is : (xs : List Candidate) (s t : Skel) (where_ : Span) → (nat_lt 1 (length xs) ≡ true → s ≡ t) →
      picked wk xs s where_ ≡ picked wl xs t where_
  picked_is [] s t where_ g = refl
  picked_is (x ∷ []) s t where_ g = refl
  picked_is (x ∷ (y ∷ xs)) s t where_ g = joined _ _ _ _ (formed_is where_ s t (g (more_than_one (length xs))))
      (picking_is (x ∷ (y ∷ xs)) s where_
      ∙ ap (λ c. picking wl (x ∷ (y ∷ xs)) c where_) (g (more_than_one (length xs))))

  pub here_is : (token : ℕ) → own wk token ≡ own wl token → formed_here wk token ≡ formed_here wl token
  here_is token e = formed_is (span w token token) _ _ e

  pub placing_is : (o : Option CType) (s t : Skel) → s ≡ t → annotating_place wk o s ≡ annotating_place wl o t
  placing_is None s t e = refl
  placing_is (Some type) s t e =
      ap (λ x. annotating wk (pointer [] type) x) e ∙ annotating_is w k l (pointer [] type) t

  pub typing_is : (o : Option CType) (s t : Skel) → s ≡ t → annotating_some wk o s ≡ annotating_some wl o t
  typing_is None s t e = refl
  typing_is (Some type) s t e = ap (λ x. annotating wk type x) e ∙ annotating_is w k l type t

  -- names

  pub crossed_is : (token : ℕ) (p : Place) → has_place w.sites (at w token) ≡ true → skeleton wk p ≡ skeleton wl p →
      own wk token ≡ own wl token → crossed wk token p ≡ crossed wl token p
  crossed_is token p site e is =
      crosses (site_number wk (at w token)) (site_number wl (at w token)) (skeleton wk p) (skeleton wl p) (own wk token)
      (own wl token) (site_same w.sites k.1 (at w token) 0 site ∙ sym (site_same w.sites l.1 (at w token) 0 site)) e is
    where
      crosses : (n m : ℕ) (c d s t : Skel) → n ≡ m → c ≡ d → s ≡ t →
          in_all w (span w token token) (cross n c s) ≡ in_all w (span w token token) (cross m d t)
      crosses n m c d s t p q r = rw p rw q rw r refl

  pub instance_is : (token : ℕ) (d : Declared) (role : Role) → NameBegins w d role →
      AreFound w (use_by_role a token d role) → instance wk token d.at role ≡ instance wl token d.at role
  instance_is token d function_role is h =
      let e = found_same w members k l (at w token) (pointer [] d.type) h.0.0 in
      joined _ _ _ _ (here_is token e) (crossed_is token d.at h.0.1
      (found_same w members k l d.at (pointer [] d.type) is) e)
  instance_is token d typedef_role is h = refl
  instance_is token d object_role is h = refl
  instance_is token d (parameter_role i) is h = refl
  instance_is token d (field_role n i) is h = refl
  instance_is token d enumerator_role is h = refl

  pub use_is : (token : ℕ) (it : Use) → use_at w.names.uses (at w token) ≡ it → UseBegins w token →
      AreFound w (use_start a token it) → use_demand wk token it ≡ use_demand wl token it
  use_is token missing e is h = refl
  use_is token called e is h = here_is token (own_is_same token (pointer [] shapes.undeclared_function) h)
  use_is token (means p) e is h = by (declared_at w.names.declared p) refl h
    where
      by : (d : Option Declared) → declared_at w.names.declared p ≡ d → AreFound w (some_use_start a token d) →
          some_instance wk token d ≡ some_instance wl token d
      by None at_p h = refl
      by (Some d) at_p h = instance_is token d d.role (is p d e at_p) h

  -- what initialisers initialise

  pub desig_is : (s : Skel) (d : Desig) → desig_skel wk s d ≡ desig_skel wl s d
  desig_is s (member_desig token name) = ap contents (member_same w members k l s name.name)
  desig_is s (index_desig opening e closing) = refl
  desig_is s (range_desig opening e dots e2 closing) = refl
  desig_is s (old_desig name colon) = ap contents (member_same w members k l s name.name)

  pub desigs_is : (s : Skel) (ds : Desigs) → desigs_skel wk s ds ≡ desigs_skel wl s ds
  desigs_is s no_desigs = refl
  desigs_is s (more_desigs d ds) = ap (λ x. desigs_skel wk x ds) (desig_is s d) ∙ desigs_is (desig_skel wl s d) ds

  pub item_is : (s : Skel) (first : Bool) (next : ℕ) (ds : Desigs) →
      item_skel wk s first next ds ≡ item_skel wl s first next ds
  item_is (ref v s) first next ds = refl
  item_is (flat v (kinds.Struct n)) first next no_desigs = next_same w members k l n next
  item_is (flat v (kinds.Struct n)) first next (more_desigs d ds) =
      ap (λ (x : Skel). Some x) (desigs_is (flat v (kinds.Struct n)) (more_desigs d ds))
  item_is (flat v kinds.Base) first next ds = refl
  item_is (flat v kinds.Void) first next ds = refl
  item_is (flat v kinds.Nothing) first next ds = refl
  item_is (fun v ps r e) first next ds = refl

  pub behind_is : (s : Skel) (ds : Desigs) (next : ℕ) → next_behind wk s ds next ≡ next_behind wl s ds next
  behind_is s no_desigs next = refl
  behind_is s (more_desigs (member_desig token name) ds) next = refl
  behind_is s (more_desigs (index_desig opening e closing) ds) next = refl
  behind_is s (more_desigs (range_desig opening e dots e2 closing) ds) next = refl
  behind_is s (more_desigs (old_desig name colon) ds) next = refl

  pub role_is : (d : Declared) (role : Role) → skeleton wk d.at ≡ skeleton wl d.at
      → by_role wk d role ≡ by_role wl d role
  role_is d typedef_role e = refl
  role_is d function_role e = refl
  role_is d object_role e = ap (λ s. Some (contents s)) e
  role_is d (parameter_role i) e = ap (λ s. Some (contents s)) e
  role_is d (field_role n i) e = ap (λ s. Some (contents s)) e
  role_is d enumerator_role e = refl

  pub first_is : (d : Declared) (o : Option Declared) → skeleton wk d.at ≡ skeleton wl d.at →
      by_first wk d o ≡ by_first wl d o
  first_is d None e = refl
  first_is d (Some first) e = role_is d first.role e

  bare_role_is : (d : Declared) (role : Role) → has_skeleton role ≡ false → by_role wk d role ≡ by_role wl d role
  bare_role_is d typedef_role e = refl
  bare_role_is d function_role e = refl
  bare_role_is d object_role e = absurd cc
  bare_role_is d (parameter_role i) e = absurd cc
  bare_role_is d (field_role n i) e = absurd cc
  bare_role_is d enumerator_role e = refl

  bare_first_is : (d : Declared) (o : Option Declared) →
      ((first : Declared) → o ≡ Some first → has_skeleton first.role ≡ false) → by_first wk d o ≡ by_first wl d o
  bare_first_is d None e = refl
  bare_first_is d (Some first) e = bare_role_is d first.role (e first refl)

  pub initialised_is : (o : Option Named) → NamedHas V o →
      ((it : Named) → o ≡ Some it → AreFound w (name_start a it.token)) → initialised wk o ≡ initialised wl o
  initialised_is None v g = refl
  initialised_is (Some it) v g = by (declared_at w.names.declared (at w it.token)) refl
    where
      by_role_of : (d : Declared) → declared_at w.names.declared (at w it.token) ≡ Some d → (b : Bool) →
          has_skeleton d.role ≡ b → initialised_at wk (Some d) ≡ initialised_at wl (Some d)
      by_role_of d e true is = first_is d (declared_at w.names.declared d.first)
          (name_same w members k l false f it.token d e is (g it refl))
      by_role_of d e false is = bare_first_is d (declared_at w.names.declared d.first) ((v d e).1 is)

      by : (o : Option Declared) → declared_at w.names.declared (at w it.token) ≡ o →
          initialised_at wk o ≡ initialised_at wl o
      by None e = refl
      by (Some d) e = by_role_of d e (has_skeleton d.role) refl
