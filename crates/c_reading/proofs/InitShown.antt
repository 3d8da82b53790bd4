-- The laws of the reader of initialisers in braces.
use Rattle.std.proofs.Common.{◌≡◌, ℕ, suc, ◌<◌, ◌≤◌, Bool, true, false, if◌then◌else◌, List, [], ◌∷◌, length, Option, Some, None, refl, sym, ◌∙◌, ap, subst, arith}
use Rattle.std.specs.Prelude.{◌+◌, ◌-◌, max, not, ◌&&◌}
use Rattle.qual_base.proofs.Tests.{and_second, and_first, and_false}
use Rattle.c_words.specs.declared.kinds.TokenKind.{TokenKind}
use Rattle.c_words.specs.declared.kinds.TokenKind.TheVariants as kinds
use Rattle.c_words.specs.declared.kinds.Punct.TheVariants as puncts
use Rattle.c_tree.specs.declared.lexeme.Lexeme.{Lexeme}
use Rattle.c_tree.specs.Tree.{Expr, Init, init_value, init_braced, init_list, InitItems, no_init_items, more_init_items, Desigs, no_desigs, more_desigs, Desig, member_desig, index_desig, range_desig, old_desig}
use Rattle.c_tree.specs.Text.{sign_text, some_sign_text, expr_text, identifier_text, init_text, init_items_text, other_init_items_text, desigs_text, desig_text}
use Rattle.c_tree.specs.Height.{expr_height, desigs_height, desig_height, init_height, init_items_height}
use Rattle.c_tree.specs.WellFormed.{IsExpr, has_no_old, AreDesigs, IsDesig, IsDesignated, IsInit, AreInitItems, IsItemsEnd}
use Rattle.c_units.specs.HeldScopes.{HeldScopes, is_wide, names_type}
use Rattle.c_units.specs.Scoping.{behind, where_true, expr_scopes, desig_scopes, desigs_scopes, init_scopes, init_items_scopes}
use Rattle.c_reading.specs.declared.kinds.Reach.TheVariants.{Assigned, Conditional}
use Rattle.c_reading.specs.Reading.{Found, kind_at, behind_first, repeated, listed, Next, one_more, CommaList, IsNumbered, IsTail}
use Rattle.c_reading.specs.Tokens.{is_open_brace, is_close_brace, is_close_bracket, is_equal, is_colon, is_dots, spelled_name}
use Rattle.c_reading.specs.Parts.{Inner, ListItem, desigs_from, init_items_from}
use Rattle.c_reading.specs.Expressing.{begins_expr, begins_desig, is_dot}
use Rattle.c_reading.specs.Initialising.{begins_init, equal_behind, member_desig_with, range_behind, index_behind, index_desig_with, desig_with, init_here, old_item, plain_item, named_init_item, init_item_by, init_item_with, next_init_item, init_items_with, braced_with, init_list_with}
use Rattle.c_reading.proofs.Binding.{found, done, bind_ok, bind_is, fits_ok, fits_is, if_ok, take_falls, token_falls}
use Rattle.c_reading.proofs.Forms.{Falls, Shrinks, Takes, IsSound, IsComplete, always, at_end, behind_is, behind_ok, through, took, took_token, took_name, name_falls}
use Rattle.c_reading.proofs.Rows.{repeated_falls, repeated_sound_at, repeated_complete}
use Rattle.c_reading.proofs.Commas.{NextTakes, list_form, commas_text, ending_text, HasItem, listed_shrinks, listed_sound, listed_complete, IsListEnd}
use Rattle.c_reading.proofs.KindFacts.{not_true, colon_kind, dots_kind, open_brace_kind, close_brace_kind, close_bracket_kind, equal_kind}
use Rattle.c_reading.proofs.Aims.{is_old, ends_item, ends_expr, desig_form, list_item_form, init_list_form, TokenLaws, FirstLaws, Laws, InitListLaws}
use Rattle.c_reading.proofs.Shared.{init_shrinks, init_sound, init_begins, init_complete}
use Rattle.c_reading.proofs.ExprFalls.{left_is}
use Rattle.c_reading.proofs.ExprLists.{desigs_items, desigs_back}
use Rattle.c_reading.proofs.InitLists.{init_items_items, init_items_back, comma_ending, items_are, comma_end_is, items_fit, items_fit_back, items_named, items_high, desigs_are, desigs_fit, desigs_no_old, desigs_fit_back, desigs_named, desigs_high}
use Rattle.c_reading.proofs.ExprCompleteUnary.{wide_parts}
use Rattle.c_reading.proofs.StmtKinds.{name_no_colon}
use Rattle.c_syntax.specs.declared.parts.Identifier.{Identifier}
use Rattle.c_tree.specs.Levels.{expr_level}
use Rattle.c_reading.proofs.SpecsCompleteBodies.{expr_high}

dot_kind : (kind : TokenKind) → is_dot kind ≡ true → kind ≡ kinds.Punct puncts.Dot
dot_kind (kinds.Punct puncts.Dot) e = refl
dot_kind kind e = absurd cc

-- what begins a designator and is no `.` is `[`
desig_kind : (kind : TokenKind) → begins_desig kind ≡ true → is_dot kind ≡ false → kind ≡ kinds.Punct puncts.OpenBracket
desig_kind (kinds.Punct puncts.OpenBracket) e f = refl
desig_kind (kinds.Punct puncts.Dot) e f = absurd cc
desig_kind kind e f = absurd cc

-- what an initialiser begins with
init_no_close : (s : HeldScopes) (kind : TokenKind) → begins_init s kind ≡ true → is_close_brace kind ≡ false
init_no_close s (kinds.Punct puncts.CloseBrace) e = absurd cc
init_no_close s kind e = refl

-- what begins an initialiser begins no designator
init_no_desig : (s : HeldScopes) (kind : TokenKind) → begins_init s kind ≡ true → begins_desig kind ≡ false
init_no_desig s (kinds.Punct puncts.Dot) e = absurd cc
init_no_desig s (kinds.Punct puncts.OpenBracket) e = absurd cc
init_no_desig s kind e = refl

-- sums of heights
desig_low : (h room : ℕ) → 3 ≤ room → h ≤ room - 2 → h + 1 ≤ room - 1
desig_low h room a b = omega (arith, a, b)

item_low : (h k room : ℕ) → 2 ≤ room → h ≤ room - 1 → k ≤ room - 1 → max h k + 1 ≤ room
item_low h k room a b c = omega (arith, a, b, c)

range_low : (h k room : ℕ) → 3 ≤ room → h ≤ room - 2 → k ≤ room - 2 → max h k + 1 ≤ room - 1
range_low h k room a b c = omega (arith, a, b, c)

list_low : (h room : ℕ) → 1 ≤ room → h ≤ room - 1 → h + 1 ≤ room
list_low h room a b = omega (arith, a, b)

one_low : (room : ℕ) → 2 ≤ room → 1 ≤ room - 1
one_low room a = omega (arith, a)

desigs_left : (h k room : ℕ) → max h k + 1 ≤ room → h ≤ room - 1
desigs_left h k room a = omega (arith, a)

init_right : (h k room : ℕ) → max h k + 1 ≤ room → k ≤ room - 1
init_right h k room a = omega (arith, a)

init_two : (h k room : ℕ) → max h k + 1 ≤ room → 1 ≤ k → 2 ≤ room
init_two h k room a b = omega (arith, a, b)

items_inside : (h room : ℕ) → h + 1 ≤ room → h ≤ room - 1
items_inside h room a = omega (arith, a)

index_room : (h room : ℕ) → h + 1 ≤ room - 1 → h ≤ room - 2
index_room h room a = omega (arith, a)

index_asks : (h room : ℕ) → h + 1 ≤ room - 1 → 1 ≤ h → 3 ≤ room
index_asks h room a b = omega (arith, a, b)

member_asks : (room : ℕ) → 1 ≤ room - 1 → 2 ≤ room
member_asks room a = omega (arith, a)

pub init_high : (i : Init) → 1 ≤ init_height i
init_high (init_value e) = expr_high e
init_high (init_braced (init_list opening items last closing)) = omega arith

module _ (all : List Lexeme) (numbered : IsNumbered all) (tokens : TokenLaws all) (n : ℕ) (inner : Inner)
    (laws : Laws all n inner) where
  -- behind the first value in brackets
  index_falls : (opening : ℕ) (e : Expr) (room : ℕ) → Falls (index_behind inner opening e room)
  unfolding index_behind range_behind
  index_falls opening v room s ts x e =
      if_ok (is_wide s && is_dots (kind_at ts)) e (λ is e.
      let a = bind_ok e in
      let b = bind_ok a.2 in
      let c = bind_ok b.2 in
      omega (
        arith,
        take_falls _ _ _ a.1,
        laws.exprs.shrinks _ _ _ _ _ _ b.1,
        token_falls is_close_bracket _ _ _ c.1,
        left_is c.2,
      )) (λ is e.
      let a = bind_ok e in
      omega (arith, token_falls is_close_bracket _ _ _ a.1, left_is a.2))

  pub desig_shrinks : (room : ℕ) → Shrinks (desig_with inner room)
  unfolding desig_with member_desig_with index_desig_with
  desig_shrinks room s ts x e =
      if_ok (is_dot (kind_at ts)) e (λ is e.
      let r = fits_ok _ _ _ e in
      let a = bind_ok r.1 in
      let b = bind_ok a.2 in
      omega (arith, take_falls _ _ _ a.1, name_falls _ _ _ b.1, left_is b.2)) (λ is e.
      let r = fits_ok _ _ _ e in
      let a = bind_ok r.1 in
      let b = bind_ok a.2 in
      omega (
        arith,
        take_falls _ _ _ a.1,
        laws.exprs.shrinks _ _ _ _ _ _ b.1,
        index_falls a.0.tree b.0.tree room b.0.scopes b.0.rest x b.2,
      ))

  equal_falls : (ds : Desigs) → Falls (equal_behind ds)
  equal_falls no_desigs s ts x e = omega (arith, left_is e)
  equal_falls (more_desigs d ds) s ts x e =
      let a = bind_ok e in
      omega (arith, token_falls is_equal _ _ _ a.1, left_is a.2)

  init_here_shrinks : (room : ℕ) → Shrinks (init_here inner room)
  unfolding init_here
  init_here_shrinks room s ts x e =
      if_ok (begins_init s (kind_at ts)) e (λ is e. init_shrinks all n inner laws (room - 1) s ts x (fits_ok _ _ _ e).1)
      (λ is e. absurd cc)

  plain_item_shrinks : (room : ℕ) → Shrinks (plain_item inner room)
  unfolding plain_item
  plain_item_shrinks room s ts x e =
      let a = bind_ok e in
      let b = bind_ok a.2 in
      let c = bind_ok b.2 in
      omega (
        arith,
        repeated_falls begins_desig (desig_with inner room) (desig_shrinks room) _ _ _ a.1,
        equal_falls (desigs_from a.0.tree) _ _ _ b.1,
        init_here_shrinks room _ _ _ c.1,
        left_is c.2,
      )

  old_item_shrinks : (room : ℕ) → Shrinks (old_item inner room)
  unfolding old_item
  old_item_shrinks room s ts x e =
      let a = bind_ok e in
      let b = bind_ok a.2 in
      let c = bind_ok b.2 in
      omega (arith, name_falls _ _ _ a.1, token_falls is_colon _ _ _ b.1, init_here_shrinks room _ _ _ c.1, left_is c.2)

  init_item_shrinks : (room : ℕ) → Shrinks (init_item_with inner room)
  unfolding init_item_with named_init_item
  init_item_shrinks room s ts x e = by_name (spelled_name (kind_at ts)) e
    where
      by_name : (o : Option ℕ) → init_item_by inner o room s ts ≡ done x → length x.rest < length ts
      by_name None e = plain_item_shrinks room s ts x e
      by_name (Some name) e =
          if_ok (is_wide s) e (λ wide e.
          if_ok (is_colon (kind_at (behind_first ts))) (fits_ok _ _ _ e).1
          (λ is e. old_item_shrinks room s ts x e) (λ is e.
          if_ok (names_type s name) e (λ typed e. absurd cc) (λ typed e. plain_item_shrinks room s ts x e)))
          (λ wide e. plain_item_shrinks room s ts x e)

  pub next_item_falls : (room token : ℕ) → Falls (next_init_item inner room token)
  unfolding next_init_item
  next_item_falls room token s ts x e =
      if_ok (is_close_brace (kind_at ts)) e (λ is e. omega (arith, left_is e)) (λ is e.
      let a = bind_ok e in
      omega (arith, init_item_shrinks room _ _ _ a.1, left_is a.2))

  init_items_falls : (room : ℕ) → Falls (init_items_with inner room)
  unfolding init_items_with
  init_items_falls room s ts x e =
      if_ok (is_close_brace (kind_at ts)) e (λ is e. omega (arith, left_is e)) (λ is e.
      omega (
        arith,
        listed_shrinks (init_item_with inner room) (next_init_item inner room) (next_item_falls room)
            (init_item_shrinks room) _ _ _ e,
      ))

  init_list_shrinks : (room : ℕ) → Shrinks (init_list_with inner room)
  unfolding init_list_with braced_with
  init_list_shrinks room s ts x e =
      if_ok (is_open_brace (kind_at ts)) e (λ is e.
      let r = fits_ok _ _ _ e in
      let a = bind_ok r.1 in
      let b = bind_ok a.2 in
      let c = bind_ok b.2 in
      omega
      (arith, take_falls _ _ _ a.1, init_items_falls _ _ _ _ b.1, token_falls is_close_brace _ _ _ c.1, left_is c.2))
      (λ is e. absurd cc)

  -- what stands behind the first value in brackets makes an index or a range
  record TookIndex (opening : ℕ) (v : Expr) (s : HeldScopes) (room : ℕ) (k : List Lexeme) (t : HeldScopes)
      (x : Found Desig) : Type 0 where
    spelled : sign_text puncts.OpenBracket opening (expr_text all v k) ≡ desig_text all x.tree x.rest
    fits : IsDesig all x.tree × (is_old x.tree ≡ false)
    named : desig_scopes x.tree s ≡ Some x.scopes
    low : desig_height x.tree ≤ room - 1
    left : IsTail all x.rest

  index_sound : (opening : ℕ) (v : Expr) (room : ℕ) (s t : HeldScopes) (ts : List Lexeme) (x : Found Desig)
      → IsTail all ts → IsExpr all v → 2 ≤ expr_level v → expr_scopes v s ≡ Some t → expr_height v ≤ room - 2
      → 3 ≤ room →
      index_behind inner opening v room t ts ≡ done x → TookIndex opening v s room ts t x
  unfolding index_behind range_behind
  index_sound opening v room s t ts x tail f l named low least e =
      if_ok (is_wide t && is_dots (kind_at ts)) e (λ is e.
      let wide = and_first (is_wide t) (is_dots (kind_at ts)) is in
      let dots = and_second (is_wide t) (is_dots (kind_at ts)) is in
      let a = bind_ok e in
      let b = bind_ok a.2 in
      let c = bind_ok b.2 in
      let o = took all (kinds.Punct puncts.Ellipsis) t ts a.0 tail (dots_kind (kind_at ts) dots) a.1 in
      let i = laws.exprs.sound Conditional (room - 2) a.0.scopes a.0.rest b.0 o.left b.1 in
      let q = took_token all is_close_bracket
      (kinds.Punct puncts.CloseBracket) close_bracket_kind b.0.scopes b.0.rest c.0 i.left c.1 in
      let still : behind (expr_scopes v s) (λ t. where_true (is_wide t) t) ≡ Some t = rw named (rw wide refl) in
      at_end (TookIndex opening v s room ts t) c.2 (record {
        spelled = ap (λ (k : List Lexeme). sign_text puncts.OpenBracket opening (expr_text all v k))
            (o.spelled ∙ ap (sign_text puncts.Ellipsis a.0.tree) (i.spelled ∙ ap (expr_text all b.0.tree) q.spelled));
        fits = ((f, l, i.fits.0, i.fits.1), refl);
        named = behind_is (expr_scopes b.0.tree) still (through (expr_scopes b.0.tree) o.same i.named q.same);
        low = range_low (expr_height v) (expr_height b.0.tree) room least low i.low;
        left = q.left;
      })) (λ is e.
      let a = bind_ok e in
      let q = took_token all is_close_bracket (kinds.Punct puncts.CloseBracket) close_bracket_kind t ts a.0 tail a.1 in
      at_end (TookIndex opening v s room ts t) a.2 (record {
        spelled = ap (λ (k : List Lexeme). sign_text puncts.OpenBracket opening (expr_text all v k)) q.spelled;
        fits = ((f, l), refl);
        named = named ∙ ap Some (sym q.same);
        low = desig_low (expr_height v) room least low;
        left = q.left;
      }))

  -- a designator, at a token that begins one
  desig_sound : (room : ℕ) (s : HeldScopes) (ts : List Lexeme) (x : Found Desig) → IsTail all ts
      → begins_desig (kind_at ts) ≡ true → desig_with inner room s ts ≡ done x
      → Takes all (desig_form all) (room - 1) s ts x
  unfolding desig_with member_desig_with index_desig_with
  desig_sound room s ts x tail begun e =
      if_ok (is_dot (kind_at ts)) e (λ is e.
      let r = fits_ok _ _ _ e in
      let a = bind_ok r.1 in
      let b = bind_ok a.2 in
      let o = took all (kinds.Punct puncts.Dot) s ts a.0 tail (dot_kind (kind_at ts) is) a.1 in
      let q = took_name all a.0.scopes a.0.rest b.0 o.left b.1 in
      at_end (Takes all (desig_form all) (room - 1) s ts) b.2 (record {
        spelled = o.spelled ∙ ap (sign_text puncts.Dot a.0.tree) q.spelled;
        fits = (tt, refl);
        named = ap Some (sym o.same ∙ sym q.same);
        low = one_low room r.0;
        left = q.left;
      })) (λ is e.
      let r = fits_ok _ _ _ e in
      let a = bind_ok r.1 in
      let b = bind_ok a.2 in
      let o = took all (kinds.Punct puncts.OpenBracket) s ts a.0 tail (desig_kind (kind_at ts) begun is) a.1 in
      let i = laws.exprs.sound Conditional (room - 2) a.0.scopes a.0.rest b.0 o.left b.1 in
      let q = index_sound a.0.tree b.0.tree room s b.0.scopes b.0.rest x i.left i.fits.0 i.fits.1
      (through (expr_scopes b.0.tree) o.same i.named refl) i.low r.0 b.2 in
      record {
        spelled = o.spelled ∙ ap (sign_text puncts.OpenBracket a.0.tree) i.spelled ∙ q.spelled;
        fits = q.fits;
        named = q.named;
        low = q.low;
        left = q.left;
      })

  -- `=` behind designators
  record TookEqual (ds : Desigs) (s : HeldScopes) (ts : List Lexeme) (x : Found (Option ℕ)) : Type 0 where
    spelled : ts ≡ some_sign_text puncts.Equal x.tree x.rest
    fits : IsDesignated ds x.tree
    same : x.scopes ≡ s
    left : IsTail all x.rest

  -- such a row may stand before a sign
  designated : (d : Desig) (ds : Desigs) (equal : ℕ) → has_no_old (more_desigs d ds) ≡ true
      → IsDesignated (more_desigs d ds) (Some equal)
  designated (member_desig token name) ds equal plain = plain
  designated (index_desig opening e closing) ds equal plain = plain
  designated (range_desig opening e dots e2 closing) ds equal plain = plain
  designated (old_desig name colon) ds equal plain = absurd cc

  equal_sound : (ds : Desigs) → has_no_old ds ≡ true → (s : HeldScopes) (ts : List Lexeme) (x : Found (Option ℕ))
      → IsTail all ts → equal_behind ds s ts ≡ done x → TookEqual ds s ts x
  equal_sound no_desigs plain s ts x tail e =
      at_end (TookEqual no_desigs s ts) e (record { spelled = refl; fits = tt; same = refl; left = tail })
  equal_sound (more_desigs d ds) plain s ts x tail e =
      let a = bind_ok e in
      let o = took_token all is_equal (kinds.Punct puncts.Equal) equal_kind s ts a.0 tail a.1 in
      at_end (TookEqual (more_desigs d ds) s ts) a.2
      (record { spelled = o.spelled; fits = designated d ds a.0.tree plain; same = o.same; left = o.left })

  plain_item_sound : (room : ℕ) → IsSound all (list_item_form all) room (plain_item inner room)
  unfolding plain_item init_here
  plain_item_sound room s ts x tail e =
      let a = bind_ok e in
      let b = bind_ok a.2 in
      let c = bind_ok b.2 in
      let i = repeated_sound_at begins_desig (desig_with inner room) all (desig_form all) (room - 1)
      (desig_sound room) s ts a.0 tail a.1 in
      let o =
      equal_sound (desigs_from a.0.tree) (desigs_no_old all a.0.tree i.fits) a.0.scopes a.0.rest b.0 i.left b.1 in
      if_ok (begins_init b.0.scopes (kind_at b.0.rest)) c.1 (λ is e.
      let r = fits_ok _ _ _ e in
      let j = init_sound all n inner laws (room - 1) b.0.scopes b.0.rest c.0 o.left r.1 in
      at_end (Takes all (list_item_form all) room s ts) c.2 (record {
        spelled = i.spelled ∙ desigs_are all a.0.tree a.0.rest ∙ ap (desigs_text all (desigs_from a.0.tree))
            (o.spelled ∙ ap (some_sign_text puncts.Equal b.0.tree) j.spelled);
        fits = (desigs_fit all a.0.tree i.fits, o.fits, j.fits);
        named = behind_is (init_scopes c.0.tree) (sym (desigs_named all a.0.tree s) ∙ i.named)
            (through (init_scopes c.0.tree) o.same j.named refl);
        low = item_low (desigs_height (desigs_from a.0.tree)) (init_height c.0.tree) room r.0
            (subst (λ (h : ℕ). h ≤ room - 1) (desigs_high all a.0.tree) i.low) j.low;
        left = j.left;
      })) (λ is e. absurd cc)

  -- a name with a colon, in wider C
  old_item_sound : (room : ℕ) (s : HeldScopes) (ts : List Lexeme) (x : Found ListItem) → is_wide s ≡ true
      → IsTail all ts → old_item inner room s ts ≡ done x → Takes all (list_item_form all) room s ts x
  unfolding old_item init_here
  old_item_sound room s ts x wide tail e =
      let a = bind_ok e in
      let b = bind_ok a.2 in
      let c = bind_ok b.2 in
      let o = took_name all s ts a.0 tail a.1 in
      let q = took_token all is_colon (kinds.Punct puncts.Colon) colon_kind a.0.scopes a.0.rest b.0 o.left b.1 in
      if_ok (begins_init b.0.scopes (kind_at b.0.rest)) c.1 (λ is e.
      let r = fits_ok _ _ _ e in
      let j = init_sound all n inner laws (room - 1) b.0.scopes b.0.rest c.0 q.left r.1 in
      let still : behind (where_true (is_wide s) s) (desigs_scopes no_desigs) ≡ Some s = rw wide refl in
      at_end (Takes all (list_item_form all) room s ts) c.2 (record {
        spelled =
            o.spelled ∙ ap (identifier_text a.0.tree) (q.spelled ∙ ap (sign_text puncts.Colon b.0.tree) j.spelled);
        fits = ((tt, tt), tt, j.fits);
        named = behind_is (init_scopes c.0.tree) still (through (init_scopes c.0.tree) (q.same ∙ o.same) j.named refl);
        low = item_low 1 (init_height c.0.tree) room r.0 (one_low room r.0) j.low;
        left = j.left;
      })) (λ is e. absurd cc)

  init_item_sound : (room : ℕ) → IsSound all (list_item_form all) room (init_item_with inner room)
  unfolding init_item_with named_init_item
  init_item_sound room s ts x tail e = by_name (spelled_name (kind_at ts)) e
    where
      by_name : (o : Option ℕ) → init_item_by inner o room s ts ≡ done x → Takes all (list_item_form all) room s ts x
      by_name None e = plain_item_sound room s ts x tail e
      by_name (Some name) e =
          if_ok (is_wide s) e (λ wide e.
          if_ok (is_colon (kind_at (behind_first ts))) (fits_ok _ _ _ e).1
          (λ is e. old_item_sound room s ts x wide tail e) (λ is e.
          if_ok (names_type s name) e (λ typed e. absurd cc) (λ typed e. plain_item_sound room s ts x tail e)))
          (λ wide e. plain_item_sound room s ts x tail e)

  next_item_sound : (room token : ℕ) (s : HeldScopes) (ts : List Lexeme) (x : Found (Next ListItem ℕ)) → IsTail all ts
      → next_init_item inner room token s ts ≡ done x →
      NextTakes all (list_item_form all) comma_ending room token s ts x.tree x.scopes x.rest
  unfolding next_init_item
  next_item_sound room token s ts x tail e =
      if_ok (is_close_brace (kind_at ts)) e (λ is e. at_end (λ (x : Found (Next ListItem ℕ)). NextTakes all
      (list_item_form all) comma_ending room token s ts x.tree x.scopes x.rest) e (refl, tt, refl, tail)) (λ is e.
      let a = bind_ok e in
      at_end (λ (x : Found (Next ListItem ℕ)). NextTakes all (list_item_form all) comma_ending room token s ts x.tree
      x.scopes x.rest) a.2 (init_item_sound room s ts a.0 tail a.1, init_item_shrinks room s ts a.0 a.1))

  -- items, with what ends them
  record TookItems (room : ℕ) (s : HeldScopes) (ts : List Lexeme) (x : Found (CommaList ListItem ℕ)) : Type 0 where
    spelled : ts ≡ init_items_text all (init_items_from x.tree.items) (some_sign_text puncts.Comma x.tree.ending x.rest)
    fits : AreInitItems all (init_items_from x.tree.items)
    ended : IsItemsEnd (init_items_from x.tree.items) x.tree.ending
    named : init_items_scopes (init_items_from x.tree.items) s ≡ Some x.scopes
    low : init_items_height (init_items_from x.tree.items) ≤ room
    left : IsTail all x.rest

  items_end : (xs : List ListItem) (last : Option ℕ) → HasItem (list_item_form all) comma_ending xs
      → IsItemsEnd (init_items_from xs) last
  items_end [] last h = absurd h
  items_end (x ∷ xs) None h = tt
  items_end (x ∷ xs) (Some token) h = tt

  init_items_sound : (room : ℕ) (s : HeldScopes) (ts : List Lexeme) (x : Found (CommaList ListItem ℕ)) → IsTail all ts
      → init_items_with inner room s ts ≡ done x → TookItems room s ts x
  unfolding init_items_with
  init_items_sound room s ts x tail e =
      if_ok (is_close_brace (kind_at ts)) e (λ is e. at_end (TookItems room s ts) e
      (record { spelled = refl; fits = tt; ended = tt; named = refl; low = omega arith; left = tail })) (λ is e.
      let i = listed_sound (init_item_with inner room) (next_init_item inner room) all numbered
      (list_item_form all) comma_ending room (init_item_sound room) (next_item_sound room) s ts x tail e in
      record {
        spelled = i.spelled
            ∙ items_are all x.tree.items (ending_text (list_item_form all) comma_ending x.tree.ending x.rest) ∙ ap
            (init_items_text all (init_items_from x.tree.items)) (comma_end_is all x.tree.items x.tree.ending x.rest);
        fits = items_fit all x.tree.items i.fits.1;
        ended = items_end x.tree.items x.tree.ending i.fits.0;
        named = sym (items_named all x.tree.items s) ∙ i.named;
        low = subst (λ (h : ℕ). h ≤ room) (items_high all x.tree.items) i.low;
        left = i.left;
      })

  init_list_sound : (room : ℕ) → IsSound all (init_list_form all) room (init_list_with inner room)
  unfolding init_list_with braced_with
  init_list_sound room s ts x tail e =
      if_ok (is_open_brace (kind_at ts)) e (λ is e.
      let r = fits_ok _ _ _ e in
      let a = bind_ok r.1 in
      let b = bind_ok a.2 in
      let c = bind_ok b.2 in
      let o = took all (kinds.Punct puncts.OpenBrace) s ts a.0 tail (open_brace_kind (kind_at ts) is) a.1 in
      let i = init_items_sound (room - 1) a.0.scopes a.0.rest b.0 o.left b.1 in
      let q = took_token all is_close_brace
      (kinds.Punct puncts.CloseBrace) close_brace_kind b.0.scopes b.0.rest c.0 i.left c.1 in
      at_end (Takes all (init_list_form all) room s ts) c.2 (record {
        spelled = o.spelled
            ∙ ap (sign_text puncts.OpenBrace a.0.tree) (i.spelled ∙ ap (λ (k : List Lexeme). init_items_text all
            (init_items_from b.0.tree.items) (some_sign_text puncts.Comma b.0.tree.ending k)) q.spelled);
        fits = (i.fits, i.ended);
        named = through (init_items_scopes (init_items_from b.0.tree.items)) o.same i.named q.same;
        low = list_low (init_items_height (init_items_from b.0.tree.items)) room r.0 i.low;
        left = q.left;
      })) (λ is e. absurd cc)

  module _ (firsts : FirstLaws all) where
    desigs_read : (room : ℕ) → room ≤ n → (ds : Desigs) (s s' : HeldScopes) (k : List Lexeme) → AreDesigs all ds
        → has_no_old ds ≡ true → desigs_scopes ds s ≡ Some s' → desigs_height ds ≤ room - 1
        → begins_desig (kind_at k) ≡ false →
        repeated begins_desig (desig_with inner room) s (desigs_text all ds k) ≡ done (found (desigs_items ds) s' k)
    unfolding desig_with member_desig_with index_desig_with index_behind range_behind
    desigs_read room less ds s s' k h plain named low ended =
        ap (λ (ts : List Lexeme). repeated begins_desig (desig_with inner room) s ts)
        (sym (desigs_are all (desigs_items ds) k ∙ ap (λ (ds : Desigs). desigs_text all ds k) (desigs_back ds))) ∙
        repeated_complete begins_desig (desig_with inner room) (desig_form all) (λ x kind. true) (room - 1)
        (desig_shrinks room) one starts (λ x kind e. refl)
        (desigs_items ds) s s' k (desigs_fit_back all ds h plain)
        (desigs_named all (desigs_items ds) s ∙ ap (λ (ds : Desigs). desigs_scopes ds s) (desigs_back ds) ∙ named)
        (subst (λ (m : ℕ). m ≤ room - 1)
        (sym (desigs_high all (desigs_items ds) ∙ ap desigs_height (desigs_back ds))) low) ended (λ x. refl)
      where
        same_scopes : (s t : HeldScopes) → Some s ≡ Some t → s ≡ t
        same_scopes s t e = cc

        index_less : (h room n : ℕ) → room ≤ n → h + 1 ≤ room - 1 → room - 2 < n
        index_less h room n a b = omega (arith, a, b)

        left_low : (h k room : ℕ) → max h k + 1 ≤ room - 1 → h + 1 ≤ room - 1
        left_low h k room a = omega (arith, a)

        right_low : (h k room : ℕ) → max h k + 1 ≤ room - 1 → k + 1 ≤ room - 1
        right_low h k room a = omega (arith, a)

        one : (x : Desig) (s t : HeldScopes) (k : List Lexeme) → IsDesig all x × (is_old x ≡ false)
            → desig_scopes x s ≡ Some t → desig_height x ≤ room - 1 → true ≡ true
            → desig_with inner room s (desig_text all x k) ≡ done (found x t k)
        one (member_desig token name) s t k h named low e =
            fits_is 2 room (sign_text puncts.Dot token (identifier_text name k)) _ (member_asks room low)
            ∙ bind_is _ refl (bind_is _ refl
            (ap (λ (t : HeldScopes). done (found (member_desig token name) t k)) (same_scopes s t named)))
        one (index_desig opening e closing) s t k h named low is =
            fits_is 3 room
            (sign_text puncts.OpenBracket opening (expr_text all e (sign_text puncts.CloseBracket closing k))) _
            (index_asks (expr_height e) room low (expr_high e)) ∙
            bind_is _ refl
            (bind_is _ (laws.exprs.complete Conditional (room - 2) (index_less (expr_height e) room n less low) e s t
            (sign_text puncts.CloseBracket closing k) h.0 named (index_room (expr_height e) room low) refl)
            (rw (and_false (is_wide t)) (bind_is _ refl refl)))
        one (range_desig opening e dots e2 closing) s t k h named low is =
            let b = behind_ok (behind (expr_scopes e s) (λ t. where_true (is_wide t) t)) (expr_scopes e2) t named in
            let c = behind_ok (expr_scopes e s) (λ t. where_true (is_wide t) t) b.0 b.1 in
            let p = wide_parts c.0 b.0 (is_wide c.0) c.2 in
            let left = left_low (expr_height e) (expr_height e2) room low in
            let right = right_low (expr_height e) (expr_height e2) room low in
            let end = sign_text puncts.CloseBracket closing k in
            let more = sign_text puncts.Ellipsis dots (expr_text all e2 end) in
            fits_is 3 room (sign_text puncts.OpenBracket opening (expr_text all e more)) _
            (index_asks (expr_height e) room left (expr_high e)) ∙
            bind_is _ refl (bind_is _
            (laws.exprs.complete Conditional (room - 2) (index_less (expr_height e) room n less left) e s c.0 more
            (h.0.0, h.0.1) c.1 (index_room (expr_height e) room left) refl)
            (rw p.0 (bind_is _ refl (bind_is _
            (laws.exprs.complete Conditional (room - 2) (index_less (expr_height e2) room n less right) e2 c.0 t end
            (h.0.2, h.0.3) (rw p.1 b.2) (index_room (expr_height e2) room right) refl) (bind_is _ refl refl)))))
        one (old_desig name colon) s t k h named low is = let wrong : true ≡ false = h.1 in absurd cc

        starts : (x : Desig) (s t : HeldScopes) (k : List Lexeme) → IsDesig all x × (is_old x ≡ false)
            → desig_scopes x s ≡ Some t → begins_desig (kind_at (desig_text all x k)) ≡ true
        starts (member_desig token name) s t k h named = refl
        starts (index_desig opening e closing) s t k h named = refl
        starts (range_desig opening e dots e2 closing) s t k h named = refl
        starts (old_desig name colon) s t k h named = let wrong : true ≡ false = h.1 in absurd cc

    -- a row of designators is not without a sign
    not_without : (d : Desig) (ds : Desigs) → has_no_old (more_desigs d ds) ≡ true
        → IsDesignated (more_desigs d ds) None → ⊥
    not_without (member_desig token name) ds plain h = h
    not_without (index_desig opening e closing) ds plain h = h
    not_without (range_desig opening e dots e2 closing) ds plain h = h
    not_without (old_desig name colon) ds plain h = absurd cc

    equal_read : (ds : Desigs) (equal : Option ℕ) (s : HeldScopes) (k : List Lexeme) → has_no_old ds ≡ true
        → IsDesignated ds equal → equal_behind ds s (some_sign_text puncts.Equal equal k) ≡ done (found equal s k)
    equal_read no_desigs None s k plain h = refl
    equal_read no_desigs (Some token) s k plain h = absurd h
    equal_read (more_desigs d ds) None s k plain h = absurd (not_without d ds plain h)
    equal_read (more_desigs d ds) (Some token) s k plain h = bind_is _ refl refl

    -- what stands behind designators begins none
    no_desig_next : (ds : Desigs) (equal : Option ℕ) (i : Init) (s s' : HeldScopes) (k : List Lexeme)
        → has_no_old ds ≡ true → IsDesignated ds equal → IsInit all i → init_scopes i s ≡ Some s'
        → begins_desig (kind_at (some_sign_text puncts.Equal equal (init_text all i k))) ≡ false
    no_desig_next no_desigs None i s s' k plain h f named =
        init_no_desig s (kind_at (init_text all i k)) (init_begins all n inner laws firsts i s s' k f named)
    no_desig_next no_desigs (Some token) i s s' k plain h f named = absurd h
    no_desig_next (more_desigs d ds) None i s s' k plain h f named = absurd (not_without d ds plain h)
    no_desig_next (more_desigs d ds) (Some token) i s s' k plain h f named = refl

    plain_item_read : (room : ℕ) → room ≤ n → (x : ListItem) → has_no_old x.desigs ≡ true
        → (s s' : HeldScopes) (k : List Lexeme) → (list_item_form all).Fits x
        → (list_item_form all).scopes x s ≡ Some s' →
        (list_item_form all).height x ≤ room → ends_expr Assigned (kind_at k) ≡ true
        → plain_item inner room s ((list_item_form all).text x k) ≡ done (found x s' k)
    unfolding plain_item init_here
    plain_item_read room less x plain s s' k h named low ended =
        let b = behind_ok (desigs_scopes x.desigs s) (init_scopes x.init) s' named in
        let begun = init_begins all n inner laws firsts x.init b.0 s' k h.2 b.2 in
        bind_is _ (desigs_read room less x.desigs s b.0 (some_sign_text puncts.Equal x.equal (init_text all x.init k))
        h.0 plain b.1 (desigs_left (desigs_height x.desigs) (init_height x.init) room low)
        (no_desig_next x.desigs x.equal x.init b.0 s' k plain h.1 h.2 b.2))
        (bind_is _
        (ap (λ (ds : Desigs). equal_behind ds b.0 (some_sign_text puncts.Equal x.equal (init_text all x.init k)))
        (desigs_back x.desigs) ∙ equal_read x.desigs x.equal b.0 (init_text all x.init k) plain h.1)
        (bind_is _ (rw begun (fits_is 2 room (init_text all x.init k) _
        (init_two (desigs_height x.desigs) (init_height x.init) room low (init_high x.init)) ∙
        init_complete all n inner laws firsts (room - 1)
        (inside (desigs_height x.desigs) (init_height x.init) room n less low) x.init b.0 s' k h.2 b.2
        (init_right (desigs_height x.desigs) (init_height x.init) room low) ended))
        (ap (λ (ds : Desigs). done (found (record { desigs = ds; equal = x.equal; init = x.init }) s' k))
        (desigs_back x.desigs))))
      where
        inside : (h k room n : ℕ) → room ≤ n → max h k + 1 ≤ room → room - 1 < n
        inside h k room n a b = omega (arith, a, b)

    -- a name with a colon
    old_item_read : (room : ℕ) → room ≤ n
        → (name : Identifier) (colon : ℕ) (i : Init) (s s' : HeldScopes) (k : List Lexeme) → IsInit all i →
        behind (behind (where_true (is_wide s) s) (desigs_scopes no_desigs)) (init_scopes i) ≡ Some s'
        → max 1 (init_height i) + 1 ≤ room → ends_expr Assigned (kind_at k) ≡ true →
        init_item_with inner room s (identifier_text name (sign_text puncts.Colon colon (init_text all i k)))
        ≡ done (found (record { desigs = more_desigs (old_desig name colon) no_desigs; equal = None; init = i }) s' k)
    unfolding init_item_with named_init_item old_item init_here
    old_item_read room less name colon i s s' k f named low ended =
        let b = behind_ok (behind (where_true (is_wide s) s) (desigs_scopes no_desigs)) (init_scopes i) s' named in
        let c = behind_ok (where_true (is_wide s) s) (desigs_scopes no_desigs) b.0 b.1 in
        let p = wide_parts s c.0 (is_wide s) c.1 in
        let same : s ≡ b.0 = p.1 ∙ same_scopes c.0 b.0 c.2 in
        let named2 : init_scopes i s ≡ Some s' = rw same b.2 in
        let begun = init_begins all n inner laws firsts i s s' k f named2 in
        rw p.0 (fits_is 2 room (identifier_text name (sign_text puncts.Colon colon (init_text all i k))) _
        (old_asks (init_height i) room low) ∙ bind_is _ refl (bind_is _ refl
        (bind_is _ (rw begun (fits_is 2 room (init_text all i k) _ (old_asks (init_height i) room low) ∙
        init_complete all n inner laws firsts (room - 1) (inside 1 (init_height i) room n less low) i s s' k f named2
        (init_right 1 (init_height i) room low) ended)) refl)))
      where
        same_scopes : (s t : HeldScopes) → Some s ≡ Some t → s ≡ t
        same_scopes s t e = cc

        old_asks : (h room : ℕ) → max 1 h + 1 ≤ room → 2 ≤ room
        old_asks h room a = omega (arith, a)

        inside : (h k room n : ℕ) → room ≤ n → max h k + 1 ≤ room → room - 1 < n
        inside h k room n a b = omega (arith, a, b)

    -- a name that an item begins with is no typedef name, and no colon stands behind it
    name_untyped : (s : HeldScopes) (kind : TokenKind) (name : ℕ) → begins_expr s kind ≡ true
        → spelled_name kind ≡ Some name → names_type s name ≡ false
    name_untyped s (kinds.Name other) name begun e =
        not_true (subst (λ (m : ℕ). not (names_type s m) ≡ true) (some_name other name e) begun)
      where
        some_name : (a b : ℕ) → Some a ≡ Some b → a ≡ b
        some_name a b e = cc
    name_untyped s kind name begun e = absurd cc

    record NamedStart (s : HeldScopes) (name : ℕ) (ts : List Lexeme) : Type 0 where
      untyped : names_type s name ≡ false
      no_colon : is_colon (kind_at (behind_first ts)) ≡ false

    named_start : (ds : Desigs) (equal : Option ℕ) (i : Init) (s s' : HeldScopes) (k : List Lexeme) (name : ℕ)
        → has_no_old ds ≡ true → IsDesignated ds equal → IsInit all i →
        behind (desigs_scopes ds s) (init_scopes i) ≡ Some s' → is_colon (kind_at k) ≡ false → spelled_name
        (kind_at (desigs_text all ds (some_sign_text puncts.Equal equal (init_text all i k)))) ≡ Some name →
        NamedStart s name (desigs_text all ds (some_sign_text puncts.Equal equal (init_text all i k)))
    named_start no_desigs None (init_value e) s s' k name plain d f named ended is = record {
      untyped = name_untyped s (kind_at (expr_text all e k)) name (firsts.expr_begins e s s' k f.0 named) is;
      no_colon = name_no_colon all e name k f.0 ended is;
    }
    named_start no_desigs None
        (init_braced (init_list opening items last closing)) s s' k name plain d f named ended is =
        absurd cc
    named_start no_desigs (Some token) i s s' k name plain d f named ended is = absurd d
    named_start (more_desigs (member_desig token member) ds) equal i s s' k name plain d f named ended is = absurd cc
    named_start (more_desigs (index_desig opening e closing) ds) equal i s s' k name plain d f named ended is =
        absurd cc
    named_start (more_desigs (range_desig opening e dots e2 closing) ds) equal i s s' k name plain d f named ended is =
        absurd cc
    named_start (more_desigs (old_desig member colon) ds) equal i s s' k name plain d f named ended is = absurd cc

    -- an item without a name and a colon
    new_item_read : (room : ℕ) → room ≤ n → (x : ListItem) → has_no_old x.desigs ≡ true
        → (s s' : HeldScopes) (k : List Lexeme) → (list_item_form all).Fits x
        → (list_item_form all).scopes x s ≡ Some s' →
        (list_item_form all).height x ≤ room → ends_item (kind_at k) ≡ true
        → init_item_with inner room s ((list_item_form all).text x k) ≡ done (found x s' k)
    unfolding init_item_with named_init_item
    new_item_read room less x plain s s' k h named low ended =
        by_name (spelled_name (kind_at ((list_item_form all).text x k))) refl
      where
        read : plain_item inner room s ((list_item_form all).text x k) ≡ done (found x s' k)
        read = plain_item_read room less x plain s s' k h named low
            (and_first (ends_expr Assigned (kind_at k)) (not (is_colon (kind_at k))) ended)

        by_wide : (b : Bool) (name : ℕ) → is_wide s ≡ b → NamedStart s name ((list_item_form all).text x k) →
            (if b then named_init_item inner name room s ((list_item_form all).text x k)
            else plain_item inner room s ((list_item_form all).text x k)) ≡ done (found x s' k)
        by_wide false name wide start = read
        by_wide true name wide start =
            fits_is 2 room ((list_item_form all).text x k) _ (init_two (desigs_height x.desigs)
            (init_height x.init) room low (init_high x.init)) ∙ rw (start.no_colon, start.untyped) read

        by_name : (o : Option ℕ) → spelled_name (kind_at ((list_item_form all).text x k)) ≡ o
            → init_item_by inner o room s ((list_item_form all).text x k) ≡ done (found x s' k)
        by_name None is = read
        by_name (Some name) is =
            by_wide (is_wide s) name refl (named_start x.desigs x.equal x.init s s' k name plain h.1 h.2 named
            (not_true (and_second (ends_expr Assigned (kind_at k)) (not (is_colon (kind_at k))) ended)) is)

    init_item_read : (room : ℕ) → room ≤ n
        → IsComplete (list_item_form all) (λ x. ends_item) room (init_item_with inner room)
    init_item_read room less x s s' k h named low ended = by_desigs x.desigs x.equal h named low
      where
        by_desigs : (ds : Desigs) (equal : Option ℕ) → AreDesigs all ds × IsDesignated ds equal × IsInit all x.init
            → behind (desigs_scopes ds s) (init_scopes x.init) ≡ Some s' →
            max (desigs_height ds) (init_height x.init) + 1 ≤ room →
            init_item_with inner room s
            (desigs_text all ds (some_sign_text puncts.Equal equal (init_text all x.init k)))
            ≡ done (found (record { desigs = ds; equal = equal; init = x.init }) s' k)
        by_desigs no_desigs None h named low =
            new_item_read room less
            (record { desigs = no_desigs; equal = None; init = x.init }) refl s s' k h named low ended
        by_desigs no_desigs (Some token) h named low = absurd h.1
        by_desigs (more_desigs (member_desig a b) ds) (Some token) h named low =
            new_item_read room less
            (record { desigs = more_desigs (member_desig a b) ds; equal = Some token; init = x.init }) h.1 s s' k h
            named low ended
        by_desigs (more_desigs (index_desig a b c) ds) (Some token) h named low =
            new_item_read room less
            (record { desigs = more_desigs (index_desig a b c) ds; equal = Some token; init = x.init }) h.1 s s' k h
            named low ended
        by_desigs (more_desigs (range_desig a b c d e) ds) (Some token) h named low =
            new_item_read room less
            (record { desigs = more_desigs (range_desig a b c d e) ds; equal = Some token; init = x.init }) h.1 s s' k h
            named low ended
        by_desigs (more_desigs (old_desig name colon) no_desigs) None h named low =
            old_item_read room less name colon x.init s s' k h.2 named low
            (and_first (ends_expr Assigned (kind_at k)) (not (is_colon (kind_at k))) ended)
        by_desigs (more_desigs (old_desig name colon) (more_desigs d ds)) None h named low = absurd h.1
        by_desigs (more_desigs (old_desig name colon) no_desigs) (Some token) h named low = absurd h.1
        by_desigs (more_desigs (old_desig name colon) (more_desigs d ds)) (Some token) h named low = absurd h.1
        by_desigs (more_desigs (member_desig a b) ds) None h named low = absurd h.1
        by_desigs (more_desigs (index_desig a b c) ds) None h named low = absurd h.1
        by_desigs (more_desigs (range_desig a b c d e) ds) None h named low = absurd h.1

    -- the first token of an item is no closing brace
    item_begins : (x : ListItem) (s s' : HeldScopes) (k : List Lexeme) → AreDesigs all x.desigs
        → IsDesignated x.desigs x.equal → IsInit all x.init
        → behind (desigs_scopes x.desigs s) (init_scopes x.init) ≡ Some s' →
        is_close_brace
        (kind_at (desigs_text all x.desigs (some_sign_text puncts.Equal x.equal (init_text all x.init k)))) ≡ false
    item_begins x s s' k h d f named = by_desigs x.desigs x.equal d named
      where
        by_desigs : (ds : Desigs) (equal : Option ℕ) → IsDesignated ds equal
            → behind (desigs_scopes ds s) (init_scopes x.init) ≡ Some s'
            → is_close_brace
            (kind_at (desigs_text all ds (some_sign_text puncts.Equal equal (init_text all x.init k)))) ≡ false
        by_desigs no_desigs None d named =
            init_no_close s (kind_at (init_text all x.init k))
            (init_begins all n inner laws firsts x.init s s' k f named)
        by_desigs no_desigs (Some token) d named = absurd d
        by_desigs (more_desigs (member_desig token name) ds) equal d named = refl
        by_desigs (more_desigs (index_desig opening e closing) ds) equal d named = refl
        by_desigs (more_desigs (range_desig opening e dots e2 closing) ds) equal d named = refl
        by_desigs (more_desigs (old_desig name colon) ds) equal d named = refl

    next_item_read : (room : ℕ) → room ≤ n → (token : ℕ) (x : ListItem) (s s' : HeldScopes) (k : List Lexeme)
        → AreDesigs all x.desigs × IsDesignated x.desigs x.equal × IsInit all x.init
        → behind (desigs_scopes x.desigs s) (init_scopes x.init) ≡ Some s' →
        max (desigs_height x.desigs) (init_height x.init) + 1 ≤ room → ends_item (kind_at k) ≡ true →
        next_init_item inner room token s (desigs_text all x.desigs
        (some_sign_text puncts.Equal x.equal (init_text all x.init k))) ≡ done (found (one_more x) s' k)
    unfolding next_init_item
    next_item_read room less token x s s' k h named low ended =
        rw (item_begins x s s' k h.0 h.1 h.2 named)
        (bind_is _ (init_item_read room less x s s' k h named low ended) refl)

    init_items_read : (room : ℕ) → room ≤ n
        → (items : InitItems) (last : Option ℕ) (s s' : HeldScopes) (closing : ℕ) (k : List Lexeme)
        → AreInitItems all items → IsItemsEnd items last → init_items_scopes items s ≡ Some s'
        → init_items_height items ≤ room →
        init_items_with inner room s
        (init_items_text all items (some_sign_text puncts.Comma last (sign_text puncts.CloseBrace closing k))) ≡ done
        (found (record { items = init_items_items items; ending = last }) s' (sign_text puncts.CloseBrace closing k))
    unfolding init_items_with next_init_item
    init_items_read room less no_init_items None s s' closing k h d named low =
        ap (λ (o : Option HeldScopes). done
        (found (record { items = []; ending = None }) (from o) (sign_text puncts.CloseBrace closing k))) named
      where
        from : Option HeldScopes → HeldScopes
        from None = s
        from (Some t) = t
    init_items_read room less no_init_items (Some token) s s' closing k h d named low = absurd d
    init_items_read room less (more_init_items ds equal init items) last s s' closing k h d named low =
        let b = behind_ok (behind (desigs_scopes ds s) (init_scopes init)) (init_items_scopes items) s' named in
        let whole = more_init_items ds equal init items in
        let end = sign_text puncts.CloseBrace closing k in
        rw (item_begins (record { desigs = ds; equal = equal; init = init }) s b.0
        (other_init_items_text all items (some_sign_text puncts.Comma last end)) h.0 h.1 h.2 b.1)
        (ap (λ (ts : List Lexeme). listed (init_item_with inner room) (next_init_item inner room) s ts)
        (sym (items_are all (init_items_items whole) (ending_text (list_item_form all) comma_ending last end)
        ∙ ap (λ (xs : InitItems). init_items_text all xs (ending_text (list_item_form all) comma_ending last end))
        (init_items_back whole) ∙
        ap (init_items_text all whole) (comma_end_is all [] last end))) ∙
        listed_complete (init_item_with inner room) (next_init_item inner room) (list_item_form all) comma_ending
        (λ x. ends_item) room (next_item_falls room)
        (λ x s t k h n l e. init_item_read room less x s t k h n l e)
        (λ token x s t k h n l e. next_item_read room less token x s t k h n l e) (λ x. refl)
        (record { items = init_items_items whole; ending = last }) s s' end tt (items_fit_back all whole h)
        (items_named all (init_items_items whole) s
        ∙ ap (λ (xs : InitItems). init_items_scopes xs s) (init_items_back whole) ∙ named)
        (subst (λ (m : ℕ). m ≤ room) (sym (items_high all (init_items_items whole)
        ∙ ap init_items_height (init_items_back whole))) low) (ended last))
      where
        ended : (last : Option ℕ)
            → IsListEnd (init_item_with inner room) (next_init_item inner room) (list_item_form all) comma_ending
            (λ x. ends_item) room (next_item_falls room)
            (λ x s t k h n l e. init_item_read room less x s t k h n l e)
            (λ token x s t k h n l e. next_item_read room less token x s t k h n l e) (λ x. refl) last s'
            (sign_text puncts.CloseBrace closing k)
        ended None = (refl, λ x. refl)
        ended (Some token) = (token, sign_text puncts.CloseBrace closing k, refl, refl)

    init_list_read : (room : ℕ) → room ≤ n → IsComplete (init_list_form all) always room (init_list_with inner room)
    unfolding init_list_with braced_with
    init_list_read room less (init_list opening items last closing) s s' k h named low ended =
        fits_is 1 room (sign_text puncts.OpenBrace opening
        (init_items_text all items (some_sign_text puncts.Comma last (sign_text puncts.CloseBrace closing k)))) _
        (list_asks (init_items_height items) room low) ∙
        bind_is _ refl (bind_is _ (init_items_read (room - 1) (list_less room n less) items last s s' closing k h.0 h.1
        named (items_inside (init_items_height items) room low))
        (bind_is _ refl
        (ap (λ (xs : InitItems). done (found (init_list opening xs last closing) s' k)) (init_items_back items))))
      where
        list_asks : (h room : ℕ) → h + 1 ≤ room → 1 ≤ room
        list_asks h room a = omega (arith, a)

        list_less : (room n : ℕ) → room ≤ n → room - 1 ≤ n
        list_less room n a = omega (arith, a)

within : (room n : ℕ) → room < suc n → room ≤ n
within room n h = omega (arith, h)

-- the reader of braced initialisers over lawful readers is lawful at the next number
pub init_list_laws : (all : List Lexeme) → IsNumbered all → TokenLaws all → FirstLaws all → (n : ℕ) (inner : Inner)
    → Laws all n inner → InitListLaws all (suc n) (init_list_with inner)
init_list_laws all numbered tokens firsts n inner laws = record {
  shrinks = init_list_shrinks all numbered tokens n inner laws;
  sound = init_list_sound all numbered tokens n inner laws;
  complete = λ room less. init_list_read all numbered tokens n inner laws firsts room (within room n less);
}
