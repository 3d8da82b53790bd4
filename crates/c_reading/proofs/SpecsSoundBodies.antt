-- What the readers of bodies of structs take is spelled so and well formed.
use Rattle.std.proofs.Common.{◌≡◌, ℕ, ◌<◌, ◌≤◌, Bool, true, List, [], ◌∷◌, ◌++◌, length, Option, Some, None, refl, sym, ◌∙◌, ap, subst, arith}
use Rattle.std.specs.Prelude.{◌+◌, ◌-◌, max, not}
use Rattle.std.proofs.lemmas.List.Elements.{All-nil}
use Rattle.c_words.specs.declared.kinds.TokenKind.{TokenKind}
use Rattle.c_words.specs.declared.kinds.TokenKind.TheVariants as kinds
use Rattle.c_words.specs.declared.kinds.Punct.{Punct}
use Rattle.c_words.specs.declared.kinds.Punct.TheVariants as puncts
use Rattle.c_words.specs.declared.kinds.Keyword.{Keyword}
use Rattle.c_tree.specs.declared.lexeme.Lexeme.{Lexeme}
use Rattle.c_syntax.specs.declared.parts.Identifier.{Identifier}
use Rattle.c_syntax.specs.declared.parts.Attr.{Attr}
use Rattle.c_tree.specs.Tree.{SpecWord, SomeBody, no_body, some_body, StructItems, MemDeclr, Declr, pointer, declr_name, declr_paren, array, params, abs_pointer, abs_paren, abs_array, abs_params, identifiers, base_name, identifiers, base_name}
use Rattle.c_tree.specs.Text.{sign_text, keyword_text, tag_text, attrs_text, extensions_text, expr_text, spec_words_text, spec_word_text, some_body_text, struct_items_text, mem_declrs_text, some_value_text, declr_text}
use Rattle.c_tree.specs.Height.{attrs_height, expr_height, specs_height, spec_word_height, some_body_height, mem_declrs_height, mem_declr_height, some_value_height, declr_height}
use Rattle.c_tree.specs.Groups.{IsGroup}
use Rattle.c_tree.specs.WellFormed.{IsSpecWord, IsBody, HasTagOrBody, IsMemStart, AreMemDeclrs, is_struct}
use Rattle.c_units.specs.HeldScopes.{HeldScopes}
use Rattle.c_units.specs.Scoping.{behind, expr_scopes, spec_word_scopes, spec_words_scopes, some_body_scopes, struct_items_scopes, mem_declrs_scopes, some_value_scopes, declr_scopes, mem_declr_scopes}
use Rattle.c_reading.specs.declared.kinds.Reach.TheVariants.{Conditional}
use Rattle.c_reading.specs.declared.kinds.Role.TheVariants.{Typed}
use Rattle.c_reading.specs.Reading.{Found, kind_at, listed, comma_turn, with_next, Next, one_more, list_end, CommaList, IsNumbered, IsTail}
use Rattle.c_reading.specs.Tokens.{is_semicolon, is_colon, is_open_brace, is_close_brace, is_static_assert}
use Rattle.c_reading.specs.Parts.{Inner, MemberItem, struct_items_from, mem_declrs_from}
use Rattle.c_reading.specs.Specifying.{value_with, width_with, field_with, mem_declr_with, first_member, next_member, mem_declrs_with, member_with, struct_item_with, members_with, body_with, without_body, struct_with}
use Rattle.c_reading.proofs.Binding.{found, done, ok_is, bind_ok, fits_ok, if_ok}
use Rattle.c_reading.proofs.Loops.{run-keep}
use Rattle.c_reading.proofs.Forms.{Form, Takes, IsSound, at_end, behind_is, through, took, took_token, took_tag}
use Rattle.c_reading.proofs.Rows.{repeated_sound}
use Rattle.c_reading.proofs.Commas.{NextTakes, list_form, list_parts, listed_sound, commas_text, ending_text}
use Rattle.c_reading.proofs.KindFacts.{semicolon_kind, colon_kind, open_brace_kind, close_brace_kind}
use Rattle.c_reading.proofs.Shared.{specs_here_sound, named_declr_sound}
use Rattle.c_reading.proofs.SpecsFalls.{next_member_shrinks}
use Rattle.c_reading.proofs.SpecsLists.{items_are, items_fit, items_named, items_high, member_ending, declrs_are, declrs_fit, declrs_named, declrs_high}
use Rattle.c_reading.proofs.Aims.{struct_item_form, member_form, mem_declr_form, some_value_form, least_with, TokenLaws, Laws}

-- heights

pub attrs_low : (attrs : List Attr) (room : ℕ) → least_with attrs ≤ room → attrs_height attrs ≤ room - 1
attrs_low [] room h = omega arith
attrs_low (a ∷ attrs) room h = omega (arith, h)

-- a declarator is at least 1 high
pub declr_high : (d : Declr) → 1 ≤ declr_height d
declr_high (pointer star words d) = omega arith
declr_high (declr_name token name) = omega arith
declr_high (declr_paren opening attrs d closing) = omega arith
declr_high (array d opening words size closing) = omega arith
declr_high (params d opening ps dots closing) = omega arith
declr_high (abs_pointer star words d) = omega arith
declr_high (abs_paren opening attrs d closing) = omega arith
declr_high (abs_array d opening words size closing) = omega arith
declr_high (abs_params d opening ps dots closing) = omega arith
declr_high (identifiers d opening names closing) = omega arith
declr_high (base_name token) = omega arith

pub two_low : (a b room : ℕ) → 1 ≤ room → a ≤ room - 1 → b ≤ room - 1 → max a b + 1 ≤ room
two_low a b room one h k = omega (arith, one, h, k)

three_low : (a b c room : ℕ) → 1 ≤ a → a ≤ room - 1 → b ≤ room - 1 → c ≤ room - 1 → max a (max b c) + 1 ≤ room
three_low a b c room one h k l = omega (arith, one, h, k, l)

pair_low : (a b room : ℕ) → a ≤ room - 1 → b ≤ room → max a b ≤ room
pair_low a b room h k = omega (arith, h, k)

none_low : (b room : ℕ) → b ≤ room → max 0 b ≤ room
none_low b room h = omega (arith, h)

member_low : (a b room : ℕ) → a + 1 ≤ room → b ≤ room - 1 → max a b + 1 ≤ room
member_low a b room h k = omega (arith, h, k)

pub same_scopes : {s t : HeldScopes} → Some s ≡ Some t → t ≡ s
same_scopes e = sym cc

module _ (all : List Lexeme) where
  -- declarators of a member as a list of items
  abbrev pub mem_declrs_form : Form (List MemberItem)
  mem_declrs_form = record {
    text = λ xs k. mem_declrs_text all (mem_declrs_from xs) k;
    Fits = λ xs. IsMemStart (mem_declrs_from xs) × AreMemDeclrs all (mem_declrs_from xs);
    scopes = λ xs s. mem_declrs_scopes (mem_declrs_from xs) s;
    height = λ xs. mem_declrs_height (mem_declrs_from xs);
  }

  abbrev pub body_form : Option Identifier → Form SomeBody
  body_form tag = record {
    text = some_body_text all;
    Fits = λ b. HasTagOrBody tag b × IsBody all b;
    scopes = some_body_scopes;
    height = some_body_height;
  }

  abbrev pub word_form : Form SpecWord
  word_form =
      record { text = spec_word_text all; Fits = IsSpecWord all; scopes = spec_word_scopes; height = spec_word_height }

  module _ (numbered : IsNumbered all) (tokens : TokenLaws all) (n : ℕ) (inner : Inner) (laws : Laws all n inner) where
    pub value_sound : (test : TokenKind → Bool) (mark : Punct)
        → ((kind : TokenKind) → test kind ≡ true → kind ≡ kinds.Punct mark) → (room : ℕ) →
        IsSound all (some_value_form all mark) (room - 1) (value_with inner test room)
    unfolding value_with
    value_sound test mark only room s ts x tail e =
        if_ok (test (kind_at ts)) e
        (λ is e. let r = fits_ok 2 room ts e in
        let a = bind_ok r.1 in
        let b = bind_ok a.2 in
        let o = took all (kinds.Punct mark) s ts a.0 tail (only (kind_at ts) is) a.1 in
        let i = laws.exprs.sound Conditional (room - 1) a.0.scopes a.0.rest b.0 o.left b.1 in
        at_end (Takes all (some_value_form all mark) (room - 1) s ts) b.2 (record {
          spelled = o.spelled ∙ ap (sign_text mark a.0.tree) i.spelled;
          fits = i.fits;
          named = through (expr_scopes b.0.tree) o.same i.named refl;
          low = i.low;
          left = i.left;
        }))
        (λ is e. at_end (Takes all (some_value_form all mark) (room - 1) s ts) e
        (record { spelled = refl; fits = tt; named = refl; low = omega arith; left = tail }))

    width_sound : (room : ℕ) (s : HeldScopes) (ts : List Lexeme) (x : Found MemDeclr) → IsTail all ts
        → is_colon (kind_at ts) ≡ true → width_with inner room s ts ≡ done x
        → Takes all (mem_declr_form all) room s ts x
    unfolding width_with
    width_sound room s ts x tail is e =
        let r = fits_ok 2 room ts e in
        let a = bind_ok r.1 in
        let b = bind_ok a.2 in
        let c = bind_ok b.2 in
        let o = took all (kinds.Punct puncts.Colon) s ts a.0 tail (colon_kind (kind_at ts) is) a.1 in
        let i = laws.exprs.sound Conditional (room - 1) a.0.scopes a.0.rest b.0 o.left b.1 in
        let q = tokens.attrs_sound room b.0.scopes b.0.rest c.0 i.left c.1 in
        at_end (Takes all (mem_declr_form all) room s ts) c.2 (record {
          spelled =
              o.spelled ∙ ap (sign_text puncts.Colon a.0.tree) (i.spelled ∙ ap (expr_text all b.0.tree) q.spelled);
          fits = (i.fits.0, i.fits.1, q.fits);
          named = through (expr_scopes b.0.tree) o.same i.named (same_scopes q.named);
          low = two_low (expr_height b.0.tree) (attrs_height c.0.tree) room (omega (arith, r.0)) i.low
              (attrs_low c.0.tree room q.low);
          left = q.left;
        })

    field_sound : (room : ℕ) → IsSound all (mem_declr_form all) room (field_with inner room)
    unfolding field_with
    field_sound room s ts x tail e =
        let a = bind_ok e in
        let b = bind_ok a.2 in
        let c = bind_ok b.2 in
        let d = named_declr_sound all n inner laws None (room - 1) s ts a.0 tail a.1 in
        let v = value_sound is_colon puncts.Colon colon_kind room a.0.scopes a.0.rest b.0 d.left b.1 in
        let q = tokens.attrs_sound room b.0.scopes b.0.rest c.0 v.left c.1 in
        at_end (Takes all (mem_declr_form all) room s ts) c.2 (record {
          spelled = d.spelled
              ∙ ap (declr_text all a.0.tree) (v.spelled ∙ ap (some_value_text all puncts.Colon b.0.tree) q.spelled);
          fits = (d.fits.0, d.fits.1, v.fits, q.fits, d.fits.2);
          named = behind_is (some_value_scopes b.0.tree) d.named (v.named ∙ q.named);
          low = three_low (declr_height a.0.tree) (some_value_height b.0.tree) (attrs_height c.0.tree) room
              (declr_high a.0.tree) d.low v.low (attrs_low c.0.tree room q.low);
          left = q.left;
        })

    mem_declr_sound : (room : ℕ) → IsSound all (mem_declr_form all) room (mem_declr_with inner room)
    unfolding mem_declr_with
    mem_declr_sound room s ts x tail e =
        if_ok (is_colon (kind_at ts)) e (λ is e. width_sound room s ts x tail is e)
        (λ is e. field_sound room s ts x tail e)

    first_member_sound : (room : ℕ) → IsSound all (member_form all) room (first_member inner room)
    unfolding first_member
    first_member_sound room s ts x tail e =
        let a = bind_ok e in
        let d = mem_declr_sound room s ts a.0 tail a.1 in
        at_end (Takes all (member_form all) room s ts) a.2 (record {
          spelled = d.spelled;
          fits = (All-nil (λ (a : Attr). IsGroup all a.group), d.fits);
          named = d.named;
          low = none_low (mem_declr_height a.0.tree) room d.low;
          left = d.left;
        })

    next_member_sound : (room comma : ℕ) (s : HeldScopes) (ts : List Lexeme) (x : Found (Next MemberItem ⊥))
        → IsTail all ts → next_member inner room comma s ts ≡ done x →
        NextTakes all (member_form all) member_ending room comma s ts x.tree x.scopes x.rest
    unfolding next_member
    next_member_sound room comma s ts x tail e =
        let less : length x.rest < length ts = next_member_shrinks all tokens n inner laws room comma s ts x e in
        let a = bind_ok e in
        let b = bind_ok a.2 in
        let q = tokens.attrs_sound room s ts a.0 tail a.1 in
        let d = mem_declr_sound room a.0.scopes a.0.rest b.0 q.left b.1 in
        let less' : length b.0.rest < length ts =
        subst (λ (x : Found (Next MemberItem ⊥)). length x.rest < length ts) (sym (ok_is b.2)) less in
        at_end (λ (x : Found (Next MemberItem ⊥)). NextTakes all
        (member_form all) member_ending room comma s ts x.tree x.scopes x.rest) b.2 (
          record {
            spelled = q.spelled ∙ ap (attrs_text all a.0.tree) d.spelled;
            fits = (q.fits, d.fits);
            named = through (mem_declr_scopes b.0.tree) (same_scopes q.named) d.named refl;
            low =
                pair_low (attrs_height a.0.tree) (mem_declr_height b.0.tree) room (attrs_low a.0.tree room q.low) d.low;
            left = d.left;
          },
          less',
        )

    -- no attributes stand before the first declarator
    abbrev StartsBare : List MemberItem → Type 0
    StartsBare [] = ⊥
    StartsBare (x ∷ xs) = x.attrs ≡ []

    bare_push : (xs : List MemberItem) (y : MemberItem) → StartsBare xs → StartsBare (xs ++ y ∷ [])
    bare_push [] y h = absurd h
    bare_push (x ∷ xs) y h = h

    bare_next : (xs : List MemberItem) (y : Next MemberItem ⊥) → StartsBare xs → StartsBare (with_next xs y).items
    bare_next xs (one_more y) h = bare_push xs y h
    bare_next xs (list_end y) h = absurd y

    bare_start : (xs : List MemberItem) → StartsBare xs → IsMemStart (mem_declrs_from xs)
    bare_start [] h = tt
    bare_start (x ∷ xs) h = h

    bare_sound : (room : ℕ) (s : HeldScopes) (ts : List Lexeme) (x : Found (CommaList MemberItem ⊥))
        → listed (first_member inner room) (next_member inner room) s ts ≡ done x → StartsBare x.tree.items
    unfolding listed first_member
    bare_sound room s ts x e =
        let a = bind_ok e in
        let b = bind_ok a.1 in
        run-keep (comma_turn (next_member inner room)) (λ l s k. StartsBare l.items)
        (λ l s k x h e. let p = list_parts (first_member inner room) (next_member inner room) l s k x e in
        subst (λ (x : Found (CommaList MemberItem ⊥)). StartsBare x.tree.items) p.7 (bare_next l.items p.2.tree h))
        (record { items = a.0.tree ∷ []; ending = None }) a.0.scopes a.0.rest x
        (at_end (λ (x : Found MemberItem). x.tree.attrs ≡ []) b.2 refl) a.2

    mem_declrs_sound : (room : ℕ) → IsSound all mem_declrs_form room (mem_declrs_with inner room)
    unfolding mem_declrs_with
    mem_declrs_sound room s ts x tail e =
        if_ok (is_semicolon (kind_at ts)) e
        (λ is e. at_end (Takes all mem_declrs_form room s ts) e
        (record { spelled = refl; fits = (tt, tt); named = refl; low = omega arith; left = tail }))
        (λ is e. let a = bind_ok e in
        let i = listed_sound (first_member inner room) (next_member inner room) all numbered
        (member_form all) member_ending room
        (first_member_sound room) (next_member_sound room) s ts a.0 tail a.1 in
        at_end (Takes all mem_declrs_form room s ts) a.2 (of_list a.0 i (bare_sound room s ts a.0 a.1)))
      where
        of_list : (l : Found (CommaList MemberItem ⊥))
            → Takes all (list_form (member_form all) member_ending) room s ts l → StartsBare l.tree.items →
            Takes all mem_declrs_form room s ts (found l.tree.items l.scopes l.rest)
        of_list l i bare = record {
          spelled = by_ending l.tree.ending i.spelled;
          fits = (bare_start l.tree.items bare, declrs_fit all l.tree.items i.fits.1);
          named = sym (declrs_named all l.tree.items s) ∙ i.named;
          low = subst (λ (h : ℕ). h ≤ room) (declrs_high all l.tree.items) i.low;
          left = i.left;
        }
          where
            by_ending : (o : Option ⊥)
                → ts ≡ commas_text (member_form all) member_ending l.tree.items
                (ending_text (member_form all) member_ending o l.rest) →
                ts ≡ mem_declrs_text all (mem_declrs_from l.tree.items) l.rest
            by_ending None is = is ∙ declrs_are all l.tree.items l.rest
            by_ending (Some e) is = absurd e

    member_sound : (room : ℕ) → IsSound all (struct_item_form all) room (member_with inner room)
    unfolding member_with
    member_sound room s ts x tail e =
        let a = bind_ok e in
        let b = bind_ok a.2 in
        let c = bind_ok b.2 in
        let d = bind_ok c.2 in
        let g = tokens.exts_sound room s ts a.0 tail a.1 in
        let w = specs_here_sound all n inner laws Typed room a.0.scopes a.0.rest b.0 g.left b.1 in
        let m = mem_declrs_sound (room - 1) b.0.scopes b.0.rest c.0 w.left c.1 in
        let q =
        took_token all is_semicolon (kinds.Punct puncts.Semicolon) semicolon_kind c.0.scopes c.0.rest d.0 m.left d.1 in
        at_end (Takes all (struct_item_form all) room s ts) d.2 (record {
          spelled = g.spelled ∙ ap (extensions_text a.0.tree) (w.spelled ∙ ap (spec_words_text all b.0.tree)
              (m.spelled ∙ ap (mem_declrs_text all (mem_declrs_from c.0.tree)) q.spelled));
          fits = (w.fits.0, w.fits.1.0, w.fits.1.1, m.fits.0, m.fits.1);
          named = behind_is (mem_declrs_scopes (mem_declrs_from c.0.tree))
              (through (spec_words_scopes b.0.tree) (same_scopes g.named) w.named refl)
              (m.named ∙ ap Some (sym q.same));
          low = member_low (specs_height b.0.tree) (mem_declrs_height (mem_declrs_from c.0.tree)) room w.low m.low;
          left = q.left;
        })

    struct_item_sound : (room : ℕ) → IsSound all (struct_item_form all) room (struct_item_with inner room)
    unfolding struct_item_with
    struct_item_sound room s ts x tail e =
        if_ok (is_semicolon (kind_at ts)) e
        (λ is e. let r = fits_ok 1 room ts e in
        let a = bind_ok r.1 in
        let o = took all (kinds.Punct puncts.Semicolon) s ts a.0 tail (semicolon_kind (kind_at ts) is) a.1 in
        at_end (Takes all (struct_item_form all) room s ts) a.2
        (record { spelled = o.spelled; fits = tt; named = ap Some (sym o.same); low = r.0; left = o.left }))
        (λ is e. if_ok (is_static_assert (kind_at ts)) e
        (λ is e. let r = fits_ok 1 room ts e in
        let a = bind_ok r.1 in
        let o = tokens.assert_sound room s ts a.0 tail a.1 in
        at_end (Takes all (struct_item_form all) room s ts) a.2
        (record { spelled = o.spelled; fits = o.fits; named = o.named; low = r.0; left = o.left }))
        (λ is e. member_sound room s ts x tail e))

    members_sound : (tag : Option Identifier) (room : ℕ) (s : HeldScopes) (ts : List Lexeme) (x : Found SomeBody)
        → IsTail all ts → is_open_brace (kind_at ts) ≡ true → members_with inner room s ts ≡ done x →
        Takes all (body_form tag) (room - 1) s ts x
    unfolding members_with
    members_sound tag room s ts x tail is e =
        let a = bind_ok e in
        let b = bind_ok a.2 in
        let c = bind_ok b.2 in
        let o = took all (kinds.Punct puncts.OpenBrace) s ts a.0 tail (open_brace_kind (kind_at ts) is) a.1 in
        let i = repeated_sound (λ kind. not (is_close_brace kind)) (struct_item_with inner (room - 1)) all
        (struct_item_form all) (room - 1) (struct_item_sound (room - 1)) a.0.scopes a.0.rest b.0 o.left b.1 in
        let q = took_token all is_close_brace
        (kinds.Punct puncts.CloseBrace) close_brace_kind b.0.scopes b.0.rest c.0 i.left c.1 in
        at_end (Takes all (body_form tag) (room - 1) s ts) c.2 (record {
          spelled = o.spelled ∙ ap (sign_text puncts.OpenBrace a.0.tree) (i.spelled ∙ items_are all b.0.tree b.0.rest
              ∙ ap (struct_items_text all (struct_items_from b.0.tree)) q.spelled);
          fits = (has tag a.0.tree (struct_items_from b.0.tree) c.0.tree, items_fit all b.0.tree i.fits);
          named = through (struct_items_scopes (struct_items_from b.0.tree)) o.same
              (sym (items_named all b.0.tree a.0.scopes) ∙ i.named) q.same;
          low = subst (λ (h : ℕ). h ≤ room - 1) (items_high all b.0.tree) i.low;
          left = q.left;
        })
      where
        has : (tag : Option Identifier) (opening : ℕ) (items : StructItems) (closing : ℕ)
            → HasTagOrBody tag (some_body opening items closing)
        has None opening items closing = tt
        has (Some tag) opening items closing = tt

    without_sound : (tag : Option Identifier) (room : ℕ) → IsSound all (body_form tag) room (without_body tag no_body)
    without_sound None room s ts x tail e = absurd cc
    without_sound (Some tag) room s ts x tail e =
        at_end (Takes all (body_form (Some tag)) room s ts) e
        (record { spelled = refl; fits = (tt, tt); named = refl; low = omega arith; left = tail })

    body_sound : (tag : Option Identifier) (room : ℕ)
        → IsSound all (body_form tag) (room - 1) (body_with inner tag room)
    unfolding body_with
    body_sound tag room s ts x tail e =
        if_ok (is_open_brace (kind_at ts)) e (λ is e. members_sound tag room s ts x tail is e)
        (λ is e. without_sound tag (room - 1) s ts x tail e)

    pub struct_sound : (keyword : Keyword) (room : ℕ) (s : HeldScopes) (ts : List Lexeme) (x : Found SpecWord)
        → IsTail all ts → is_struct keyword ≡ true → kind_at ts ≡ kinds.Keyword keyword → 1 ≤ room →
        struct_with inner keyword room s ts ≡ done x → Takes all word_form room s ts x
    unfolding struct_with
    struct_sound keyword room s ts x tail struct is one e =
        let a = bind_ok e in
        let b = bind_ok a.2 in
        let c = bind_ok b.2 in
        let d = bind_ok c.2 in
        let o = took all (kinds.Keyword keyword) s ts a.0 tail is a.1 in
        let q = tokens.attrs_sound room a.0.scopes a.0.rest b.0 o.left b.1 in
        let t = took_tag all b.0.scopes b.0.rest c.0 q.left c.1 in
        let i = body_sound c.0.tree room c.0.scopes c.0.rest d.0 t.left d.1 in
        at_end (Takes all word_form room s ts) d.2 (record {
          spelled = o.spelled ∙ ap (keyword_text keyword a.0.tree)
              (q.spelled ∙ ap (attrs_text all b.0.tree) (t.spelled ∙ ap (tag_text c.0.tree) i.spelled));
          fits = (struct, q.fits, i.fits.0, i.fits.1);
          named = through (some_body_scopes d.0.tree) (t.same ∙ same_scopes q.named ∙ o.same) i.named refl;
          low = two_low (attrs_height b.0.tree) (some_body_height d.0.tree) room one
              (attrs_low b.0.tree room q.low) i.low;
          left = i.left;
        })
