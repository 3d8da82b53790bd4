-- What the readers of blocks and statements take is spelled so and well formed.
use Rattle.std.proofs.Common.{◌≡◌, ◌≢◌, ℕ, ◌≤◌, Bool, true, false, List, [], ◌∷◌, ◌++◌, Option, Some, None, refl, sym, ◌∙◌, ap, subst, arith}
use Rattle.std.specs.Prelude.{◌+◌, ◌-◌, max, not}
use Rattle.std.proofs.lemmas.List.Elements.{All-head, All-tail}
use Rattle.c_words.specs.declared.kinds.TokenKind.{TokenKind}
use Rattle.c_words.specs.declared.kinds.TokenKind.TheVariants as kinds
use Rattle.c_words.specs.declared.kinds.Punct.TheVariants as puncts
use Rattle.c_words.specs.declared.kinds.Keyword.TheVariants as keywords
use Rattle.c_tree.specs.declared.lexeme.Lexeme.{Lexeme}
use Rattle.c_specs.specs.Laws.{MixesGoOn}
use Rattle.c_syntax.specs.declared.parts.Attr.{Attr}
use Rattle.c_tree.specs.Tree.{SomeExpr, no_words, more_words, typedef_name, Declaration, decl_declaration, BlockItem, block_decl, block_stmt, Stmt, block, attr_stmt}
use Rattle.c_tree.specs.Text.{sign_text, name_text, identifier_text, attrs_text, attr_text, extensions_text, expr_text, some_expr_text, spec_words_text, block_items_text, stmt_text}
use Rattle.c_tree.specs.Height.{attrs_height, expr_height, some_expr_height, specs_height, block_height, stmt_height}
use Rattle.c_tree.specs.WellFormed.{AreLabelsFirst, is_labels, AreAttrs, AreSpecWords, IsSomeExpr, AreBlockItems, IsStmt, IsNoAttrStmt, takes_else}
use Rattle.c_tree.specs.Groups.{IsGroup}
use Rattle.c_units.specs.HeldScopes.{HeldScopes, names_type, enter, leave}
use Rattle.c_units.specs.Scoping.{in_own_scope, some_expr_scopes, spec_words_scopes, declaration_scopes, block_items_scopes, block_item_scopes, stmt_scopes}
use Rattle.c_reading.specs.declared.kinds.Reach.TheVariants.{Whole}
use Rattle.c_reading.specs.declared.kinds.StmtStart.{StmtStart}
use Rattle.c_reading.specs.declared.kinds.StmtStart.TheVariants as starts
use Rattle.c_reading.specs.Reading.{Found, Read, Reader, kind_at, behind_first, IsNumbered, IsTail}
use Rattle.c_reading.specs.Tokens.{is_open_paren, is_close_paren, is_open_brace, is_close_brace, is_colon, is_semicolon, is_while, is_else, is_extension, is_attribute, is_static_assert, is_label_word, spelled_name, extensions_at, attrs_at, attr_at}
use Rattle.c_reading.specs.Parts.{Inner, Begun, nothing, extensions, Block, block_items_from}
use Rattle.c_reading.specs.Specifying.{begins_specs}
use Rattle.c_reading.specs.Declaring.{words_of_attrs}
use Rattle.c_reading.specs.Stating.{as_item as reads_item, as_stmt as reads_stmt, labels_with, stmt_start, expr_stmt_with, label_with, named_item, extended_item, attr_item_by, attr_item, other_item, block_item_with, block_body, block_with, part_with, some_expr_with}
use Rattle.c_reading.proofs.Binding.{found, done, bind_ok, fits_ok, if_ok}
use Rattle.c_reading.proofs.Forms.{Form, Takes, IsSound, at_end, behind_is, through, took, took_token, took_name, name_kind}
use Rattle.c_reading.proofs.Rows.{row_text, repeated_sound, repeated_sound_at}
use Rattle.c_reading.proofs.Ended.{repeated_stops, exts_stop}
use Rattle.c_reading.proofs.KindFacts.{open_brace_kind, close_brace_kind, colon_kind, semicolon_kind}
use Rattle.c_reading.proofs.Aims.{least_with, begun_text, declaration_form, block_form, block_item_form, stmt_form, TokenLaws, Laws}
use Rattle.c_reading.proofs.DeclLists.{attrs_room}
use Rattle.c_reading.proofs.LabelLists.{labels_form, plain_form, items_text, items_fit, items_first, items_named, items_high, labels_sound}
use Rattle.c_reading.proofs.DeclSound.{declaration_sound, declaration_from_sound}

-- the first token of a statement is the one that its form is named by
abbrev pub IsStmtStart : StmtStart → TokenKind → Type 0
IsStmtStart starts.Block kind = kind ≡ kinds.Punct puncts.OpenBrace
IsStmtStart starts.Semicolon kind = kind ≡ kinds.Punct puncts.Semicolon
IsStmtStart starts.Attribute kind = kind ≡ kinds.Keyword keywords.Attribute
IsStmtStart (starts.Name name) kind = kind ≡ kinds.Name name
IsStmtStart starts.Case kind = kind ≡ kinds.Keyword keywords.Case
IsStmtStart starts.Default kind = kind ≡ kinds.Keyword keywords.Default
IsStmtStart starts.If kind = kind ≡ kinds.Keyword keywords.If
IsStmtStart starts.Switch kind = kind ≡ kinds.Keyword keywords.Switch
IsStmtStart starts.While kind = kind ≡ kinds.Keyword keywords.While
IsStmtStart starts.Do kind = kind ≡ kinds.Keyword keywords.Do
IsStmtStart starts.For kind = kind ≡ kinds.Keyword keywords.For
IsStmtStart starts.Goto kind = kind ≡ kinds.Keyword keywords.Goto
IsStmtStart starts.Continue kind = kind ≡ kinds.Keyword keywords.Continue
IsStmtStart starts.Break kind = kind ≡ kinds.Keyword keywords.Break
IsStmtStart starts.Return kind = kind ≡ kinds.Keyword keywords.Return
IsStmtStart starts.Asm kind = kind ≡ kinds.Keyword keywords.Asm
IsStmtStart starts.Value kind = Unit {0}

-- a token is the first of the form of statement that it is taken for
pub stmt_start_is : (kind : TokenKind) → IsStmtStart (stmt_start kind) kind
stmt_start_is (kinds.Punct puncts.OpenBrace) = refl
stmt_start_is (kinds.Punct puncts.Semicolon) = refl
stmt_start_is (kinds.Keyword keywords.Attribute) = refl
stmt_start_is (kinds.Keyword keywords.Case) = refl
stmt_start_is (kinds.Keyword keywords.Default) = refl
stmt_start_is (kinds.Keyword keywords.If) = refl
stmt_start_is (kinds.Keyword keywords.Switch) = refl
stmt_start_is (kinds.Keyword keywords.While) = refl
stmt_start_is (kinds.Keyword keywords.Do) = refl
stmt_start_is (kinds.Keyword keywords.For) = refl
stmt_start_is (kinds.Keyword keywords.Goto) = refl
stmt_start_is (kinds.Keyword keywords.Continue) = refl
stmt_start_is (kinds.Keyword keywords.Break) = refl
stmt_start_is (kinds.Keyword keywords.Return) = refl
stmt_start_is (kinds.Keyword keywords.Asm) = refl
stmt_start_is (kinds.Name name) = refl
stmt_start_is kind = tt

-- sums of heights
pub one_up : (h room : ℕ) → 1 ≤ room → h ≤ room - 1 → h + 1 ≤ room
one_up h room a b = omega (arith, a, b)

pub two_up : (h k room : ℕ) → 2 ≤ room → h ≤ room - 1 → k ≤ room - 1 → max h k + 1 ≤ room
two_up h k room a b c = omega (arith, a, b, c)

pub three_up : (h k l room : ℕ) → 2 ≤ room → h ≤ room - 1 → k ≤ room - 1 → l ≤ room - 1 → max h (max k l) + 1 ≤ room
three_up h k l room a b c d = omega (arith, a, b, c, d)

pub four_up : (h k l m room : ℕ) → 2 ≤ room → h ≤ room - 1 → k ≤ room - 1 → l ≤ room - 1 → m ≤ room - 1
    → max h (max k (max l m)) + 1 ≤ room
four_up h k l m room a b c d e = omega (arith, a, b, c, d, e)

pub some_room : (room : ℕ) → 2 ≤ room → 1 ≤ room
some_room room a = omega (arith, a)

pub attr_room : (attrs : List Attr) (room : ℕ) → attrs ≢ [] → least_with attrs ≤ room → attrs_height attrs + 1 ≤ room
attr_room [] room some low = absurd (some refl)
attr_room (a ∷ attrs) room some low = low

-- attributes as words
attr_words_text : (all : List Lexeme) (attrs : List Attr) (k : List Lexeme)
    → spec_words_text all (words_of_attrs attrs) k ≡ attrs_text all attrs k
attr_words_text all [] k = refl
attr_words_text all (a ∷ attrs) k = ap (attr_text all a) (attr_words_text all attrs k)

attr_words_fit : (all : List Lexeme) (attrs : List Attr) → AreAttrs all attrs → AreSpecWords all (words_of_attrs attrs)
attr_words_fit all [] h = tt
attr_words_fit all (a ∷ attrs) h = (
  All-head (λ (a : Attr). IsGroup all a.group) a attrs h,
  attr_words_fit all attrs (All-tail (λ (a : Attr). IsGroup all a.group) a attrs h),
)

attr_words_scopes : (attrs : List Attr) (s : HeldScopes) → spec_words_scopes (words_of_attrs attrs) s ≡ Some s
attr_words_scopes [] s = refl
attr_words_scopes (a ∷ attrs) s = attr_words_scopes attrs s

attr_words_two : (attrs : List Attr) → specs_height (words_of_attrs attrs) ≤ 2
attr_words_two [] = omega arith
attr_words_two (a ∷ attrs) =
    let rest : specs_height (words_of_attrs attrs) ≤ 2 = attr_words_two attrs in
    omega (arith, rest)

pub some_scopes : (s t : HeldScopes) → Some s ≡ Some t → t ≡ s
some_scopes s t e = cc

-- a scope of its own
pub own_is : (f : HeldScopes → Option HeldScopes) (s t : HeldScopes) → f (enter s) ≡ Some t
    → in_own_scope f s ≡ Some (leave t)
own_is f s t h = behind_is (λ inner. Some (leave inner)) h refl

module _ (all : List Lexeme) (numbered : IsNumbered all) (tokens : TokenLaws all) (n : ℕ) (inner : Inner)
    (laws : Laws all n inner) (goes : MixesGoOn) where
  abbrev pub some_expr_form : Form SomeExpr
  some_expr_form =
      record { text = some_expr_text all; Fits = IsSomeExpr all; scopes = some_expr_scopes; height = some_expr_height }

  pub some_expr_sound : (test : TokenKind → Bool) (room : ℕ)
      → IsSound all some_expr_form room (some_expr_with inner test room)
  unfolding some_expr_with
  some_expr_sound test room s ts x tail e =
      if_ok (test (kind_at ts)) e (λ is e. at_end (Takes all some_expr_form room s ts) e
      (record { spelled = refl; fits = tt; named = refl; low = omega arith; left = tail })) (λ is e.
      let a = bind_ok e in
      let i = laws.exprs.sound Whole room s ts a.0 tail a.1 in
      at_end (Takes all some_expr_form room s ts) a.2
      (record { spelled = i.spelled; fits = i.fits.0; named = i.named; low = i.low; left = i.left }))

  -- a direct part of a statement
  abbrev pub part_form : Form Stmt
  part_form = record {
    text = stmt_text all;
    Fits = IsStmt all;
    scopes = λ t s. in_own_scope (stmt_scopes t) s;
    height = stmt_height;
  }

  pub part_sound : (room : ℕ) → IsSound all part_form room (part_with inner room)
  part_sound room s ts x tail e =
      let a = bind_ok e in
      let i = laws.stmts.sound room (enter s) ts a.0 tail a.1 in
      at_end (Takes all part_form room s ts) a.2 (record {
        spelled = i.spelled;
        fits = i.fits;
        named = own_is (stmt_scopes a.0.tree) s a.0.scopes i.named;
        low = i.low;
        left = i.left;
      })

  pub part_ended : (room : ℕ) (s : HeldScopes) (ts : List Lexeme) (x : Found Stmt) → part_with inner room s ts ≡ done x
      → takes_else x.tree ≡ true → is_else (kind_at x.rest) ≡ false
  part_ended room s ts x e =
      let a = bind_ok e in
      at_end (λ (x : Found Stmt). takes_else x.tree ≡ true
      → is_else (kind_at x.rest) ≡ false) a.2 (laws.stmts.ended room (enter s) ts a.0 a.1)

  pub expr_stmt_sound : (begun : Begun) (room : ℕ) (s : HeldScopes) (ts : List Lexeme) (x : Found Stmt) → 1 ≤ room
      → IsTail all ts → expr_stmt_with inner begun room s ts ≡ done x
      → Takes all (stmt_form all) room s (begun_text begun ts) x
  unfolding expr_stmt_with
  expr_stmt_sound begun room s ts x least tail e =
      let a = bind_ok e in
      let b = bind_ok a.2 in
      let i = laws.exprs.begun_sound Whole begun (room - 1) refl s ts a.0 tail a.1 in
      let q =
      took_token all is_semicolon (kinds.Punct puncts.Semicolon) semicolon_kind a.0.scopes a.0.rest b.0 i.left b.1 in
      at_end (Takes all (stmt_form all) room s (begun_text begun ts)) b.2 (record {
        spelled = i.spelled ∙ ap (expr_text all a.0.tree) q.spelled;
        fits = i.fits.0;
        named = i.named ∙ ap Some (sym q.same);
        low = one_up (expr_height a.0.tree) room least i.low;
        left = q.left;
      })

  no_attr_stmt : (room : ℕ) (s : HeldScopes) (ts : List Lexeme) (x : Found Stmt) → IsTail all ts
      → is_attribute (kind_at ts) ≡ false → inner.stmt room s ts ≡ done x → IsNoAttrStmt x.tree
  no_attr_stmt room s ts x tail no_attr e =
      by_stmt x.tree (laws.stmts.sound room s ts x tail e).spelled (laws.stmts.sound room s ts x tail e).fits
    where
      by_stmt : (t : Stmt) → ts ≡ stmt_text all t x.rest → IsStmt all t → IsNoAttrStmt t
      by_stmt (attr_stmt [] semi) is h = absurd (h.0 refl)
      by_stmt (attr_stmt (a ∷ attrs) semi) is h = absurd (two (is_attribute (kind_at ts)) no_attr (rw is refl))
        where
          two : (b : Bool) → b ≡ false → b ≡ true → ⊥
          two true p q = cc
          two false p q = cc
      by_stmt (block opening items closing) is h = tt
      by_stmt t is h = tt

  -- behind attributes there are no more
  record NoMore (attrs : List Attr) (k : List Lexeme) : Type 0 where
    none : is_attribute (kind_at k) ≡ false

  pub label_sound : (attrs_end : (room : ℕ) (s : HeldScopes) (ts : List Lexeme) (x : Found (List Attr))
      → attrs_at room s ts ≡ done x → is_attribute (kind_at x.rest) ≡ false) →
      (room : ℕ) (s : HeldScopes) (ts : List Lexeme) (x : Found Stmt) → 2 ≤ room → IsTail all ts
      → label_with inner room s ts ≡ done x → Takes all (stmt_form all) room s ts x
  unfolding label_with
  label_sound attrs_end room s ts x least tail e =
      let a = bind_ok e in
      let b = bind_ok a.2 in
      let c = bind_ok b.2 in
      let d = bind_ok c.2 in
      let o = took_name all s ts a.0 tail a.1 in
      let p = took_token all is_colon (kinds.Punct puncts.Colon) colon_kind a.0.scopes a.0.rest b.0 o.left b.1 in
      let i = tokens.attrs_sound room b.0.scopes b.0.rest c.0 p.left c.1 in
      let j = laws.stmts.sound (room - 1) c.0.scopes c.0.rest d.0 i.left d.1 in
      at_end (Takes all (stmt_form all) room s ts) d.2 (record {
        spelled = o.spelled ∙ ap (identifier_text a.0.tree)
            (p.spelled ∙ ap (sign_text puncts.Colon b.0.tree) (i.spelled ∙ ap (attrs_text all c.0.tree) j.spelled));
        fits = (
          i.fits,
          j.fits,
          no_attr_stmt (room - 1) c.0.scopes c.0.rest d.0 i.left (attrs_end room b.0.scopes b.0.rest c.0 c.1) d.1,
        );
        named =
            through (stmt_scopes d.0.tree) (some_scopes b.0.scopes c.0.scopes i.named ∙ p.same ∙ o.same) j.named refl;
        low = two_up (attrs_height c.0.tree) (stmt_height d.0.tree) room least (attrs_room c.0.tree room i.low) j.low;
        left = j.left;
      })

  pub attrs_end : (room : ℕ) (s : HeldScopes) (ts : List Lexeme) (x : Found (List Attr)) → attrs_at room s ts ≡ done x
      → is_attribute (kind_at x.rest) ≡ false
  unfolding attrs_at
  attrs_end room s ts x e =
      repeated_stops is_attribute (λ s ts. Rattle.c_reading.specs.Reading.fits 2 room ts (attr_at s ts))
      (λ s ts x e. tokens.attr_shrinks s ts x (fits_ok _ _ _ e).1) s ts x e

  -- Items of blocks.

  decl_named : (d : Declaration) (s t : HeldScopes) → declaration_scopes d s ≡ Some t
      → block_item_scopes (block_decl (decl_declaration d)) s ≡ Some t
  decl_named d s t h = h

  as_decl : (room : ℕ) (s : HeldScopes) (ts : List Lexeme) (x : Found Declaration)
      → Takes all (declaration_form all) room s ts x
      → Takes all (block_item_form all) room s ts (found (block_decl (decl_declaration x.tree)) x.scopes x.rest)
  as_decl room s ts x h = record { spelled = h.spelled; fits = h.fits; named = h.named; low = h.low; left = h.left }

  as_stmt : (room : ℕ) (s : HeldScopes) (ts : List Lexeme) (x : Found Stmt) → Takes all (stmt_form all) room s ts x
      → Takes all (block_item_form all) room s ts (found (block_stmt x.tree) x.scopes x.rest)
  as_stmt room s ts x h = record { spelled = h.spelled; fits = h.fits; named = h.named; low = h.low; left = h.left }

  pub from_start : {T : Type 0} (form : Form T) (room : ℕ) (s t : HeldScopes) (ts us : List Lexeme) (x : Found T)
      → ts ≡ us → t ≡ s → Takes all form room t us x → Takes all form room s ts x
  from_start form room s t ts us x is same h = record {
    spelled = is ∙ h.spelled;
    fits = h.fits;
    named = subst (λ (u : HeldScopes). form.scopes x.tree u ≡ Some x.scopes) same h.named;
    low = h.low;
    left = h.left;
  }

  named_item_sound : (name room : ℕ) (s : HeldScopes) (ts : List Lexeme) (x : Found BlockItem) → IsTail all ts
      → kind_at ts ≡ kinds.Name name → named_item inner name room s ts ≡ done x
      → Takes all (block_item_form all) room s ts x
  unfolding named_item
  named_item_sound name room s ts x tail is e =
      let r = fits_ok _ _ _ e in
      if_ok (is_colon (kind_at (behind_first ts))) r.1 (λ c e.
      let a = bind_ok e in
      at_end (Takes all (block_item_form all) room s ts) a.2
      (as_stmt room s ts a.0 (label_sound attrs_end room s ts a.0 r.0 tail a.1))) (λ c e.
      if_ok (names_type s name) e (λ typed e.
      let a = bind_ok e in
      let b = bind_ok a.2 in
      let o = took all (kinds.Name name) s ts a.0 tail is a.1 in
      at_end (Takes all (block_item_form all) room s ts) b.2 (as_decl room s ts b.0
      (from_start (declaration_form all) room s s ts (name_text name a.0.tree a.0.rest) b.0 o.spelled refl
      (declaration_from_sound all numbered tokens n inner laws goes (more_words
      (typedef_name (record { token = a.0.tree; name = name })) no_words) room s a.0.scopes a.0.rest b.0 (tt, tt)
      (behind_is (spec_words_scopes no_words) (rw typed refl) (ap Some (sym o.same))) (omega arith) o.left b.1))))
      (λ typed e.
      let a = bind_ok e in
      at_end (Takes all (block_item_form all) room s ts) a.2
      (as_stmt room s ts a.0 (expr_stmt_sound nothing room s ts a.0 (some_room room r.0) tail a.1))))

  ext_room : (exts : List ℕ) (room : ℕ) → exts ≢ [] → least_with exts ≤ room → 1 ≤ room
  ext_room [] room some low = absurd (some refl)
  ext_room (x ∷ exts) room some low = omega (arith, low)

  extended_item_sound : (room : ℕ) (s : HeldScopes) (ts : List Lexeme) (x : Found BlockItem) → IsTail all ts
      → is_extension (kind_at ts) ≡ true → extended_item inner room s ts ≡ done x
      → Takes all (block_item_form all) room s ts x
  unfolding extended_item
  extended_item_sound room s ts x tail is e =
      let a = bind_ok e in
      let i = tokens.exts_sound room s ts a.0 tail a.1 in
      let some : 1 ≤ room = by_exts a.0.tree i.low i.spelled in
      if_ok (begins_specs a.0.scopes (kind_at a.0.rest)) a.2 (λ begun e.
      let b = bind_ok e in
      at_end (Takes all (block_item_form all) room s ts) b.2 (as_decl room s ts b.0 (from_start (declaration_form all)
      room s a.0.scopes ts (extensions_text a.0.tree a.0.rest) b.0 i.spelled (some_scopes s a.0.scopes i.named)
      (declaration_sound all numbered tokens n inner laws goes a.0.tree room a.0.scopes a.0.rest b.0 i.left b.1))))
      (λ begun e.
      let b = bind_ok e in
      at_end (Takes all (block_item_form all) room s ts) b.2 (as_stmt room s ts b.0 (from_start (stmt_form all) room s
      a.0.scopes ts (extensions_text a.0.tree a.0.rest) b.0 i.spelled (some_scopes s a.0.scopes i.named)
      (expr_stmt_sound (extensions a.0.tree) room a.0.scopes a.0.rest b.0 some i.left b.1))))
    where
      by_exts : (exts : List ℕ) → least_with exts ≤ room → ts ≡ extensions_text exts (bind_ok e).0.rest → 1 ≤ room
      by_exts [] low spelled =
          absurd (no_ext (is_extension (kind_at ts)) is (ap (λ (k : List Lexeme). is_extension (kind_at k)) spelled
          ∙ exts_end (bind_ok e).0 (bind_ok e).1))
        where
          no_ext : (b : Bool) → b ≡ true → b ≡ false → ⊥
          no_ext true p q = cc
          no_ext false p q = cc

          exts_end : (a : Found (List ℕ)) → extensions_at room s ts ≡ done a → is_extension (kind_at a.rest) ≡ false
          exts_end a e = exts_stop tokens room s ts a e
      by_exts (x ∷ exts) low spelled = omega (arith, low)

  attr_item_sound : (room : ℕ) (s : HeldScopes) (ts : List Lexeme) (x : Found BlockItem) → IsTail all ts
      → is_attribute (kind_at ts) ≡ true → attr_item inner room s ts ≡ done x
      → Takes all (block_item_form all) room s ts x
  unfolding attr_item attr_item_by
  attr_item_sound room s ts x tail is e =
      let a = bind_ok e in
      let i = tokens.attrs_sound room s ts a.0 tail a.1 in
      if_ok (is_semicolon (kind_at a.0.rest)) a.2 (λ semi e.
      let b = bind_ok e in
      let o = took all (kinds.Punct puncts.Semicolon) a.0.scopes a.0.rest b.0 i.left
      (semicolon_kind (kind_at a.0.rest) semi) b.1 in
      at_end (Takes all (block_item_form all) room s ts) b.2 (record {
        spelled = i.spelled ∙ ap (attrs_text all a.0.tree) o.spelled;
        fits = (some_attrs a.0 i.spelled a.1, i.fits);
        named = i.named ∙ ap Some (sym o.same);
        low = attr_room a.0.tree room (some_attrs a.0 i.spelled a.1) i.low;
        left = o.left;
      })) (λ semi e.
      if_ok (begins_specs a.0.scopes (kind_at a.0.rest)) e (λ begun e.
      let b = bind_ok e in
      at_end (Takes all (block_item_form all) room s ts) b.2 (as_decl room s ts b.0
      (from_start (declaration_form all) room s s ts (spec_words_text all (words_of_attrs a.0.tree) a.0.rest) b.0
      (i.spelled ∙ sym (attr_words_text all a.0.tree a.0.rest)) refl
      (declaration_from_sound all numbered tokens n inner laws goes
      (words_of_attrs a.0.tree) room s a.0.scopes a.0.rest b.0 (attr_words_fit all a.0.tree i.fits)
      (attr_words_scopes a.0.tree s ∙ i.named) (attr_words_two a.0.tree) i.left b.1)))) (λ begun e. absurd cc))
    where
      some_attrs : (a : Found (List Attr)) → ts ≡ attrs_text all a.tree a.rest → attrs_at room s ts ≡ done a
          → a.tree ≢ []
      some_attrs a spelled e none =
          no_attr (is_attribute (kind_at ts)) is (ap (λ (k : List Lexeme). is_attribute (kind_at k))
          (spelled ∙ ap (λ (them : List Attr). attrs_text all them a.rest) none) ∙ attrs_end room s ts a e)
        where
          no_attr : (b : Bool) → b ≡ true → b ≡ false → ⊥
          no_attr true p q = cc
          no_attr false p q = cc

  other_item_sound : (name : Option ℕ) (room : ℕ) (s : HeldScopes) (ts : List Lexeme) (x : Found BlockItem)
      → IsTail all ts → spelled_name (kind_at ts) ≡ name → other_item inner name room s ts ≡ done x
      → Takes all (block_item_form all) room s ts x
  unfolding other_item
  other_item_sound (Some name) room s ts x tail is e =
      named_item_sound name room s ts x tail (name_kind all (kind_at ts) name is) e
  other_item_sound None room s ts x tail is e =
      if_ok (begins_specs s (kind_at ts)) e (λ begun e.
      let a = bind_ok e in
      at_end (Takes all (block_item_form all) room s ts) a.2 (as_decl room s ts a.0
      (declaration_sound all numbered tokens n inner laws goes [] room s ts a.0 tail a.1))) (λ begun e.
      let a = bind_ok e in
      at_end (Takes all (block_item_form all) room s ts) a.2
      (as_stmt room s ts a.0 (laws.stmts.sound room s ts a.0 tail a.1)))

  block_item_sound : (room : ℕ) → IsSound all (block_item_form all) room (block_item_with inner room)
  unfolding block_item_with
  block_item_sound room s ts x tail e =
      if_ok (is_static_assert (kind_at ts)) e (λ is e.
      let r = fits_ok _ _ _ e in
      let a = bind_ok r.1 in
      let i = tokens.assert_sound room s ts a.0 tail a.1 in
      at_end (Takes all (block_item_form all) room s ts) a.2
      (record { spelled = i.spelled; fits = i.fits; named = i.named; low = r.0; left = i.left })) (λ is e.
      if_ok (is_extension (kind_at ts)) e (λ is e. extended_item_sound room s ts x tail is e) (λ is e.
      if_ok (is_attribute (kind_at ts)) e (λ is e. attr_item_sound room s ts x tail is e)
      (λ is e. other_item_sound (spelled_name (kind_at ts)) room s ts x tail refl e)))

  -- what is read there declares no labels

  item_plain : {x : Found BlockItem} (read : Read Declaration) → reads_item inner read ≡ done x
      → is_labels x.tree ≡ false
  item_plain {x} read e = let a = bind_ok e in at_end (λ (x : Found BlockItem). is_labels x.tree ≡ false) a.2 refl

  stmt_plain : {x : Found BlockItem} (read : Read Stmt) → reads_stmt inner read ≡ done x → is_labels x.tree ≡ false
  stmt_plain {x} read e = let a = bind_ok e in at_end (λ (x : Found BlockItem). is_labels x.tree ≡ false) a.2 refl

  named_plain : (name room : ℕ) (s : HeldScopes) (ts : List Lexeme) (x : Found BlockItem)
      → named_item inner name room s ts ≡ done x → is_labels x.tree ≡ false
  unfolding named_item
  named_plain name room s ts x e =
      if_ok (is_colon (kind_at (behind_first ts))) (fits_ok _ _ _ e).1 (λ is e. stmt_plain _ e) (λ is e.
      if_ok (names_type s name) e (λ is e. let a = bind_ok e in item_plain _ a.2) (λ is e. stmt_plain _ e))

  block_item_plain : (room : ℕ) (s : HeldScopes) (ts : List Lexeme) (x : Found BlockItem)
      → block_item_with inner room s ts ≡ done x → is_labels x.tree ≡ false
  unfolding block_item_with extended_item attr_item attr_item_by other_item
  block_item_plain room s ts x e =
      if_ok (is_static_assert (kind_at ts)) e (λ is e. let r = fits_ok _ _ _ e in let a = bind_ok r.1 in
      at_end plain a.2 refl) (λ is e.
      if_ok (is_extension (kind_at ts)) e (λ is e.
      let a = bind_ok e in
      if_ok (begins_specs a.0.scopes (kind_at a.0.rest)) a.2 (λ is e. item_plain _ e) (λ is e. stmt_plain _ e)) (λ is e.
      if_ok (is_attribute (kind_at ts)) e (λ is e.
      let a = bind_ok e in
      if_ok (is_semicolon (kind_at a.0.rest)) a.2 (λ is e. let b = bind_ok e in at_end plain b.2 refl) (λ is e.
      if_ok (begins_specs a.0.scopes (kind_at a.0.rest)) e (λ is e. item_plain _ e) (λ is e. absurd cc)))
      (λ is e. by_name (spelled_name (kind_at ts)) e)))
    where
      plain : Found BlockItem → Type 0
      plain x = is_labels x.tree ≡ false

      by_name : (o : Option ℕ) → other_item inner o room s ts ≡ done x → is_labels x.tree ≡ false
      by_name (Some name) e = named_plain name room s ts x e
      by_name None e = if_ok (begins_specs s (kind_at ts)) e (λ is e. item_plain _ e) (λ is e. stmt_plain _ e)

  plain_sound : (room : ℕ) → IsSound all (plain_form all) room (block_item_with inner room)
  plain_sound room s ts x tail e =
      let i = block_item_sound room s ts x tail e in
      record {
        spelled = i.spelled;
        fits = (i.fits, block_item_plain room s ts x e);
        named = i.named;
        low = i.low;
        left = i.left;
      }

  -- a block at its brace, in a scope that is open
  pub record TookBody (room : ℕ) (s : HeldScopes) (ts : List Lexeme) (x : Found Block) : Type 0 where
    pub spelled : ts ≡ sign_text puncts.OpenBrace x.tree.opening
        (block_items_text all x.tree.items (sign_text puncts.CloseBrace x.tree.closing x.rest))
    pub fits : AreBlockItems all x.tree.items
    pub first : AreLabelsFirst x.tree.items
    pub named : block_items_scopes x.tree.items s ≡ Some x.scopes
    pub low : block_height x.tree.items ≤ room
    pub left : IsTail all x.rest

  pub block_body_sound : (room : ℕ) (s : HeldScopes) (ts : List Lexeme) (x : Found Block) → 1 ≤ room → IsTail all ts
      → kind_at ts ≡ kinds.Punct puncts.OpenBrace → block_body inner room s ts ≡ done x → TookBody room s ts x
  unfolding block_body
  block_body_sound room s ts x least tail is e =
      let a = bind_ok e in
      let b = bind_ok a.2 in
      let c = bind_ok b.2 in
      let d = bind_ok c.2 in
      let o = took all (kinds.Punct puncts.OpenBrace) s ts a.0 tail is a.1 in
      let l = repeated_sound_at is_label_word (labels_with inner (room - 1)) all (labels_form all) (room - 1)
      (λ s ts x tail begun e. labels_sound all numbered inner
      (room - 1) s ts x tail begun e) a.0.scopes a.0.rest b.0 o.left b.1 in
      let i = repeated_sound (λ kind. not (is_close_brace kind)) (block_item_with inner (room - 1)) all (plain_form all)
      (room - 1) (plain_sound (room - 1)) b.0.scopes b.0.rest c.0 l.left c.1 in
      let q = took_token all is_close_brace
      (kinds.Punct puncts.CloseBrace) close_brace_kind c.0.scopes c.0.rest d.0 i.left d.1 in
      at_end (TookBody room s ts) d.2 (record {
        spelled = o.spelled ∙ ap (sign_text puncts.OpenBrace a.0.tree) (l.spelled
            ∙ ap (row_text (labels_form all) b.0.tree) i.spelled ∙ items_text all b.0.tree c.0.tree c.0.rest
            ∙ ap (block_items_text all (block_items_from (b.0.tree ++ c.0.tree))) q.spelled);
        fits = items_fit all b.0.tree c.0.tree l.fits i.fits;
        first = items_first all b.0.tree c.0.tree l.fits i.fits;
        named = through (block_items_scopes (block_items_from (b.0.tree ++ c.0.tree))) o.same
            (items_named all b.0.tree c.0.tree a.0.scopes b.0.scopes c.0.scopes l.named i.named) q.same;
        low = items_high all b.0.tree c.0.tree room least l.low i.low;
        left = q.left;
      })

  pub block_sound : (room : ℕ) → IsSound all (block_form all) room (block_with inner room)
  unfolding block_with
  block_sound room s ts x tail e =
      if_ok (is_open_brace (kind_at ts)) e (λ is e.
      let r = fits_ok _ _ _ e in
      let a = bind_ok r.1 in
      let i = block_body_sound room (enter s) ts a.0 r.0 tail (open_brace_kind (kind_at ts) is) a.1 in
      at_end (Takes all (block_form all) room s ts) a.2 (record {
        spelled = i.spelled;
        fits = (i.fits, i.first);
        named = own_is (block_items_scopes a.0.tree.items) s a.0.scopes i.named;
        low = i.low;
        left = i.left;
      })) (λ is e. absurd cc)
