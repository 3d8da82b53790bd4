-- The readers of specifiers take tokens.
use Rattle.std.proofs.Common.{◌≡◌, ℕ, ◌<◌, ◌≤◌, Bool, true, false, List, length, Option, Some, None, Ok, Err, refl, sym, ◌∙◌, ap, subst, arith}
use Rattle.std.specs.Prelude.{◌-◌, max, not, if◌then◌else◌}
use Rattle.c_words.specs.declared.kinds.TokenKind.{TokenKind}
use Rattle.c_words.specs.declared.kinds.Keyword.{Keyword}
use Rattle.c_tree.specs.declared.lexeme.Lexeme.{Lexeme}
use Rattle.c_syntax.specs.declared.parts.Identifier.{Identifier}
use Rattle.c_specs.specs.Mix.{goes_on, is_whole_mix, is_typed}
use Rattle.c_specs.specs.Reading.{pushed}
use Rattle.c_tree.specs.Tree.{SpecWords, no_words, SpecWord}
use Rattle.c_tree.specs.Height.{specs_height}
use Rattle.typedef_scope.specs.declared.kind.Kind.TheVariants.{Constant}
use Rattle.c_units.specs.HeldScopes.{HeldScopes, innermost, may_declare, is_name, declare}
use Rattle.c_reading.specs.declared.kinds.Role.{Role}
use Rattle.c_reading.specs.declared.kinds.Role.TheVariants.{Typed}
use Rattle.c_reading.specs.declared.kinds.SpecStart.{SpecStart}
use Rattle.c_reading.specs.declared.kinds.SpecStart.TheVariants as starts
use Rattle.c_reading.specs.Reading.{Found, Read, ends, and_then, kind_at, run}
use Rattle.c_reading.specs.Tokens.{is_semicolon, is_colon, is_equal, is_open_brace, is_close_brace, is_static_assert, is_open_paren, is_close_paren}
use Rattle.c_reading.specs.Parts.{Inner}
use Rattle.c_reading.specs.Specifying.{start_at, is_start, class_of_start, may_stand, least_of, without_body, declared, value_with, width_with, field_with, mem_declr_with, first_member, next_member, mem_declrs_with, member_with, struct_item_with, members_with, body_with, struct_with, enumerator_behind, enumerator_named, enumerator_with, next_enumerator, enumerators_with, enum_body_with, enum_with, ends_before, begins_specs, typed_word_with, typeof_value_with, typeof_with, atomic_with, word_at, word_by, word_with, word_turn, word_turn_by, whole, specs_with}
use Rattle.c_reading.proofs.Binding.{found, done, ok_is, bind_ok, fits_ok, if_ok, take_falls, token_falls}
use Rattle.c_reading.proofs.Loops.{TurnShrinks, run_is, run-keep, after}
use Rattle.c_reading.proofs.Forms.{Falls, Shrinks, name_falls, tag_falls}
use Rattle.c_reading.proofs.Rows.{repeated_falls}
use Rattle.c_reading.proofs.Commas.{listed_shrinks}
use Rattle.c_reading.proofs.Shared.{specs_here_shrinks, named_declr_shrinks}
use Rattle.c_reading.proofs.Aims.{Laws, TokenLaws}

module _ (all : List Lexeme) (tokens : TokenLaws all) (n : ℕ) (inner : Inner) (laws : Laws all n inner) where
  end_is : {A : Type 0} {x y : Found A} → done x ≡ done y → length x.rest ≡ length y.rest
  end_is {A} e = ap (λ (x : Found A). length x.rest) (ok_is e)

  pub value_falls : (test : TokenKind → Bool) (room : ℕ) → Falls (value_with inner test room)
  unfolding value_with
  value_falls test room s ts x e =
      if_ok (test (kind_at ts)) e
      (λ is e. let r = fits_ok 2 room ts e in
      let a = bind_ok r.1 in
      let b = bind_ok a.2 in
      omega (arith, take_falls _ _ _ a.1, laws.exprs.shrinks _ _ _ _ _ _ b.1, end_is b.2))
      (λ is e. omega (arith, end_is e))

  width_shrinks : (room : ℕ) → Shrinks (width_with inner room)
  unfolding width_with
  width_shrinks room s ts x e =
      let r = fits_ok 2 room ts e in
      let a = bind_ok r.1 in
      let b = bind_ok a.2 in
      let c = bind_ok b.2 in
      omega
      (arith, take_falls _ _ _ a.1, laws.exprs.shrinks _ _ _ _ _ _ b.1, tokens.attrs_falls room _ _ _ c.1, end_is c.2)

  field_shrinks : (room : ℕ) → Shrinks (field_with inner room)
  unfolding field_with
  field_shrinks room s ts x e =
      let a = bind_ok e in
      let b = bind_ok a.2 in
      let c = bind_ok b.2 in
      omega (
        arith,
        named_declr_shrinks all n inner laws None (room - 1) _ _ _ a.1,
        value_falls is_colon room _ _ _ b.1,
        tokens.attrs_falls room _ _ _ c.1,
        end_is c.2,
      )

  pub mem_declr_shrinks : (room : ℕ) → Shrinks (mem_declr_with inner room)
  unfolding mem_declr_with
  mem_declr_shrinks room s ts x e =
      if_ok (is_colon (kind_at ts)) e (λ is e. width_shrinks room s ts x e) (λ is e. field_shrinks room s ts x e)

  pub first_member_shrinks : (room : ℕ) → Shrinks (first_member inner room)
  unfolding first_member
  first_member_shrinks room s ts x e =
      let a = bind_ok e in
      omega (arith, mem_declr_shrinks room _ _ _ a.1, end_is a.2)

  pub next_member_shrinks : (room comma : ℕ) → Shrinks (next_member inner room comma)
  unfolding next_member
  next_member_shrinks room comma s ts x e =
      let a = bind_ok e in
      let b = bind_ok a.2 in
      omega (arith, tokens.attrs_falls room _ _ _ a.1, mem_declr_shrinks room _ _ _ b.1, end_is b.2)

  pub next_member_falls : (room comma : ℕ) → Falls (next_member inner room comma)
  next_member_falls room comma s ts x e = omega (arith, next_member_shrinks room comma s ts x e)

  pub mem_declrs_falls : (room : ℕ) → Falls (mem_declrs_with inner room)
  unfolding mem_declrs_with
  mem_declrs_falls room s ts x e =
      if_ok (is_semicolon (kind_at ts)) e
      (λ is e. omega (arith, end_is e))
      (λ is e. let a = bind_ok e in
      omega (
        arith,
        listed_shrinks (first_member inner room) (next_member inner room) (next_member_falls room)
            (first_member_shrinks room) _ _ _ a.1,
        end_is a.2,
      ))

  member_shrinks : (room : ℕ) → Shrinks (member_with inner room)
  unfolding member_with
  member_shrinks room s ts x e =
      let a = bind_ok e in
      let b = bind_ok a.2 in
      let c = bind_ok b.2 in
      let d = bind_ok c.2 in
      omega (
        arith,
        tokens.exts_falls room _ _ _ a.1,
        specs_here_shrinks all n inner laws Typed room _ _ _ b.1,
        mem_declrs_falls (room - 1) _ _ _ c.1,
        token_falls is_semicolon _ _ _ d.1,
        end_is d.2,
      )

  pub struct_item_shrinks : (room : ℕ) → Shrinks (struct_item_with inner room)
  unfolding struct_item_with
  struct_item_shrinks room s ts x e =
      if_ok (is_semicolon (kind_at ts)) e
      (λ is e. let r = fits_ok 1 room ts e in
      let a = bind_ok r.1 in
      omega (arith, take_falls _ _ _ a.1, end_is a.2))
      (λ is e. if_ok (is_static_assert (kind_at ts)) e
      (λ is e. let r = fits_ok 1 room ts e in
      let a = bind_ok r.1 in
      omega (arith, tokens.assert_shrinks _ _ _ a.1, end_is a.2))
      (λ is e. member_shrinks room s ts x e))

  members_shrinks : (room : ℕ) → Shrinks (members_with inner room)
  unfolding members_with
  members_shrinks room s ts x e =
      let a = bind_ok e in
      let b = bind_ok a.2 in
      let c = bind_ok b.2 in
      omega (
        arith,
        take_falls _ _ _ a.1,
        repeated_falls (λ kind. not (is_close_brace kind)) (struct_item_with inner (room - 1))
            (struct_item_shrinks (room - 1)) _ _ _ b.1,
        token_falls is_close_brace _ _ _ c.1,
        end_is c.2,
      )

  without_falls : {A : Type 0} (tag : Option Identifier) (a : A) → Falls (without_body tag a)
  without_falls None a s ts x e = absurd cc
  without_falls (Some tag) a s ts x e = omega (arith, end_is e)

  pub body_falls : (tag : Option Identifier) (room : ℕ) → Falls (body_with inner tag room)
  unfolding body_with
  body_falls tag room s ts x e =
      if_ok (is_open_brace (kind_at ts)) e (λ is e. omega (arith, members_shrinks room s ts x e))
      (λ is e. without_falls tag _ s ts x e)

  struct_shrinks : (keyword : Keyword) (room : ℕ) → Shrinks (struct_with inner keyword room)
  unfolding struct_with
  struct_shrinks keyword room s ts x e =
      let a = bind_ok e in
      let b = bind_ok a.2 in
      let c = bind_ok b.2 in
      let d = bind_ok c.2 in
      omega (
        arith,
        take_falls _ _ _ a.1,
        tokens.attrs_falls room _ _ _ b.1,
        tag_falls _ _ _ c.1,
        body_falls c.0.tree room _ _ _ d.1,
        end_is d.2,
      )

  declared_falls : {A : Type 0} (a : A) (o : Option HeldScopes) (ts : List Lexeme) (x : Found A)
      → declared a o ts ≡ done x → length x.rest ≡ length ts
  declared_falls a None ts x e = absurd cc
  declared_falls a (Some s) ts x e = sym (end_is e)

  enumerator_behind_falls : (name : Identifier) (room : ℕ) → Falls (enumerator_behind inner name room)
  unfolding enumerator_behind
  enumerator_behind_falls name room s ts x e =
      let a = bind_ok e in
      let b = bind_ok a.2 in
      omega (
        arith,
        tokens.attrs_falls room _ _ _ a.1,
        value_falls is_equal room _ _ _ b.1,
        declared_falls _ (declare name.name Constant b.0.scopes) b.0.rest x b.2,
      )

  enumerator_named_falls : (name : Identifier) (room : ℕ) (at : List Lexeme)
      → Falls (enumerator_named inner name room at)
  unfolding enumerator_named
  enumerator_named_falls name room at s ts x e =
      if_ok (may_declare (innermost s) name.name Constant) e
      (λ is e. if_ok (is_name (innermost s).held name.name) e (λ is e. absurd cc)
      (λ is e. enumerator_behind_falls name room s ts x (fits_ok 1 room at e).1))
      (λ is e. absurd cc)

  pub enumerator_shrinks : (room : ℕ) → Shrinks (enumerator_with inner room)
  unfolding enumerator_with
  enumerator_shrinks room s ts x e =
      let a = bind_ok e in
      omega (arith, name_falls _ _ _ a.1, enumerator_named_falls a.0.tree room ts _ _ _ a.2)

  pub next_enumerator_falls : (room comma : ℕ) → Falls (next_enumerator inner room comma)
  unfolding next_enumerator
  next_enumerator_falls room comma s ts x e =
      if_ok (is_close_brace (kind_at ts)) e
      (λ is e. omega (arith, end_is e))
      (λ is e. let a = bind_ok e in omega (arith, enumerator_shrinks room _ _ _ a.1, end_is a.2))

  enumerators_shrinks : (room : ℕ) → Shrinks (enumerators_with inner room)
  unfolding enumerators_with
  enumerators_shrinks room s ts x e =
      let r = fits_ok 2 room ts e in
      let a = bind_ok r.1 in
      let b = bind_ok a.2 in
      let c = bind_ok b.2 in
      omega (
        arith,
        take_falls _ _ _ a.1,
        listed_shrinks (enumerator_with inner (room - 1)) (next_enumerator inner (room - 1))
            (next_enumerator_falls (room - 1)) (enumerator_shrinks (room - 1)) _ _ _ b.1,
        token_falls is_close_brace _ _ _ c.1,
        end_is c.2,
      )

  pub enum_body_falls : (tag : Option Identifier) (room : ℕ) → Falls (enum_body_with inner tag room)
  unfolding enum_body_with
  enum_body_falls tag room s ts x e =
      if_ok (is_open_brace (kind_at ts)) e (λ is e. omega (arith, enumerators_shrinks room s ts x e))
      (λ is e. without_falls tag _ s ts x e)

  enum_shrinks : (room : ℕ) → Shrinks (enum_with inner room)
  unfolding enum_with
  enum_shrinks room s ts x e =
      let a = bind_ok e in
      let b = bind_ok a.2 in
      let c = bind_ok b.2 in
      let d = bind_ok c.2 in
      omega (
        arith,
        take_falls _ _ _ a.1,
        tokens.attrs_falls room _ _ _ b.1,
        tag_falls _ _ _ c.1,
        enum_body_falls c.0.tree room _ _ _ d.1,
        end_is d.2,
      )

  typed_word_shrinks : (keyword : Keyword) (token opening room : ℕ)
      → Shrinks (typed_word_with inner keyword token opening room)
  unfolding typed_word_with
  typed_word_shrinks keyword token opening room s ts x e =
      let a = bind_ok e in
      let b = bind_ok a.2 in
      omega (arith, laws.types.shrinks _ _ _ _ a.1, token_falls is_close_paren _ _ _ b.1, end_is b.2)

  typeof_value_shrinks : (token opening room : ℕ) → Shrinks (typeof_value_with inner token opening room)
  unfolding typeof_value_with
  typeof_value_shrinks token opening room s ts x e =
      let a = bind_ok e in
      let b = bind_ok a.2 in
      omega (arith, laws.exprs.shrinks _ _ _ _ _ _ a.1, token_falls is_close_paren _ _ _ b.1, end_is b.2)

  typeof_shrinks : (room : ℕ) → Shrinks (typeof_with inner room)
  unfolding typeof_with
  typeof_shrinks room s ts x e =
      let a = bind_ok e in
      let b = bind_ok a.2 in
      let less : length x.rest < length b.0.rest = if_ok (begins_specs b.0.scopes (kind_at b.0.rest)) b.2
      (λ is e. typed_word_shrinks _ _ _ room _ _ _ e) (λ is e. typeof_value_shrinks _ _ room _ _ _ e) in
      omega (arith, take_falls _ _ _ a.1, token_falls is_open_paren _ _ _ b.1, less)

  atomic_shrinks : (room : ℕ) → Shrinks (atomic_with inner room)
  unfolding atomic_with
  atomic_shrinks room s ts x e =
      let a = bind_ok e in
      let b = bind_ok a.2 in
      omega (arith, take_falls _ _ _ a.1, token_falls is_open_paren _ _ _ b.1, typed_word_shrinks _ _ _ room _ _ _ b.2)

  -- a word of one token
  one_shrinks : (make : ℕ → SpecWord) → Shrinks (word_at inner make)
  one_shrinks make s ts x e = let a = bind_ok e in omega (arith, take_falls _ _ _ a.1, end_is a.2)

  word_by_shrinks : (start : SpecStart) (room : ℕ) → Shrinks (word_by inner start room)
  unfolding word_by
  word_by_shrinks (starts.Storage keyword) room s ts x e = one_shrinks _ s ts x e
  word_by_shrinks starts.Thread room s ts x e = one_shrinks _ s ts x e
  word_by_shrinks starts.Inline room s ts x e = one_shrinks _ s ts x e
  word_by_shrinks starts.Noreturn room s ts x e = one_shrinks _ s ts x e
  word_by_shrinks (starts.Word keyword) room s ts x e = one_shrinks _ s ts x e
  word_by_shrinks starts.Element room s ts x e = one_shrinks _ s ts x e
  word_by_shrinks starts.Index room s ts x e = one_shrinks _ s ts x e
  word_by_shrinks (starts.Basic keyword) room s ts x e = one_shrinks _ s ts x e
  word_by_shrinks (starts.Struct keyword) room s ts x e = struct_shrinks keyword (room - 1) s ts x e
  word_by_shrinks starts.Enum room s ts x e = enum_shrinks (room - 1) s ts x e
  word_by_shrinks starts.Attribute room s ts x e =
      let a = bind_ok e in
      omega (arith, tokens.attr_shrinks _ _ _ a.1, end_is a.2)
  word_by_shrinks (starts.Name name) room s ts x e = one_shrinks _ s ts x e
  word_by_shrinks starts.Typeof room s ts x e = typeof_shrinks (room - 1) s ts x e
  word_by_shrinks starts.Atomic room s ts x e = atomic_shrinks (room - 1) s ts x e
  word_by_shrinks starts.Align room s ts x e =
      let a = bind_ok e in
      omega (arith, tokens.align_shrinks _ _ _ a.1, end_is a.2)
  word_by_shrinks starts.Auto room s ts x e = one_shrinks _ s ts x e
  word_by_shrinks starts.Nothing room s ts x e = absurd cc

  -- what a word that was read may be
  pub word_parts : (role : Role) (words : SpecWords) (start : SpecStart) (room : ℕ) (s : HeldScopes) (ts : List Lexeme)
      (x : Found SpecWord)
      → word_with inner role words start room s ts ≡ done x →
      (may_stand role start ≡ true) × (goes_on words (class_of_start start) ≡ true)
      × (max (least_of start) (specs_height words) ≤ room) × (word_by inner start room s ts ≡ done x)
  unfolding word_with
  word_parts role words start room s ts x e =
      if_ok (may_stand role start) e
      (λ may e. if_ok (goes_on words (class_of_start start)) e
      (λ on e. let r = fits_ok _ room ts e in (may, on, r.0, r.1))
      (λ on e. absurd cc))
      (λ may e. absurd cc)

  -- what a turn read
  pub turn_parts : (role : Role) (room : ℕ) (words : SpecWords) (s : HeldScopes) (ts : List Lexeme)
      (x : Found SpecWords)
      → word_turn inner role room words s ts ≡ Some (done x) →
      (is_start (start_at s (is_typed words) (kind_at ts)) ≡ true) × (y : Found SpecWord)
      × (word_with inner role words (start_at s (is_typed words) (kind_at ts)) room s ts ≡ done y)
      × (found (pushed words y.tree) y.scopes y.rest ≡ x)
  turn_parts role room words s ts x e = by_start (start_at s (is_typed words) (kind_at ts)) e
    where
      by_test : (start : SpecStart) (b : Bool) → is_start start ≡ b
          → (if b then Some (and_then (word_with inner role words start room s ts)
          (λ word. ends (pushed words word.tree) word.scopes word.rest)) else None) ≡ Some (done x) →
          (is_start start ≡ true) × (y : Found SpecWord) × (word_with inner role words start room s ts ≡ done y)
          × (found (pushed words y.tree) y.scopes y.rest ≡ x)
      by_test start false is e = absurd cc
      by_test start true is e =
          let e' : and_then (word_with inner role words start room s ts)
          (λ word. ends (pushed words word.tree) word.scopes word.rest) ≡ done x = cc in
          let b = bind_ok e' in
          (is, b.0, b.1, ok_is b.2)

      by_end : (start : SpecStart) (b : Bool) →
          (if b then None else (if is_start start then Some (and_then (word_with inner role words start room s ts)
          (λ word. ends (pushed words word.tree) word.scopes word.rest)) else None)) ≡ Some (done x) →
          (is_start start ≡ true) × (y : Found SpecWord) × (word_with inner role words start room s ts ≡ done y)
          × (found (pushed words y.tree) y.scopes y.rest ≡ x)
      by_end start true e = absurd cc
      by_end start false e = by_test start (is_start start) refl e

      by_start : (start : SpecStart) → word_turn_by inner role room start words s ts ≡ Some (done x) →
          (is_start start ≡ true) × (y : Found SpecWord) × (word_with inner role words start room s ts ≡ done y)
          × (found (pushed words y.tree) y.scopes y.rest ≡ x)
      by_start start e = by_end start (ends_before s words start) e

  pub word_turn_shrinks : (role : Role) (room : ℕ) → TurnShrinks (word_turn inner role room)
  word_turn_shrinks role room words s ts x e =
      let p = turn_parts role room words s ts x e in
      let w = word_parts role words (start_at s (is_typed words) (kind_at ts)) room s ts p.1 p.2 in
      let less : length p.1.rest < length ts =
      word_by_shrinks (start_at s (is_typed words) (kind_at ts)) room s ts p.1 w.3 in
      subst (λ (x : Found SpecWords). length x.rest < length ts) p.3 less

  words_fall : (role : Role) (room : ℕ) (words : SpecWords) → Falls (λ s ts. run (word_turn inner role room) words s ts)
  words_fall role room words s ts x e =
      run-keep (word_turn inner role room) (λ words s k. length k ≤ length ts)
      (λ words s k x h e. let less : length x.rest < length k = word_turn_shrinks role room words s k x e in
      omega arith) words s ts x (omega arith) e

  -- the words are whole
  pub whole_ok : (words : SpecWords) (s : HeldScopes) (ts : List Lexeme) (x : Found SpecWords)
      → whole inner words s ts ≡ done x → (is_whole_mix words ≡ true) × (found words s ts ≡ x)
  whole_ok words s ts x e = if_ok (is_whole_mix words) e (λ is e. (is, ok_is e)) (λ is e. absurd cc)

  pub specs_falls : (role : Role) (words : SpecWords) (room : ℕ) → Falls (specs_with inner role words room)
  unfolding specs_with
  specs_falls role words room s ts x e =
      let a = bind_ok e in
      let w = whole_ok a.0.tree a.0.scopes a.0.rest x a.2 in
      let less : length a.0.rest ≤ length ts = words_fall role room words s ts a.0 a.1 in
      subst (λ (x : Found SpecWords). length x.rest ≤ length ts) w.1 less

  -- some words are read, since none are a mix
  pub specs_shrinks : (role : Role) (room : ℕ) → Shrinks (specs_with inner role no_words room)
  unfolding specs_with
  specs_shrinks role room s ts x e =
      let a = bind_ok e in
      let w = whole_ok a.0.tree a.0.scopes a.0.rest x a.2 in
      subst (λ (x : Found SpecWords). length x.rest < length ts) w.1
      (by_turn (word_turn inner role room no_words s ts) refl
      (sym (run_is (word_turn inner role room) (word_turn_shrinks role room) no_words s ts) ∙ a.1) w.0)
    where
      by_turn : {y : Found SpecWords} → (r : Option (Read SpecWords)) → word_turn inner role room no_words s ts ≡ r
          → after r no_words s ts (run (word_turn inner role room)) ≡ done y →
          is_whole_mix y.tree ≡ true → length y.rest < length ts
      by_turn {y} None is e w =
          let none : is_whole_mix no_words ≡ true =
          subst (λ (y : Found SpecWords). is_whole_mix y.tree ≡ true) (sym (ok_is e)) w in
          absurd cc
      by_turn {y} (Some (Err f)) is e w = let b = bind_ok e in let wrong : Err f ≡ done b.0 = b.1 in absurd cc
      by_turn {y} (Some (Ok z)) is e w =
          let b = bind_ok e in
          let same : z ≡ b.0 = ok_is b.1 in
          let less : length z.rest < length ts = word_turn_shrinks role room no_words s ts z is in
          let rest : length y.rest ≤ length b.0.rest = words_fall role room b.0.tree b.0.scopes b.0.rest y b.2 in
          omega (arith, less, rest, ap (λ (x : Found SpecWords). length x.rest) same)
