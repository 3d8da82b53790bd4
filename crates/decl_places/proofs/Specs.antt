-- Specifiers: a loop over words whose end depends on the mix that they are so far. Words that are no whole type are
-- completed by `int` or `double`.
use Rattle.std.proofs.Common.{◌≡◌, ℕ, zero, suc, ◌+◌, ◌<◌, ◌≤◌, Bool, true, false, if◌then◌else◌, List, [], ◌∷◌, ◌++◌, length, ◌⊎◌, inl, inr, Option, Some, None, Result, Ok, Err, refl, sym, ◌∙◌, ap, subst, arith, append_assoc}
use Rattle.std.specs.Prelude.{◌-◌, max, not, ◌&&◌, ◌||◌, is_some}
use Rattle.qual_base.proofs.Tests.{and_false}
use Rattle.c_words.specs.declared.kinds.TokenKind.{TokenKind}
use Rattle.c_words.specs.declared.kinds.TokenKind.TheVariants as kinds
use Rattle.c_words.specs.declared.kinds.Punct.TheVariants as puncts
use Rattle.c_words.specs.declared.kinds.Keyword.{Keyword}
use Rattle.c_words.specs.declared.kinds.Keyword.TheVariants as keywords
use Rattle.c_tree.specs.declared.lexeme.Lexeme.{Lexeme}
use Rattle.c_tree.specs.Tree.{Expr, SpecWords, no_words, SpecWord, basic, attribute, align, auto_word, typeof_value, typeof_type}
use Rattle.c_tree.specs.Height.{specs_height, spec_word_height}
use Rattle.c_tree.specs.WellFormed.{is_auto, has_auto}
use Rattle.c_specs.specs.declared.mix.Class.TheVariants as classes
use Rattle.c_specs.specs.Mix.{class_of, mix_of, goes_on, whole_in, is_whole_mix, is_typed}
use Rattle.c_specs.specs.Reading.{pushed}
use Rattle.c_units.specs.HeldScopes.{HeldScopes, is_wide, names_type}
use Rattle.c_units.specs.Scoping.{has_typedef_word}
use Rattle.c_tree.specs.Specifiers.{storage_words}
use Rattle.c_reading.specs.declared.kinds.FaultKind.TheVariants.{Unexpected, BadMix}
use Rattle.c_reading.specs.declared.kinds.Role.{Role}
use Rattle.c_reading.specs.declared.kinds.Role.TheVariants.{Declaring, Typed, Naming}
use Rattle.c_reading.specs.declared.kinds.SpecStart.{SpecStart}
use Rattle.c_reading.specs.declared.kinds.SpecStart.TheVariants as starts
use Rattle.c_reading.specs.Reading.{Refusal, Found, Read, Reader, ends, refuses, fits, kind_at, take_one, token_at, run, and_then}
use Rattle.c_reading.specs.declared.kinds.Reach.TheVariants.{Whole}
use Rattle.c_reading.specs.Tokens.{is_end, is_open_paren, is_close_paren, is_open_brace, is_base_word, word_of, attr_at, align_at}
use Rattle.c_reading.specs.Parts.{Inner, nothing, TypeName}
use Rattle.c_reading.specs.Specifying.{is_start, start_at, kind_start, typed_start, class_of_start, may_stand, least_of, begins_specs, struct_with, enum_with, typed_word_with, typeof_value_with, typeof_with, atomic_with, word_at, word_by, word_with, is_base_start, ends_before, word_turn_by, word_turn, whole, specs_with}
use Rattle.c_reading.proofs.Binding.{found, done, ok_is, bind_ok, bind_is, fits_is, if_ok}
use Rattle.c_reading.proofs.Loops.{after, run_is, run-keep}
use Rattle.c_reading.proofs.KnotLaws.{none_tokens}
use Rattle.c_reading.proofs.SpecsFalls.{word_parts, turn_parts, word_turn_shrinks, whole_ok, specs_falls}
use Rattle.c_reading.proofs.Aims.{Laws}
use Rattle.reading_steps.specs.Steps.{first_kind, any, Outcome, Good, Ready, Law}
use Rattle.reading_steps.specs.Stops.{is_int, is_number, stops_type, stops_expr, stops_specs}
use Rattle.reading_steps.specs.InnerLaws.{InnerLaws, SpecsPlaces, AutoFits, takes_base}
use Rattle.reading_steps.proofs.Keeping.{kept_refl}
use Rattle.reading_steps.proofs.Steps.{behind, kind_same, refused_here, ends_good, good_as, if_good, ready_as, fits_good, bind_good, take_behind, ends_law, good_before, ready_before, law_before}
use Rattle.reading_steps.proofs.Chains.{ends_falls, behind_shrinks, token_shrinks, token_then, closed_law}
use Rattle.c_reading.proofs.Forms.{Falls, Shrinks}
use Rattle.c_reading.proofs.DeclrSoundParams.{specs_high}
use Rattle.token_places.proofs.Single.{open_paren_end, close_paren_end, mapped_good}
use Rattle.token_places.proofs.Groups.{attr_law, align_good}
use Rattle.decl_places.proofs.Helping.{append_same, none_before, fewer_tokens, left_is, behind_good}
use Rattle.decl_places.proofs.Members.{expr_law}
use Rattle.decl_places.proofs.Mixes.{auto_base, pushed_auto, auto_named, mix_of_pushed, named_whole, whole_typed, MadeWhole, made_whole, pushed_low}
use Rattle.decl_places.proofs.Bodies.{no_brace, struct_good, enum_good}

and_then_twice : {A B C : Type 0} (r : Result A Refusal) (f : A → Result B Refusal) (g : B → Result C Refusal)
    → and_then (and_then r f) g ≡ and_then r (λ x. and_then (f x) g)
unfolding and_then
and_then_twice (Ok x) f g = refl
and_then_twice (Err e) f g = refl

-- the end of a unit begins no word
start_end : (s : HeldScopes) (typed : Bool) (kind : TokenKind) → is_start (start_at s typed kind) ≡ true
    → is_end kind ≡ false
start_end s typed kinds.End h = absurd cc
start_end s typed kind h = refl

-- a token that begins no word behind a type in no scope begins none in any
typed_start_same : (s : HeldScopes) (start : SpecStart) → is_start (typed_start [] true start) ≡ false
    → is_start (typed_start s true start) ≡ false
typed_start_same s (starts.Name name) h = by_type (names_type s name)
  where
    by_type : (b : Bool) → is_start (if b && not true then starts.Name name else starts.Nothing) ≡ false
    by_type true = refl
    by_type false = refl
typed_start_same s start h = h

-- what stops specifiers begins no word behind a type, in any scopes
stops_start : (s : HeldScopes) (kind : TokenKind) → stops_specs kind ≡ true → is_start (start_at s true kind) ≡ false
stops_start s kind h = typed_start_same s (kind_start kind) (by_test (is_start (start_at [] true kind)) h)
  where
    by_test : (b : Bool) → (not b && not (is_open_brace kind)) ≡ true → b ≡ false
    by_test true h = absurd cc
    by_test false h = refl

-- what stops specifiers is no `{`
stops_brace : (kind : TokenKind) → stops_specs kind ≡ true → no_brace kind ≡ true
stops_brace kind h = by_test (not (is_start (start_at [] true kind))) h
  where
    by_test : (b : Bool) → (b && not (is_open_brace kind)) ≡ true → not (is_open_brace kind) ≡ true
    by_test true h = h
    by_test false h = absurd cc

-- a keyword of a basic type may stand among the specifiers of each role
spells_may : (role : Role) (keyword : Keyword) → may_stand role (starts.Basic keyword) ≡ true
spells_may Declaring keyword = refl
spells_may Typed keyword = refl
spells_may Naming keyword = refl

module _ (n : ℕ) (inner : Inner) (places : InnerLaws n inner) (laws : Laws [] n inner) where
  -- a word of one token
  one_word : (make : ℕ → SpecWord) (s : HeldScopes) (ts : List Lexeme) → is_end (kind_at ts) ≡ false
      → Good true (word_at inner make) no_brace s ts
  one_word make s ts known =
      take_behind true (λ token. ends (make token)) no_brace
      (λ token. ends_law true (make token) any no_brace (λ kind h. refl)) s ts known

  -- `typeof` and `_Atomic` before a parenthesis: the name of a type, or a value.

  paren_type : (kind : TokenKind) → is_close_paren kind ≡ true → stops_type kind ≡ true
  paren_type (kinds.Punct puncts.CloseParen) h = refl
  paren_type kind h = absurd cc

  paren_whole : (kind : TokenKind) → is_close_paren kind ≡ true → stops_expr Whole kind ≡ true
  paren_whole (kinds.Punct puncts.CloseParen) h = refl
  paren_whole kind h = absurd cc

  number_specs : (s : HeldScopes) (kind : TokenKind) → is_number kind ≡ true → begins_specs s kind ≡ false
  number_specs s kinds.Number h = refl
  number_specs s kind h = absurd cc

  abbrev type_made : Keyword → ℕ → ℕ → TypeName → ℕ → SpecWord
  type_made keyword token opening t closing = typeof_type (word_of keyword token) opening t.words t.declr closing

  closed_part : {A : Type 0} (make : A → ℕ → SpecWord) (x : A)
      → Law true (behind (token_at is_close_paren) (λ closing. ends (make x closing))) is_close_paren any
  closed_part make x =
      token_then true is_close_paren (kinds.Punct puncts.CloseParen) is_close_paren any
      (λ closing. ends (make x closing)) refl refl close_paren_end
      (λ closing. ends_law true (make x closing) any any (λ kind h. h))

  closed_shrinks : {A : Type 0} (make : A → ℕ → SpecWord) (x : A)
      → Shrinks (behind (token_at is_close_paren) (λ closing. ends (make x closing)))
  closed_shrinks make x =
      behind_shrinks (token_at is_close_paren) (λ closing. ends (make x closing)) (token_shrinks is_close_paren)
      (λ closing. ends_falls (make x closing))

  typed_word_good : (keyword : Keyword) (token opening room : ℕ) → room < suc n → 2 ≤ room
      → (s : HeldScopes) (ts : List Lexeme) → Good true (typed_word_with inner keyword token opening room) any s ts
  unfolding typed_word_with
  typed_word_good keyword token opening room less two s ts =
      behind_good true (inner.type_name (room - 1)) (λ t. behind (token_at is_close_paren)
      (λ closing. ends (type_made keyword token opening t closing))) is_close_paren any s ts
      (good_before true (inner.type_name (room - 1)) stops_type is_close_paren s ts paren_type
      (places.types.good (room - 1) (omega (arith, less, two)) (omega (arith, two)) s ts))
      (closed_part (type_made keyword token opening))
      (inl (λ t s ts y e. closed_shrinks (type_made keyword token opening) t s ts y e))

  typed_word_shrinks : (keyword : Keyword) (token opening room : ℕ)
      → Shrinks (typed_word_with inner keyword token opening room)
  unfolding typed_word_with
  typed_word_shrinks keyword token opening room =
      behind_shrinks (inner.type_name (room - 1)) (λ t. behind (token_at is_close_paren)
      (λ closing. ends (type_made keyword token opening t closing))) (laws.types.shrinks (room - 1))
      (λ t s ts x e. let less : length x.rest < length ts =
      closed_shrinks (type_made keyword token opening) t s ts x e in omega (arith, less))

  value_word_law : (token opening room : ℕ) → room < suc n → 2 ≤ room
      → Law true (typeof_value_with inner token opening room) is_number any
  unfolding typeof_value_with
  value_word_law token opening room less two =
      closed_law true (inner.expr Whole nothing (room - 1)) is_close_paren (kinds.Punct puncts.CloseParen) is_number any
      (λ e closing. ends (typeof_value token opening e closing))
      (expr_law n inner places laws Whole (room - 1) (omega (arith, less, two))
      (omega (arith, two)) is_number is_close_paren (λ kind h. h) paren_whole) refl close_paren_end
      (λ e closing. ends_law true (typeof_value token opening e closing) any any (λ kind h. h))
      (λ e closing. ends_falls (typeof_value token opening e closing))

  value_word_shrinks : (token opening room : ℕ) → Shrinks (typeof_value_with inner token opening room)
  unfolding typeof_value_with
  value_word_shrinks token opening room =
      behind_shrinks (inner.expr Whole nothing (room - 1)) (λ e. behind (token_at is_close_paren)
      (λ closing. ends (typeof_value token opening e closing))) (laws.exprs.shrinks Whole nothing (room - 1))
      (λ e s ts x eq. let less : length x.rest < length ts = closed_shrinks (typeof_value token opening) e s ts x eq in
      omega (arith, less))

  abbrev type_or_value : ℕ → ℕ → ℕ → Reader SpecWord
  type_or_value keyword room opening s ts =
      if begins_specs s (kind_at ts) then typed_word_with inner keywords.Typeof keyword opening room s ts
      else typeof_value_with inner keyword opening room s ts

  -- completed by a number
  type_or_value_law : (keyword room opening : ℕ) → room < suc n → 2 ≤ room
      → Law true (type_or_value keyword room opening) any any
  type_or_value_law keyword room opening less two = record {
    good = λ s ts.
        if_good true begins_specs (typed_word_with inner keywords.Typeof keyword opening room)
        (typeof_value_with inner keyword opening room) any s ts
        (λ is. typed_word_good keywords.Typeof keyword opening room less two s ts)
        (λ is. (value_word_law keyword opening room less two).good s ts)
        (λ is. inl (λ x e. typed_word_shrinks keywords.Typeof keyword opening room s ts x e))
        (λ is. inl (λ x e. value_word_shrinks keyword opening room s ts x e));
    ready = λ s at.
        ready_before true (type_or_value keyword room opening) is_number any any any s at (λ kind h. h) (λ kind h. refl)
        (ready_as true (typeof_value_with inner keyword opening room)
        (type_or_value keyword room opening) is_number any s at (λ k h. rw (number_specs s (kind_at k) h) refl)
        ((value_word_law keyword opening room less two).ready s at));
  }

  typeof_good : (room : ℕ) → room < suc n → 2 ≤ room → (s : HeldScopes) (ts : List Lexeme) → is_end (kind_at ts) ≡ false
      → Good true (typeof_with inner room) any s ts
  unfolding typeof_with
  typeof_good room less two s ts known =
      take_behind true (λ keyword. behind (token_at is_open_paren) (type_or_value keyword room)) any
      (λ keyword. token_then true is_open_paren (kinds.Punct puncts.OpenParen) any any (type_or_value keyword room) refl
      refl open_paren_end (λ opening. type_or_value_law keyword room opening less two)) s ts known

  atomic_good : (room : ℕ) → room < suc n → 3 ≤ room → (s : HeldScopes) (ts : List Lexeme) → is_end (kind_at ts) ≡ false
      → Good true (atomic_with inner room) any s ts
  unfolding atomic_with typed_word_with
  atomic_good room less three s ts known =
      take_behind true (λ keyword. behind (token_at is_open_paren)
      (λ opening. typed_word_with inner keywords.AtomicType keyword opening room)) any
      (λ keyword. token_then true is_open_paren (kinds.Punct puncts.OpenParen) any any
      (λ opening. typed_word_with inner keywords.AtomicType keyword opening room) refl refl open_paren_end
      (λ opening. closed_law true (inner.type_name (room - 1)) is_close_paren (kinds.Punct puncts.CloseParen) any any
      (λ t closing. ends (type_made keywords.AtomicType keyword opening t closing))
      (law_before true (inner.type_name (room - 1)) is_int any stops_type is_close_paren paren_type (λ kind h. refl)
      (record {
        good = places.types.good (room - 1) (omega (arith, less, three)) (omega (arith, three));
        ready = places.types.ready (room - 1) (omega (arith, less, three)) (omega (arith, three));
      })) refl close_paren_end
      (λ t closing. ends_law true (type_made keywords.AtomicType keyword opening t closing) any any (λ kind h. h))
      (λ t closing. ends_falls (type_made keywords.AtomicType keyword opening t closing)))) s ts known

  word_by_good : (start : SpecStart) (room : ℕ) → room < suc n → least_of start ≤ room
      → (s : HeldScopes) (ts : List Lexeme) → is_end (kind_at ts) ≡ false
      → Good true (word_by inner start room) no_brace s ts
  unfolding word_by
  word_by_good (starts.Storage keyword) room less fit s ts known = one_word _ s ts known
  word_by_good starts.Thread room less fit s ts known = one_word _ s ts known
  word_by_good starts.Inline room less fit s ts known = one_word _ s ts known
  word_by_good starts.Noreturn room less fit s ts known = one_word _ s ts known
  word_by_good (starts.Word keyword) room less fit s ts known = one_word _ s ts known
  word_by_good starts.Element room less fit s ts known = one_word _ s ts known
  word_by_good starts.Index room less fit s ts known = one_word _ s ts known
  word_by_good (starts.Basic keyword) room less fit s ts known = one_word _ s ts known
  word_by_good (starts.Struct keyword) room less fit s ts known =
      struct_good n inner places laws keyword (room - 1) (omega (arith, less)) (omega (arith, fit)) s ts known
  word_by_good starts.Enum room less fit s ts known =
      enum_good n inner places laws (room - 1) (omega (arith, less)) s ts known
  word_by_good starts.Attribute room less fit s ts known =
      mapped_good true attr_at attribute no_brace s ts
      (good_before true attr_at any no_brace s ts (λ kind h. refl) ((attr_law true).good s ts))
  word_by_good (starts.Name name) room less fit s ts known = one_word _ s ts known
  word_by_good starts.Typeof room less fit s ts known =
      good_before true (typeof_with inner (room - 1)) any no_brace s ts (λ kind h. refl)
      (typeof_good (room - 1) (omega (arith, less)) (omega (arith, fit)) s ts known)
  word_by_good starts.Atomic room less fit s ts known =
      good_before true (atomic_with inner (room - 1)) any no_brace s ts (λ kind h. refl)
      (atomic_good (room - 1) (omega (arith, less)) (omega (arith, fit)) s ts known)
  word_by_good starts.Align room less fit s ts known =
      mapped_good true align_at align no_brace s ts
      (good_before true align_at any no_brace s ts (λ kind h. refl) (align_good true s ts known))
  word_by_good starts.Auto room less fit s ts known = one_word _ s ts known
  word_by_good starts.Nothing room less fit s ts known =
      refused_here true (λ s ts. refuses Unexpected ts) no_brace s ts Unexpected (λ k e. refl)

  -- a word behind others: first whether it may stand, then the mix, then the room
  word_with_good : (role : Role) (words : SpecWords) (start : SpecStart) (room : ℕ) → room < suc n
      → (s : HeldScopes) (ts : List Lexeme) → is_end (kind_at ts) ≡ false
      → Good true (word_with inner role words start room) no_brace s ts
  unfolding word_with
  word_with_good role words start room less s ts known = by_role (may_stand role start) refl
    where
      by_mix : may_stand role start ≡ true → (b : Bool) → goes_on words (class_of_start start) ≡ b
          → Good true (word_with inner role words start room) no_brace s ts
      by_mix may false on =
          refused_here true (word_with inner role words start room) no_brace s ts BadMix (λ k e. rw (may, on) refl)
      by_mix may true on =
          good_as true (λ s ts. fits (max (least_of start) (specs_height words)) room ts
          (word_by inner start room s ts)) (word_with inner role words start room) no_brace s ts
          (λ k e. rw (may, on) refl) (inr (λ k e. rw (may, on) refl))
          (fits_good true (max (least_of start) (specs_height words)) room (word_by inner start room) no_brace s ts
          (λ fit. word_by_good start room less (omega (arith, fit)) s ts known))

      by_role : (b : Bool) → may_stand role start ≡ b → Good true (word_with inner role words start room) no_brace s ts
      by_role false may =
          refused_here true (word_with inner role words start room) no_brace s ts Unexpected (λ k e. rw may refl)
      by_role true may = by_mix may (goes_on words (class_of_start start)) refl

  -- what a word is that was read

  abbrev IsWord : SpecStart → ℕ → SpecWord → Type 0
  IsWord start room w =
      (class_of w ≡ class_of_start start)
      × (((class_of_start start ≡ classes.Named) × (2 ≤ least_of start)) ⊎ (spec_word_height w + 1 ≤ least_of start))

  one_is : (start : SpecStart) (room : ℕ) (make : ℕ → SpecWord) (s : HeldScopes) (ts : List Lexeme) (x : Found SpecWord)
      → word_at inner make s ts ≡ done x → ((token : ℕ) → IsWord start room (make token)) → IsWord start room x.tree
  one_is start room make s ts x e is =
      let a = bind_ok e in
      subst (λ (x : Found SpecWord). IsWord start room x.tree) (ok_is a.2) (is a.0.tree)

  typed_is : (start : SpecStart) (keyword : Keyword) (token opening below room : ℕ) (s : HeldScopes) (ts : List Lexeme)
      (x : Found SpecWord)
      → typed_word_with inner keyword token opening below s ts ≡ done x →
      ((t : TypeName) (closing : ℕ) → IsWord start room (type_made keyword token opening t closing))
      → IsWord start room x.tree
  unfolding typed_word_with
  typed_is start keyword token opening below room s ts x e is =
      let a = bind_ok e in
      let b = bind_ok a.2 in
      subst (λ (x : Found SpecWord). IsWord start room x.tree) (ok_is b.2) (is a.0.tree b.0.tree)

  value_is : (token opening below room : ℕ) (s : HeldScopes) (ts : List Lexeme) (x : Found SpecWord)
      → typeof_value_with inner token opening below s ts ≡ done x → IsWord starts.Typeof room x.tree
  unfolding typeof_value_with
  value_is token opening below room s ts x e =
      let a = bind_ok e in
      let b = bind_ok a.2 in
      subst (λ (x : Found SpecWord). IsWord starts.Typeof room x.tree) (ok_is b.2) (refl, inl (refl, omega arith))

  word_is : (start : SpecStart) (room : ℕ) (s : HeldScopes) (ts : List Lexeme) (x : Found SpecWord)
      → word_by inner start room s ts ≡ done x → IsWord start room x.tree
  unfolding word_by struct_with enum_with typeof_with atomic_with
  word_is (starts.Storage keyword) room s ts x e =
      one_is (starts.Storage keyword) room _ s ts x e (λ token. (refl, inr (omega arith)))
  word_is starts.Thread room s ts x e = one_is starts.Thread room _ s ts x e (λ token. (refl, inr (omega arith)))
  word_is starts.Inline room s ts x e = one_is starts.Inline room _ s ts x e (λ token. (refl, inr (omega arith)))
  word_is starts.Noreturn room s ts x e = one_is starts.Noreturn room _ s ts x e (λ token. (refl, inr (omega arith)))
  word_is (starts.Word keyword) room s ts x e =
      one_is (starts.Word keyword) room _ s ts x e (λ token. (refl, inr (omega arith)))
  word_is starts.Element room s ts x e = one_is starts.Element room _ s ts x e (λ token. (refl, inr (omega arith)))
  word_is starts.Index room s ts x e = one_is starts.Index room _ s ts x e (λ token. (refl, inr (omega arith)))
  word_is (starts.Basic keyword) room s ts x e =
      one_is (starts.Basic keyword) room _ s ts x e (λ token. (refl, inr (omega arith)))
  word_is (starts.Struct keyword) room s ts x e =
      let a = bind_ok e in
      let b = bind_ok a.2 in
      let c = bind_ok b.2 in
      let d = bind_ok c.2 in
      subst (λ (x : Found SpecWord). IsWord (starts.Struct keyword) room x.tree) (ok_is d.2)
      (refl, inl (refl, omega arith))
  word_is starts.Enum room s ts x e =
      let a = bind_ok e in
      let b = bind_ok a.2 in
      let c = bind_ok b.2 in
      let d = bind_ok c.2 in
      subst (λ (x : Found SpecWord). IsWord starts.Enum room x.tree) (ok_is d.2) (refl, inl (refl, omega arith))
  word_is starts.Attribute room s ts x e =
      let a = bind_ok e in
      subst (λ (x : Found SpecWord). IsWord starts.Attribute room x.tree) (ok_is a.2) (refl, inr (omega arith))
  word_is (starts.Name name) room s ts x e =
      one_is (starts.Name name) room _ s ts x e (λ token. (refl, inl (refl, omega arith)))
  word_is starts.Typeof room s ts x e =
      let a = bind_ok e in
      let b = bind_ok a.2 in
      if_ok (begins_specs b.0.scopes (kind_at b.0.rest)) b.2
      (λ is e. typed_is starts.Typeof keywords.Typeof a.0.tree b.0.tree (room - 1) room _ _ x e
      (λ t closing. (refl, inl (refl, omega arith)))) (λ is e. value_is a.0.tree b.0.tree (room - 1) room _ _ x e)
  word_is starts.Atomic room s ts x e =
      let a = bind_ok e in
      let b = bind_ok a.2 in
      typed_is starts.Atomic keywords.AtomicType a.0.tree b.0.tree (room - 1) room _ _ x b.2
      (λ t closing. (refl, inl (refl, omega arith)))
  word_is starts.Align room s ts x e =
      let a = bind_ok e in
      subst (λ (x : Found SpecWord). IsWord starts.Align room x.tree) (ok_is a.2) (refl, inr (omega arith))
  word_is starts.Auto room s ts x e = one_is starts.Auto room _ s ts x e (λ token. (refl, inr (omega arith)))
  word_is starts.Nothing room s ts x e = absurd cc

  -- words behind which specifiers can be completed
  abbrev Completed : ℕ → SpecWords → Type 0
  Completed room words = (is_some (mix_of words) ≡ true) × ((is_whole_mix words ≡ true) ⊎ (specs_height words ≤ room))

  word_completes : (role : Role) (words : SpecWords) (start : SpecStart) (room : ℕ) (s : HeldScopes) (ts : List Lexeme)
      (y : Found SpecWord)
      → is_start start ≡ true → word_with inner role words start room s ts ≡ done y →
      Completed room (pushed words y.tree)
  word_completes role words start room s ts y begun e =
      let p = word_parts [] none_tokens n inner laws role words start room s ts y e in
      let w = word_is start room s ts y p.3 in
      let on : goes_on words (class_of y.tree) ≡ true = ap (goes_on words) w.0 ∙ p.1 in
      (ap is_some (mix_of_pushed words y.tree) ∙ on, by_height p.2 on w.0 w.1)
    where
      by_height : max (least_of start) (specs_height words) ≤ room → goes_on words (class_of y.tree) ≡ true
          → class_of y.tree ≡ class_of_start start →
          ((class_of_start start ≡ classes.Named) × (2 ≤ least_of start))
          ⊎ (spec_word_height y.tree + 1 ≤ least_of start)
          → (is_whole_mix (pushed words y.tree) ≡ true) ⊎ (specs_height (pushed words y.tree) ≤ room)
      by_height fit on class (inl named) = inl (named_whole words y.tree (class ∙ named.0) on)
      by_height fit on class (inr low) =
          inr (pushed_low words y.tree room (omega (arith, fit)) (omega (arith, fit, low)))

  module _ (role : Role) (room : ℕ) (less : room < suc n) where
    -- a word goes on behind others: one begins there, and it is not the name of a typedef
    abbrev goes_on_at : HeldScopes → SpecWords → TokenKind → Bool
    goes_on_at s words kind =
        not (ends_before s words (start_at s (is_typed words) kind)) && is_start (start_at s (is_typed words) kind)

    turn_none : (words : SpecWords) (s : HeldScopes) (k : List Lexeme) → goes_on_at s words (kind_at k) ≡ false
        → word_turn inner role room words s k ≡ None
    turn_none words s k h =
        by_test (start_at s (is_typed words) (kind_at k))
        (ends_before s words (start_at s (is_typed words) (kind_at k))) h
      where
        by_test : (start : SpecStart) (b : Bool) → (not b && is_start start) ≡ false →
            (if b then None else if is_start start then Some
            (behind (word_with inner role words start room) (λ word. ends (pushed words word)) s k) else None) ≡ None
        by_test start true h = refl
        by_test start false h = rw h refl

    turn_some : (words : SpecWords) (s : HeldScopes) (k : List Lexeme) → goes_on_at s words (kind_at k) ≡ true →
        word_turn inner role room words s k
        ≡ Some (behind (word_with inner role words (start_at s (is_typed words) (kind_at k)) room)
        (λ word. ends (pushed words word)) s k)
    turn_some words s k h =
        by_test (start_at s (is_typed words) (kind_at k))
        (ends_before s words (start_at s (is_typed words) (kind_at k))) h
      where
        by_test : (start : SpecStart) (b : Bool) → (not b && is_start start) ≡ true →
            (if b then None else if is_start start then Some
            (behind (word_with inner role words start room) (λ word. ends (pushed words word)) s k) else None) ≡
            Some (behind (word_with inner role words start room) (λ word. ends (pushed words word)) s k)
        by_test start true h = absurd cc
        by_test start false h = rw h refl

    goes_start : (words : SpecWords) (s : HeldScopes) (kind : TokenKind) → goes_on_at s words kind ≡ true
        → is_start (start_at s (is_typed words) kind) ≡ true
    goes_start words s kind h = by_test (ends_before s words (start_at s (is_typed words) kind)) h
      where
        by_test : (b : Bool) → (not b && is_start (start_at s (is_typed words) kind)) ≡ true
            → is_start (start_at s (is_typed words) kind) ≡ true
        by_test true h = absurd cc
        by_test false h = h

    -- no word stands there
    specs_stop : (words : SpecWords) (s : HeldScopes) (k : List Lexeme) → goes_on_at s words (kind_at k) ≡ false
        → specs_with inner role words room s k ≡ whole inner words s k
    unfolding specs_with and_then
    specs_stop words s k h = rw (
      run_is (word_turn inner role room) (word_turn_shrinks [] none_tokens n inner laws role room) words s k,
      turn_none words s k h,
    ) refl

    -- one does
    specs_on : (words : SpecWords) (s : HeldScopes) (k : List Lexeme) (start : SpecStart)
        → start_at s (is_typed words) (kind_at k) ≡ start → goes_on_at s words (kind_at k) ≡ true →
        specs_with inner role words room s k ≡ behind (behind (word_with inner role words start room)
        (λ word. ends (pushed words word))) (λ x. specs_with inner role x room) s k
    unfolding specs_with
    specs_on words s k start is h =
        rw (
          run_is (word_turn inner role room) (word_turn_shrinks [] none_tokens n inner laws role room) words s k,
          turn_some words s k h,
          is,
        )
        (and_then_twice _ (λ x. run (word_turn inner role room) x.tree x.scopes x.rest)
        (λ all. whole inner all.tree all.scopes all.rest))

    -- a whole type before a token with which specifiers end
    specs_whole : (words : SpecWords) (s : HeldScopes) (k : List Lexeme) → is_whole_mix words ≡ true
        → stops_specs (kind_at k) ≡ true → specs_with inner role words room s k ≡ ends words s k
    specs_whole words s k w h =
        specs_stop words s k (no_start (not (ends_before s words (start_at s (is_typed words) (kind_at k)))) _
        (ap (λ (typed : Bool). is_start (start_at s typed (kind_at k))) (whole_typed words w)
        ∙ stops_start s (kind_at k) h)) ∙ rw w refl
      where
        no_start : (a b : Bool) → b ≡ false → (a && b) ≡ false
        no_start true b h = h
        no_start false b h = refl

    -- the same behind `int` or `double`, with which they are whole
    spelled_start : (keyword : Keyword) → (keyword ≡ keywords.Int) ⊎ (keyword ≡ keywords.Double)
        → (s : HeldScopes) (typed : Bool) → start_at s typed (kinds.Keyword keyword) ≡ starts.Basic keyword
    spelled_start keyword (inl is) s typed = rw is refl
    spelled_start keyword (inr is) s typed = rw is refl

    spelled_goes : (keyword : Keyword) → (keyword ≡ keywords.Int) ⊎ (keyword ≡ keywords.Double)
        → (words : SpecWords) (s : HeldScopes) → goes_on_at s words (kinds.Keyword keyword) ≡ true
    spelled_goes keyword known words s = by_keyword known
      where
        by_wide : (b c d e : Bool) → (not ((((b && false) && c) && d) && e) && true) ≡ true
        by_wide true c d e = refl
        by_wide false c d e = refl

        by_keyword : (keyword ≡ keywords.Int) ⊎ (keyword ≡ keywords.Double)
            → goes_on_at s words (kinds.Keyword keyword) ≡ true
        by_keyword (inl is) = rw is (by_wide (is_wide s || has_auto words) _ _ _)
        by_keyword (inr is) = rw is (by_wide (is_wide s || has_auto words) _ _ _)

    specs_made : (words : SpecWords) (made : MadeWhole words) → specs_height words ≤ room → 1 ≤ room
        → (s : HeldScopes) (at : ℕ) (k : List Lexeme) → stops_specs (kind_at k) ≡ true →
        specs_with inner role words room s (record { kind = kinds.Keyword made.keyword; at = at } ∷ k)
        ≡ ends (pushed words (basic (word_of made.keyword at))) s k
    unfolding word_with word_by and_then
    specs_made words made low one s at k h =
        specs_on words s (record { kind = kinds.Keyword made.keyword; at = at } ∷ k) (starts.Basic made.keyword)
        (spelled_start made.keyword made.is_int_or_double s (is_typed words))
        (spelled_goes made.keyword made.is_int_or_double words s) ∙
        rw (
          spells_may role made.keyword,
          made.goes,
          fits_is (max 1 (specs_height words)) room (record { kind = kinds.Keyword made.keyword; at = at } ∷ k)
              (word_at inner (λ token. basic (word_of made.keyword token)) s
              (record { kind = kinds.Keyword made.keyword; at = at } ∷ k)) (omega (arith, low, one)),
        )
        (specs_whole (pushed words (basic (word_of made.keyword at))) s k
        (ap whole_in (mix_of_pushed words (basic (word_of made.keyword at))) ∙ made.whole) h)

    specs_ready : (words : SpecWords) → Completed room words → 1 ≤ room → (s : HeldScopes) (at : ℕ)
        → Ready true (specs_with inner role words room) no_brace stops_specs s at
    specs_ready words c one s at = by_whole (is_whole_mix words) refl c.1
      where
        by_whole : (b : Bool) → is_whole_mix words ≡ b → (is_whole_mix words ≡ true) ⊎ (specs_height words ≤ room)
            → Ready true (specs_with inner role words room) no_brace stops_specs s at
        by_whole true w h = record {
          more = [];
          tree = words;
          scopes = s;
          keeps = kept_refl true s;
          begins = λ k h. stops_brace (kind_at k) h;
          reads = λ k h. specs_whole words s k w h;
        }
        by_whole false w (inl also) = absurd cc
        by_whole false w (inr low) =
            let made = made_whole words c.0 w in
            record {
              more = kinds.Keyword made.keyword ∷ [];
              tree = pushed words (basic (word_of made.keyword at));
              scopes = s;
              keeps = kept_refl true s;
              begins = λ k h. refl;
              reads = λ k h. specs_made words made low one s at k h;
            }

    specs_good_below : (m : ℕ) (words : SpecWords) (s : HeldScopes) (ts : List Lexeme) → length ts < m
        → Good true (specs_with inner role words room) stops_specs s ts
    specs_good_below zero words s ts h = absurd (omega (arith, h))
    specs_good_below (suc m) words s ts h =
        by_start (goes_on_at s words (kind_at ts)) refl (λ words s ts h. specs_good_below m words s ts h)
      where
        start : SpecStart
        start = start_at s (is_typed words) (kind_at ts)

        start_same : (k : List Lexeme) → first_kind k ≡ first_kind ts → start_at s (is_typed words) (kind_at k) ≡ start
        start_same k e = ap (λ (kind : TokenKind). start_at s (is_typed words) kind) (kind_same k ts e)

        goes_same : (k : List Lexeme) → first_kind k ≡ first_kind ts
            → goes_on_at s words (kind_at k) ≡ goes_on_at s words (kind_at ts)
        goes_same k e = ap (goes_on_at s words) (kind_same k ts e)

        by_whole : goes_on_at s words (kind_at ts) ≡ false → (b : Bool) → is_whole_mix words ≡ b
            → Good true (specs_with inner role words room) stops_specs s ts
        by_whole off false w =
            refused_here true (specs_with inner role words room) stops_specs s ts Unexpected
            (λ k e. specs_stop words s k (goes_same k e ∙ off) ∙ rw w refl)
        by_whole off true w =
            good_as true (ends words) (specs_with inner role words room) stops_specs s ts
            (λ k e. specs_stop words s k (goes_same k e ∙ off) ∙ rw w refl)
            (inr (λ k e. specs_whole words s k w e)) (ends_good true words stops_specs s ts)

        by_start : (b : Bool) → goes_on_at s words (kind_at ts) ≡ b
            → ((words : SpecWords) (s : HeldScopes) (ts : List Lexeme) → length ts < m
            → Good true (specs_with inner role words room) stops_specs s ts) →
            Good true (specs_with inner role words room) stops_specs s ts
        by_start false off again = by_whole off (is_whole_mix words) refl
        by_start true on again =
            good_as true (behind read (λ x. specs_with inner role x room)) (specs_with inner role words room)
            stops_specs s ts (λ k e. specs_on words s k start (start_same k e) (goes_same k e ∙ on)) (inl takes)
            (bind_good true read (λ x. specs_with inner role x room) no_brace stops_specs s ts
            (λ tree scopes gives at. completed tree scopes (gives.reads semicolon refl) at)
            (mapped_good true (word_with inner role words start room) (pushed words) no_brace s ts
            (word_with_good role words start room less s ts
            (start_end s (is_typed words) (kind_at ts) (goes_start words s (kind_at ts) on))))
            (λ x is. let fewer : length x.rest < length ts = read_shrinks x is in
            again x.tree x.scopes x.rest (omega (arith, fewer, h)))
            (inr stops_brace))
          where
            semicolon : List Lexeme
            semicolon = record { kind = kinds.Keyword keywords.Int; at = 0 } ∷ []

            read : Reader SpecWords
            read = behind (word_with inner role words start room) (λ word. ends (pushed words word))

            read_shrinks : (x : Found SpecWords) → read s ts ≡ done x → length x.rest < length ts
            read_shrinks x is =
                word_turn_shrinks [] none_tokens n inner laws role room words s ts x
                (turn_some words s ts on ∙ ap Some is)

            takes : (x : Found SpecWords) → behind read (λ x. specs_with inner role x room) s ts ≡ done x
                → length x.rest < length ts
            takes x e =
                let a = bind_ok e in
                let one = read_shrinks a.0 a.1 in
                let rest = specs_falls [] none_tokens n inner laws role a.0.tree room a.0.scopes a.0.rest x a.2 in
                omega (arith, one, rest)

            completed : (tree : SpecWords) (scopes : HeldScopes)
                → (us : List Lexeme) × (read s us ≡ ends tree scopes semicolon) × (length semicolon < length us)
                → (at : ℕ) → Ready true (specs_with inner role tree room) no_brace stops_specs scopes at
            completed tree scopes g at =
                let a = bind_ok g.1 in
                let p = word_parts [] none_tokens n inner laws role words start room s g.0 a.0 a.1 in
                let high = specs_high words in
                let c = word_completes role words start room s g.0 a.0 (goes_start words s (kind_at ts) on) a.1 in
                specs_ready tree (subst (λ (x : Found SpecWords). Completed room x.tree) (ok_is a.2) c)
                (omega (arith, p.2, high)) scopes at

    -- words with `__auto_type` and `typedef` end before a base word
    base_ends : (words : SpecWords) (s : HeldScopes) (k : List Lexeme) → is_whole_mix words ≡ true
        → takes_base words ≡ true → is_base_word (kind_at k) ≡ true → goes_on_at s words (kind_at k) ≡ false
    base_ends words s k w typed base =
        by_words (has_auto words) (has_typedef_word (storage_words words)) refl refl typed
      where
        either : (b c : Bool) → c ≡ true → b || c ≡ true
        either true c h = refl
        either false c h = h

        by_kind : (kind : TokenKind) → is_base_word kind ≡ true → has_auto words ≡ true
            → has_typedef_word (storage_words words) ≡ true → goes_on_at s words kind ≡ false
        by_kind (kinds.Keyword keywords.BaseWord) is auto typedef =
            rw (either (is_wide s) (has_auto words) auto, typedef, w, auto_base words auto) refl
        by_kind kind is auto typedef = absurd cc

        by_words : (b c : Bool) → has_auto words ≡ b → has_typedef_word (storage_words words) ≡ c → b && c ≡ true
            → goes_on_at s words (kind_at k) ≡ false
        by_words true true auto typedef h = by_kind (kind_at k) base auto typedef
        by_words true false auto typedef h = absurd cc
        by_words false c auto typedef h = absurd cc

    base_no_brace : (k : List Lexeme) → is_base_word (kind_at k) ≡ true → no_brace (kind_at k) ≡ true
    base_no_brace k base = by_kind (kind_at k) base
      where
        by_kind : (kind : TokenKind) → is_base_word kind ≡ true → no_brace kind ≡ true
        by_kind (kinds.Keyword keywords.BaseWord) is = refl
        by_kind kind is = absurd cc

    abbrev semi : List Lexeme
    semi = record { kind = kinds.Punct puncts.Semicolon; at = 0 } ∷ []

    based_below : (m : ℕ) (words : SpecWords) (s : HeldScopes) (b : List Lexeme) (tree : SpecWords)
        (scopes : HeldScopes)
        → length b < m → specs_with inner role words room s (b ++ semi) ≡ ends tree scopes semi
        → takes_base tree ≡ true →
        (k : List Lexeme) → is_base_word (kind_at k) ≡ true
        → specs_with inner role words room s (b ++ k) ≡ ends tree scopes k
    based_below zero words s b tree scopes small e typed k base = absurd (omega (arith, small))
    based_below (suc m) words s b tree scopes small e typed k base =
        by_start (goes_on_at s words (kind_at (b ++ semi))) refl
        (λ words s b scopes less e. based_below m words s b tree scopes less e typed k base)
      where
        by_start : (g : Bool) → goes_on_at s words (kind_at (b ++ semi)) ≡ g →
            ((words : SpecWords) (s : HeldScopes) (b : List Lexeme) (scopes : HeldScopes) → length b < m
            → specs_with inner role words room s (b ++ semi) ≡ ends tree scopes semi
            → specs_with inner role words room s (b ++ k) ≡ ends tree scopes k) →
            specs_with inner role words room s (b ++ k) ≡ ends tree scopes k
        by_start false off again =
            let o = whole_ok [] none_tokens n inner laws words s (b ++ semi) (found tree scopes semi)
            (sym (specs_stop words s (b ++ semi) off) ∙ e) in
            at_words (none_before b semi (ap (λ (x : Found SpecWords). x.rest) o.1)) o.0
            (ap (λ (x : Found SpecWords). x.tree) o.1) (ap (λ (x : Found SpecWords). x.scopes) o.1)
          where
            at_words : b ≡ [] → is_whole_mix words ≡ true → words ≡ tree → s ≡ scopes
                → specs_with inner role words room s (b ++ k) ≡ ends tree scopes k
            at_words none w same held =
                rw none (specs_stop words s k (base_ends words s k w
                (subst (λ (ws : SpecWords). takes_base ws ≡ true) (sym same) typed) base) ∙ rw w (rw (same, held) refl))
        by_start true on again = by_tokens b refl on
          where
            by_tokens : (c : List Lexeme) → b ≡ c → goes_on_at s words (kind_at (c ++ semi)) ≡ true
                → specs_with inner role words room s (b ++ k) ≡ ends tree scopes k
            by_tokens [] is on =
                let off : goes_on_at s words (kinds.Punct puncts.Semicolon) ≡ false =
                and_false (not (ends_before s words starts.Nothing)) in
                absurd cc
            by_tokens (t ∷ c) is on =
                by_read (bind_ok (sym (specs_on words s ((t ∷ c) ++ semi) start refl on) ∙ subst
                (λ (b : List Lexeme). specs_with inner role words room s (b ++ semi) ≡ ends tree scopes semi) is e))
              where
                start : SpecStart
                start = start_at s (is_typed words) t.kind

                read : Reader SpecWords
                read = behind (word_with inner role words start room) (λ word. ends (pushed words word))

                by_read : (x : Found SpecWords) × (read s ((t ∷ c) ++ semi) ≡ done x)
                    × (specs_with inner role x.tree room x.scopes x.rest ≡ ends tree scopes semi)
                    → specs_with inner role words room s (b ++ k) ≡ ends tree scopes k
                by_read (x, taken, rest) =
                    let g =
                    mapped_good true (word_with inner role words start room) (pushed words) no_brace s ((t ∷ c) ++ semi)
                    (word_with_good role words start room less s ((t ∷ c) ++ semi)
                    (start_end s (is_typed words) t.kind (goes_start words s t.kind on))) in
                    let o = subst (Outcome true read no_brace s ((t ∷ c) ++ semi)) taken g in
                    let p = subst (Outcome true (specs_with inner role x.tree room) stops_specs x.scopes x.rest) rest
                    (specs_good_below (suc (length x.rest)) x.tree x.scopes x.rest (omega arith)) in
                    let fewer : length x.rest < length ((t ∷ c) ++ semi) = word_turn_shrinks [] none_tokens n inner laws
                    role room words s ((t ∷ c) ++ semi) x (turn_some words s ((t ∷ c) ++ semi) on ∙ ap Some taken) in
                    let parts : (t ∷ c) ++ semi ≡ (o.before ++ p.before) ++ semi = o.parts
                    ∙ ap (λ (k : List Lexeme). o.before ++ k) p.parts ∙ sym (append_assoc o.before p.before semi) in
                    let same : t ∷ c ≡ o.before ++ p.before = append_same (t ∷ c) (o.before ++ p.before) semi parts in
                    let shorter : length p.before < m =
                    fewer_tokens b (t ∷ c) p.before x.rest semi m is p.parts fewer small in
                    let tokens : (t ∷ c) ++ k ≡ o.before ++ (p.before ++ k) =
                    ap (λ (b : List Lexeme). b ++ k) same ∙ append_assoc o.before p.before k in
                    rw is (specs_on words s ((t ∷ c) ++ k) start refl on ∙
                    subst (λ (ts : List Lexeme). behind read (λ x. specs_with inner role x room) s ts
                    ≡ ends tree scopes k) (sym tokens)
                    (bind_is _ (read_on o.before p.before x o.same o.ended p.parts)
                    (again x.tree x.scopes p.before scopes shorter (subst (λ (ts : List Lexeme).
                    specs_with inner role x.tree room x.scopes ts ≡ ends tree scopes semi) p.parts rest))))
                  where
                    read_on : (b1 b2 : List Lexeme) (x : Found SpecWords)
                        → ((k : List Lexeme) → first_kind k ≡ first_kind x.rest
                        → read s (b1 ++ k) ≡ ends x.tree x.scopes k) →
                        ((k : List Lexeme) → no_brace (kind_at k) ≡ true → read s (b1 ++ k) ≡ ends x.tree x.scopes k)
                        → x.rest ≡ b2 ++ semi → read s (b1 ++ (b2 ++ k)) ≡ done (found x.tree x.scopes (b2 ++ k))
                    read_on b1 [] x same ended parts = ended k (base_no_brace k base)
                    read_on b1 (u ∷ b2) x same ended parts = same ((u ∷ b2) ++ k) (ap first_kind (sym parts))

  -- what is read before a semicolon is read before a base word too, where that stands for the name behind `__auto_type`
  pub specs_based : (role : Role) (words : SpecWords) (room : ℕ) → room < suc n
      → (s : HeldScopes) (b : List Lexeme) (tree : SpecWords) (scopes : HeldScopes) →
      ((k : List Lexeme) → stops_specs (kind_at k) ≡ true
      → specs_with inner role words room s (b ++ k) ≡ ends tree scopes k)
      → takes_base tree ≡ true → (k : List Lexeme) → is_base_word (kind_at k) ≡ true →
      specs_with inner role words room s (b ++ k) ≡ ends tree scopes k
  specs_based role words room less s b tree scopes reads typed k base =
      based_below role room less (suc (length b)) words s b tree scopes (omega arith)
      (reads (semi role room less) refl) typed k base

  -- behind `__auto_type` there is room for a declarator
  pub specs_auto : (role : Role) (words : SpecWords) (room : ℕ) (s : HeldScopes) (ts : List Lexeme)
      (x : Found SpecWords)
      → AutoFits room words → specs_with inner role words room s ts ≡ done x → AutoFits room x.tree
  unfolding specs_with
  specs_auto role words room s ts x h e =
      let a = bind_ok e in
      let w = whole_ok [] none_tokens n inner laws a.0.tree a.0.scopes a.0.rest x a.2 in
      subst (λ (x : Found SpecWords). AutoFits room x.tree) w.1
      (run-keep (word_turn inner role room) (λ words s k. AutoFits room words) keeps words s ts a.0 h a.1)
    where
      two_high : (start : SpecStart) (w : SpecWord) → least_of start ≤ room → IsWord start room w → is_auto w ≡ true
          → 2 ≤ room
      two_high start w fit (class, inl named) auto = let two = named.1 in omega (arith, fit, two)
      two_high start w fit (class, inr low) auto = let one = (auto_named w auto).1 in omega (arith, fit, low, one)

      keeps : (words : SpecWords) (s : HeldScopes) (k : List Lexeme) (x : Found SpecWords) → AutoFits room words
          → word_turn inner role room words s k ≡ Some (done x) → AutoFits room x.tree
      keeps words s k x h e =
          let p = turn_parts [] none_tokens n inner laws role room words s k x e in
          let start = start_at s (is_typed words) (kind_at k) in
          let w = word_parts [] none_tokens n inner laws role words start room s k p.1 p.2 in
          let fit = w.2 in
          subst (λ (x : Found SpecWords). AutoFits room x.tree) p.3
          (λ auto. by_word p.1.tree (pushed_auto words p.1.tree auto) (λ last.
          two_high start p.1.tree (omega (arith, fit)) (word_is start room s k p.1 w.3) last))
        where
          by_word : (w : SpecWord) → (has_auto words ≡ true) ⊎ (is_auto w ≡ true) → (is_auto w ≡ true → 2 ≤ room)
              → 2 ≤ room
          by_word w (inl on) last = h on
          by_word w (inr is) last = last is

  pub specs_good : (role : Role) (words : SpecWords) (room : ℕ) → room < suc n → (s : HeldScopes) (ts : List Lexeme)
      → Good true (specs_with inner role words room) stops_specs s ts
  specs_good role words room less s ts = specs_good_below role room less (suc (length ts)) words s ts (omega arith)

  -- what the first turn did, where a token was taken
  first_turn : (role : Role) (words : SpecWords) (room : ℕ) (s : HeldScopes) (ts : List Lexeme) (y : Found SpecWords)
      → run (word_turn inner role room) words s ts ≡ done y → length y.rest < length ts → specs_height words ≤ room
  first_turn role words room s ts y e less =
      by_turn (word_turn inner role room words s ts) refl (sym
      (run_is (word_turn inner role room) (word_turn_shrinks [] none_tokens n inner laws role room) words s ts) ∙ e)
    where
      by_turn : (r : Option (Read SpecWords)) → word_turn inner role room words s ts ≡ r
          → after r words s ts (run (word_turn inner role room)) ≡ done y → specs_height words ≤ room
      by_turn None is e = let same : length ts ≡ length y.rest = left_is e in absurd (omega (arith, same, less))
      by_turn (Some (Err f)) is e = let b = bind_ok e in let wrong : Err f ≡ done b.0 = b.1 in absurd cc
      by_turn (Some (Ok z)) is e =
          let p = turn_parts [] none_tokens n inner laws role room words s ts z is in
          let w = word_parts [] none_tokens n inner laws role words
          (start_at s (is_typed words) (kind_at ts)) room s ts p.1 p.2 in
          let fit = w.2 in
          omega (arith, fit)

  -- some word was read, so there was room for those before it
  pub specs_room : (role : Role) (words : SpecWords) (room : ℕ) (s : HeldScopes) (ts : List Lexeme)
      (x : Found SpecWords)
      → specs_with inner role words room s ts ≡ done x → length x.rest < length ts → specs_height words ≤ room
  unfolding specs_with
  specs_room role words room s ts x e less =
      let a = bind_ok e in
      let w = whole_ok [] none_tokens n inner laws a.0.tree a.0.scopes a.0.rest x a.2 in
      let same = ap (λ (x : Found SpecWords). length x.rest) w.1 in
      first_turn role words room s ts a.0 a.1 (omega (arith, same, less))

  -- with a room of one the words are one high
  pub specs_low : (role : Role) (words : SpecWords) (s : HeldScopes) (ts : List Lexeme) (x : Found SpecWords)
      → specs_with inner role words 1 s ts ≡ done x → length x.rest < length ts → specs_height x.tree ≤ 1
  unfolding specs_with
  specs_low role words s ts x e less =
      let a = bind_ok e in
      let w = whole_ok [] none_tokens n inner laws a.0.tree a.0.scopes a.0.rest x a.2 in
      let same = ap (λ (x : Found SpecWords). length x.rest) w.1 in
      let kept = run-keep (word_turn inner role 1)
      (λ words s k. (length k ≡ length ts) ⊎ (specs_height words ≤ 1)) keeps words s ts a.0 (inl refl) a.1 in
      subst (λ (x : Found SpecWords). specs_height x.tree ≤ 1) w.1 (by_kept a.0 kept (omega (arith, same, less)))
    where
      by_kept : (y : Found SpecWords) → (length y.rest ≡ length ts) ⊎ (specs_height y.tree ≤ 1)
          → length y.rest < length ts → specs_height y.tree ≤ 1
      by_kept y (inl none) less = absurd (omega (arith, none, less))
      by_kept y (inr low) less = low

      one_high : (start : SpecStart) (w : SpecWord) → least_of start ≤ 1
          → ((class_of_start start ≡ classes.Named) × (2 ≤ least_of start)) ⊎ (spec_word_height w + 1 ≤ least_of start)
          → spec_word_height w + 1 ≤ 1
      one_high start w fit (inl named) = absurd (let two = named.1 in omega (arith, fit, two))
      one_high start w fit (inr low) = omega (arith, fit, low)

      keeps : (words : SpecWords) (s : HeldScopes) (k : List Lexeme) (x : Found SpecWords)
          → (length k ≡ length ts) ⊎ (specs_height words ≤ 1) → word_turn inner role 1 words s k ≡ Some (done x) →
          (length x.rest ≡ length ts) ⊎ (specs_height x.tree ≤ 1)
      keeps words s k x h e =
          let p = turn_parts [] none_tokens n inner laws role 1 words s k x e in
          let w =
          word_parts [] none_tokens n inner laws role words (start_at s (is_typed words) (kind_at k)) 1 s k p.1 p.2 in
          let is = word_is (start_at s (is_typed words) (kind_at k)) 1 s k p.1 w.3 in
          let fit = w.2 in
          let one = one_high (start_at s (is_typed words) (kind_at k)) p.1.tree (omega (arith, fit)) is.1 in
          inr (subst (λ (x : Found SpecWords). specs_height x.tree ≤ 1) p.3
          (pushed_low words p.1.tree 1 (omega (arith, fit)) one))

  -- What the reader of specifiers owes.
  pub specs_places : SpecsPlaces (suc n) (specs_with inner)
  specs_places = record {
    good = specs_good;
    ready = λ role words room less one low begun s at.
        ready_before true (specs_with inner role words room) no_brace any stops_specs stops_specs s at (λ kind h. h)
        (λ kind h. refl) (specs_ready role room less words (begun, inr low) one s at);
    begins = λ role room less one s at. record {
      more = kinds.Keyword keywords.Int ∷ [];
      tree = pushed no_words (basic (word_of keywords.Int at));
      scopes = s;
      keeps = kept_refl true s;
      begins = λ k h. refl;
      reads = λ k h. specs_made role room less no_words
          (record { keyword = keywords.Int; is_int_or_double = inl refl; goes = refl; whole = refl })
          (omega (arith, one)) one s at k h;
    };
    room = specs_room;
    low = specs_low;
    auto = specs_auto;
    based = specs_based;
  }
