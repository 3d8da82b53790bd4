-- Structs, unions and enumerations, with or without a body.
use Rattle.std.proofs.Common.{◌≡◌, ℕ, suc, ◌<◌, ◌≤◌, Bool, true, false, List, [], ◌∷◌, length, inl, inr, Option, Some, None, refl, sym, ◌∙◌, ap, subst, arith}
use Rattle.std.specs.Prelude.{◌-◌, not, nat_le}
use Rattle.std.proofs.lemmas.Bool.{leb-true}
use Rattle.c_words.specs.declared.kinds.TokenKind.{TokenKind}
use Rattle.c_words.specs.declared.kinds.TokenKind.TheVariants as kinds
use Rattle.c_words.specs.declared.kinds.Punct.TheVariants as puncts
use Rattle.c_words.specs.declared.kinds.Keyword.{Keyword}
use Rattle.c_tree.specs.declared.lexeme.Lexeme.{Lexeme}
use Rattle.c_syntax.specs.declared.parts.Identifier.{Identifier}
use Rattle.c_syntax.specs.declared.parts.Attr.{Attr}
use Rattle.c_tree.specs.Tree.{SpecWord, struct_type, enum_type, enum_of, no_body, SomeValue, SomeEnumBody, no_enum_body, some_enum_body}
use Rattle.typedef_scope.specs.declared.kind.Kind.TheVariants.{Constant}
use Rattle.c_units.specs.HeldScopes.{HeldScopes, innermost, leave, may_declare, is_name, with_name, declare}
use Rattle.c_reading.specs.declared.kinds.FaultKind.{FaultKind}
use Rattle.c_reading.specs.declared.kinds.FaultKind.TheVariants.{Unexpected, TooDeep, Redeclared}
use Rattle.c_reading.specs.Reading.{Reader, ends, refuses, kind_at, take_one, token_at, listed, one_more, list_end, and_then, is_comma}
use Rattle.c_reading.specs.Tokens.{is_end, is_attribute, is_equal, is_open_brace, is_close_brace, word_of, spelled_name, identifier_of, tag_at, attrs_at}
use Rattle.c_reading.specs.Parts.{Inner, EnumItem, enumerators_from}
use Rattle.c_reading.specs.Specifying.{without_body, value_with, declared, members_with, body_with, struct_with, enumerator_behind, enumerator_named, enumerator_with, next_enumerator, enumerators_with, enum_body_with, enum_with}
use Rattle.c_reading.proofs.Binding.{found, done, bind_ok, fits_ok, fits_is, if_ok, take_falls, token_falls}
use Rattle.c_reading.proofs.Forms.{Falls, Shrinks}
use Rattle.c_reading.proofs.Commas.{listed_shrinks}
use Rattle.c_reading.proofs.KnotLaws.{none_tokens}
use Rattle.c_reading.proofs.SpecsFalls.{body_falls, enumerator_shrinks, next_enumerator_falls, enum_body_falls}
use Rattle.c_reading.proofs.Aims.{Laws}
use Rattle.reading_steps.specs.Keeping.{Kept}
use Rattle.reading_steps.specs.Fresh.{fresh}
use Rattle.reading_steps.specs.Steps.{first_kind, any, Answered, Outcome, Good, Ready, Law}
use Rattle.reading_steps.specs.Stops.{is_name_kind, stops_operand}
use Rattle.reading_steps.specs.InnerLaws.{InnerLaws}
use Rattle.reading_steps.proofs.Keeping.{kept_refl, declare_kept, declare_is}
use Rattle.reading_steps.proofs.Fresh.{fresh_free, free_may}
use Rattle.reading_steps.proofs.Steps.{behind, refused_here, ends_good, good_as, if_good, ready_bind, bind_good, bind_law, take_good, take_behind, ends_law, token_law, good_before, ready_before}
use Rattle.reading_steps.proofs.Lists.{listed_law}
use Rattle.token_places.proofs.Single.{equal_end, open_brace_end, close_brace_end, name_end, mapped_good, mapped_ready}
use Rattle.token_places.proofs.Rows.{attrs_law}
use Rattle.decl_places.proofs.Helping.{fits_not, left_is, token_then_shrinks, node_good, answer_keeps, tagged_shrinks, tagged_law}
use Rattle.decl_places.proofs.Members.{value_law, members_good, members_shrinks, name_attribute}

-- what may follow a word: no brace, which would be its body
abbrev pub no_brace : TokenKind → Bool
no_brace kind = not (is_open_brace kind)

-- a token that passes for no brace fails the test for `{`
no_brace_is : (kind : TokenKind) → no_brace kind ≡ true → is_open_brace kind ≡ false
no_brace_is kind h = by_test (is_open_brace kind) h
  where
    by_test : (b : Bool) → not b ≡ true → b ≡ false
    by_test true h = absurd cc
    by_test false h = refl

close_operand : (kind : TokenKind) → is_close_brace kind ≡ true → stops_operand kind ≡ true
close_operand (kinds.Punct puncts.CloseBrace) h = refl
close_operand kind h = absurd cc

close_equal : (kind : TokenKind) → is_close_brace kind ≡ true → is_equal kind ≡ false
close_equal (kinds.Punct puncts.CloseBrace) h = refl
close_equal kind h = absurd cc

close_attribute : (kind : TokenKind) → is_close_brace kind ≡ true → is_attribute kind ≡ false
close_attribute (kinds.Punct puncts.CloseBrace) h = refl
close_attribute kind h = absurd cc

close_comma : (kind : TokenKind) → is_close_brace kind ≡ true → is_comma kind ≡ false
close_comma (kinds.Punct puncts.CloseBrace) h = refl
close_comma kind h = absurd cc

-- without a body
without_good : {A : Type 0} (tag : Option Identifier) (a : A) (stops : TokenKind → Bool) (s : HeldScopes)
    (ts : List Lexeme)
    → Good true (without_body tag a) stops s ts
without_good None a stops s ts = refused_here true (without_body None a) stops s ts Unexpected (λ k e. refl)
without_good (Some tag) a stops s ts = ends_good true a stops s ts

module _ (n : ℕ) (inner : Inner) (places : InnerLaws n inner) (laws : Laws [] n inner) where
  -- [{ member* }]
  body_good : (tag : Option Identifier) (room : ℕ) → room < suc n → 1 ≤ room → (s : HeldScopes) (ts : List Lexeme)
      → Good true (body_with inner tag room) no_brace s ts
  unfolding body_with
  body_good tag room less one s ts =
      if_good true (λ s. is_open_brace) (members_with inner room) (without_body tag no_body) no_brace s ts
      (λ is. good_before true (members_with inner room) any no_brace s ts (λ kind h. refl)
      (members_good n inner places laws room less one s ts is))
      (λ is. without_good tag no_body no_brace s ts)
      (λ is. inl (λ x e. members_shrinks n inner places laws room s ts x e))
      (λ is. inr no_brace_is)

  abbrev struct_part : Keyword → ℕ → List Attr → ℕ → Option Identifier → Reader SpecWord
  struct_part keyword token attrs room tag =
      behind (body_with inner tag room) (λ body. ends (struct_type (word_of keyword token) attrs tag body))

  struct_part_falls : (keyword : Keyword) (token : ℕ) (attrs : List Attr) (room : ℕ) (tag : Option Identifier)
      → Falls (struct_part keyword token attrs room tag)
  struct_part_falls keyword token attrs room tag s ts x e =
      let a = bind_ok e in
      omega (arith, body_falls [] none_tokens n inner laws tag room s ts a.0 a.1, left_is a.2)

  struct_part_takes : (keyword : Keyword) (token : ℕ) (attrs : List Attr) (room : ℕ)
      → Shrinks (struct_part keyword token attrs room None)
  unfolding body_with
  struct_part_takes keyword token attrs room s ts x e =
      let a = bind_ok e in
      let less : length a.0.rest < length ts = if_ok (is_open_brace (kind_at ts)) a.1
      (λ is e. members_shrinks n inner places laws room s ts a.0 e) (λ is e. absurd cc) in
      omega (arith, less, left_is a.2)

  struct_part_ready : (keyword : Keyword) (token : ℕ) (attrs : List Attr) (room : ℕ) (tag : Identifier)
      (s : HeldScopes) (at : ℕ)
      → Ready true (struct_part keyword token attrs room (Some tag)) any no_brace s at
  unfolding body_with
  struct_part_ready keyword token attrs room tag s at =
      mapped_ready true (body_with inner (Some tag) room)
      (λ body. struct_type (word_of keyword token) attrs (Some tag) body) any no_brace s at
      (record {
        more = [];
        tree = no_body;
        scopes = s;
        keeps = kept_refl true s;
        begins = λ k h. refl;
        reads = λ k h. rw (no_brace_is (kind_at k) h) refl;
      })

  pub struct_good : (keyword : Keyword) (room : ℕ) → room < suc n → 1 ≤ room → (s : HeldScopes) (ts : List Lexeme)
      → is_end (kind_at ts) ≡ false → Good true (struct_with inner keyword room) no_brace s ts
  unfolding struct_with
  struct_good keyword room less one s ts known =
      take_behind true (λ token. behind (attrs_at room) (λ attrs. behind tag_at (struct_part keyword token attrs room)))
      no_brace (λ token. bind_law true (attrs_at room) (λ attrs. behind tag_at (struct_part keyword token attrs room))
      any is_name_kind no_brace (attrs_law true room any is_name_kind ((λ kind h. refl), name_attribute)) (λ attrs.
      tagged_law true (struct_part keyword token attrs room) no_brace (struct_part_falls keyword token attrs room)
      (struct_part_takes keyword token attrs room) (λ tag s ts. mapped_good true (body_with inner tag room)
      (λ body. struct_type (word_of keyword token) attrs tag body) no_brace s ts (body_good tag room less one s ts))
      (λ tag s at. struct_part_ready keyword token attrs room tag s at))
      (inl (λ attrs s ts y e. tagged_shrinks true (struct_part keyword token attrs room) no_brace
      (struct_part_falls keyword token attrs room) (struct_part_takes keyword token attrs room) s ts y e))) s ts known

  -- Enumerators.

  -- may be declared here as an enumerator
  record Takes (s : HeldScopes) (name : ℕ) : Type 0 where
    free : is_name (innermost s).held name ≡ false
    may : may_declare (innermost s) name Constant ≡ true

  takes_kept : (s u : HeldScopes) (name : ℕ) → Kept true s u → Takes s name → Takes u name
  takes_kept s u name k t = record { free = rw k.held t.free; may = k.constants name t.may }

  takes_declare : (s : HeldScopes) (name : ℕ) → Takes s name
      → declare name Constant s ≡ Some (with_name (innermost s) name Constant ∷ leave s)
  takes_declare s name t = declare_is name s s t.free t.may (kept_refl true s)

  abbrev declaring : EnumItem → Reader EnumItem
  declaring item s ts = declared item (declare item.name.name Constant s) ts

  declaring_good : (item : EnumItem) (s : HeldScopes) (ts : List Lexeme) → Takes s item.name.name
      → Good true (declaring item) is_close_brace s ts
  declaring_good item s ts t = subst (Outcome true (declaring item) is_close_brace s ts) (sym (is ts)) answer
    where
      after : HeldScopes
      after = with_name (innermost s) item.name.name Constant ∷ leave s

      is : (k : List Lexeme) → declaring item s k ≡ done (found item after k)
      is k = rw (takes_declare s item.name.name t) refl

      answer : Answered true (declaring item) is_close_brace s ts (found item after ts)
      answer = record {
        before = [];
        parts = refl;
        ending = λ h. h;
        keeps = declare_kept item.name.name s after (takes_declare s item.name.name t);
        same = λ k h. is k;
        ended = λ k h. is k;
      }

  declaring_ready : (item : EnumItem) (s : HeldScopes) (at : ℕ) → Takes s item.name.name
      → Ready true (declaring item) is_close_brace is_close_brace s at
  declaring_ready item s at t = record {
    more = [];
    tree = item;
    scopes = with_name (innermost s) item.name.name Constant ∷ leave s;
    keeps = declare_kept item.name.name s (with_name (innermost s) item.name.name Constant ∷ leave s)
        (takes_declare s item.name.name t);
    begins = λ k h. h;
    reads = λ k h. rw (takes_declare s item.name.name t) refl;
  }

  abbrev item_of : Identifier → List Attr → SomeValue → EnumItem
  item_of name attrs value = record { name = name; attrs = attrs; value = value }

  valued_law : (room : ℕ) → room < suc n → Law true (value_with inner is_equal room) is_close_brace is_close_brace
  valued_law room less =
      value_law n inner places laws is_equal room less equal_end is_close_brace is_close_brace
      (λ kind h. h) close_equal close_operand

  -- behind the attributes
  valued_good : (name : Identifier) (attrs : List Attr) (room : ℕ) → room < suc n → (s : HeldScopes) (ts : List Lexeme)
      → Takes s name.name →
      Good true
      (behind (value_with inner is_equal room) (λ value. declaring (item_of name attrs value))) is_close_brace s ts
  valued_good name attrs room less s ts t =
      bind_good true (value_with inner is_equal room)
      (λ value. declaring (item_of name attrs value)) is_close_brace is_close_brace s ts
      (λ value scopes gives at.
      declaring_ready (item_of name attrs value) scopes at (takes_kept s scopes name.name gives.keeps t))
      ((valued_law room less).good s ts)
      (λ x is. declaring_good (item_of name attrs x.tree) x.scopes x.rest (takes_kept s x.scopes name.name (answer_keeps
      true (value_with inner is_equal room) is_close_brace s ts x ((valued_law room less).good s ts) is) t))
      (inr (λ kind h. h))

  valued_ready : (name : Identifier) (attrs : List Attr) (room : ℕ) → room < suc n → (s : HeldScopes) (at : ℕ)
      → Takes s name.name →
      Ready true (behind (value_with inner is_equal room)
      (λ value. declaring (item_of name attrs value))) is_close_brace is_close_brace s at
  valued_ready name attrs room less s at t =
      ready_bind true (value_with inner is_equal room) (λ value. declaring (item_of name attrs value)) is_close_brace
      is_close_brace is_close_brace s at ((valued_law room less).ready s at)
      (λ value scopes gives at.
      declaring_ready (item_of name attrs value) scopes at (takes_kept s scopes name.name gives.keeps t))

  close_attrs : (room : ℕ) → Law true (attrs_at room) is_close_brace is_close_brace
  close_attrs room = attrs_law true room is_close_brace is_close_brace ((λ kind h. h), close_attribute)

  behind_name_good : (name : Identifier) (room : ℕ) → room < suc n → (s : HeldScopes) (ts : List Lexeme)
      → Takes s name.name → Good true (enumerator_behind inner name room) is_close_brace s ts
  unfolding enumerator_behind
  behind_name_good name room less s ts t =
      bind_good true (attrs_at room) (λ attrs. behind (value_with inner is_equal room)
      (λ value. declaring (item_of name attrs value))) is_close_brace is_close_brace s ts
      (λ attrs scopes gives at.
      valued_ready name attrs room less scopes at (takes_kept s scopes name.name gives.keeps t))
      ((close_attrs room).good s ts)
      (λ x is. valued_good name x.tree room less x.scopes x.rest (takes_kept s x.scopes name.name
      (answer_keeps true (attrs_at room) is_close_brace s ts x ((close_attrs room).good s ts) is) t))
      (inr (λ kind h. h))

  behind_name_ready : (name : Identifier) (room : ℕ) → room < suc n → (s : HeldScopes) (at : ℕ) → Takes s name.name
      → Ready true (enumerator_behind inner name room) any is_close_brace s at
  unfolding enumerator_behind
  behind_name_ready name room less s at t =
      ready_before true (behind (attrs_at room) (λ attrs. behind (value_with inner is_equal room)
      (λ value. declaring (item_of name attrs value)))) is_close_brace any is_close_brace is_close_brace s at
      (λ kind h. h) (λ kind h. refl)
      (ready_bind true (attrs_at room) (λ attrs. behind (value_with inner is_equal room)
      (λ value. declaring (item_of name attrs value))) is_close_brace is_close_brace is_close_brace s at
      ((close_attrs room).ready s at)
      (λ attrs scopes gives at.
      valued_ready name attrs room less scopes at (takes_kept s scopes name.name gives.keeps t)))

  enumerator_good : (room : ℕ) → room < suc n → (s : HeldScopes) (ts : List Lexeme)
      → Good true (enumerator_with inner room) is_close_brace s ts
  unfolding enumerator_with enumerator_named and_then
  enumerator_good room less s [] = refused_here true (enumerator_with inner room) is_close_brace s [] Unexpected none
    where
      none : (k : List Lexeme) → first_kind k ≡ None → enumerator_with inner room s k ≡ refuses Unexpected k
      none [] e = refl
      none (t ∷ ts) e = absurd cc
  enumerator_good room less s (t ∷ ts) = by_name (spelled_name t.kind) refl
    where
      kind_is : (u : Lexeme) (us : List Lexeme) → first_kind (u ∷ us) ≡ Some t.kind → u.kind ≡ t.kind
      kind_is u us e = cc

      no_name : spelled_name t.kind ≡ None → (k : List Lexeme) → first_kind k ≡ Some t.kind
          → enumerator_with inner room s k ≡ refuses Unexpected k
      no_name is [] e = absurd cc
      no_name is (u ∷ us) e = rw (kind_is u us e, is) refl

      -- what the reader does at this name
      at_name : (name : ℕ) → spelled_name t.kind ≡ Some name → (u : Lexeme) (us : List Lexeme)
          → first_kind (u ∷ us) ≡ Some t.kind →
          enumerator_with inner room s (u ∷ us) ≡ enumerator_named inner (identifier_of u.at name) room (u ∷ us) s us
      at_name name is u us e =
          let spelled : spelled_name u.kind ≡ Some name = ap spelled_name (kind_is u us e) ∙ is in
          rw spelled refl

      refused : (name : ℕ) (f : FaultKind) → spelled_name t.kind ≡ Some name
          → ((u : Lexeme) (us : List Lexeme)
          → enumerator_named inner (identifier_of u.at name) room (u ∷ us) s us ≡ refuses f (u ∷ us)) →
          Good true (enumerator_with inner room) is_close_brace s (t ∷ ts)
      refused name f is all = refused_here true (enumerator_with inner room) is_close_brace s (t ∷ ts) f each
        where
          each : (k : List Lexeme) → first_kind k ≡ Some t.kind → enumerator_with inner room s k ≡ refuses f k
          each [] e = absurd cc
          each (u ∷ us) e = at_name name is u us e ∙ all u us

      taken : (name : ℕ) → spelled_name t.kind ≡ Some name → Takes s name → 1 ≤ room
          → Good true (enumerator_with inner room) is_close_brace s (t ∷ ts)
      taken name is takes one =
          good_as true (behind take_one (λ token. enumerator_behind inner (identifier_of token name) room))
          (enumerator_with inner room) is_close_brace s (t ∷ ts) same
          (inl (λ x e. enumerator_shrinks [] none_tokens n inner laws room s (t ∷ ts) x (same (t ∷ ts) refl ∙ e)))
          (bind_good true take_one
          (λ token. enumerator_behind inner (identifier_of token name) room) any is_close_brace s (t ∷ ts)
          (λ token scopes gives at.
          behind_name_ready (identifier_of token name) room less scopes at (takes_kept s scopes name gives.keeps takes))
          (take_good true any s (t ∷ ts) (name_end t.kind name is))
          (λ x e. behind_name_good (identifier_of x.tree name) room less x.scopes x.rest
          (takes_kept s x.scopes name (answer_keeps true take_one any s (t ∷ ts) x
          (take_good true any s (t ∷ ts) (name_end t.kind name is)) e) takes))
          (inr (λ kind h. refl)))
        where
          same : (k : List Lexeme) → first_kind k ≡ Some t.kind
              → enumerator_with inner room s k
              ≡ behind take_one (λ token. enumerator_behind inner (identifier_of token name) room) s k
          same [] e = absurd cc
          same (u ∷ us) e =
              at_name name is u us e ∙ rw (takes.may, takes.free)
              (fits_is 1 room (u ∷ us) (enumerator_behind inner (identifier_of u.at name) room s us) one)

      by_room : (name : ℕ) → spelled_name t.kind ≡ Some name → Takes s name → (b : Bool) → nat_le 1 room ≡ b
          → Good true (enumerator_with inner room) is_close_brace s (t ∷ ts)
      by_room name is takes true fit = taken name is takes (leb-true 1 room fit)
      by_room name is takes false none =
          refused name TooDeep is (λ u us. rw (takes.may, takes.free)
          (fits_not 1 room (u ∷ us) (enumerator_behind inner (identifier_of u.at name) room s us) none))

      by_held : (name : ℕ) → spelled_name t.kind ≡ Some name → may_declare (innermost s) name Constant ≡ true
          → (b : Bool) → is_name (innermost s).held name ≡ b
          → Good true (enumerator_with inner room) is_close_brace s (t ∷ ts)
      by_held name is may true held = refused name Unexpected is (λ u us. rw (may, held) refl)
      by_held name is may false free = by_room name is (record { free = free; may = may }) (nat_le 1 room) refl

      by_may : (name : ℕ) → spelled_name t.kind ≡ Some name → (b : Bool) → may_declare (innermost s) name Constant ≡ b
          → Good true (enumerator_with inner room) is_close_brace s (t ∷ ts)
      by_may name is false may = refused name Redeclared is (λ u us. rw may refl)
      by_may name is true may = by_held name is may (is_name (innermost s).held name) refl

      by_name : (o : Option ℕ) → spelled_name t.kind ≡ o
          → Good true (enumerator_with inner room) is_close_brace s (t ∷ ts)
      by_name None is = refused_here true (enumerator_with inner room) is_close_brace s (t ∷ ts) Unexpected (no_name is)
      by_name (Some name) is = by_may name is (may_declare (innermost s) name Constant) refl

  -- a fresh name is one
  enumerator_ready : (room : ℕ) → room < suc n → 1 ≤ room → (s : HeldScopes) (at : ℕ)
      → Ready true (enumerator_with inner room) any is_close_brace s at
  unfolding enumerator_with enumerator_named and_then
  enumerator_ready room less one s at =
      let free = fresh_free s in
      let takes : Takes s (fresh s) = record { free = free.not_held; may = free_may s (fresh s) Constant free } in
      let r = behind_name_ready (identifier_of at (fresh s)) room less s (suc at) takes in
      record {
        more = kinds.Name (fresh s) ∷ r.more;
        tree = r.tree;
        scopes = r.scopes;
        keeps = r.keeps;
        begins = λ k h. refl;
        reads = λ k h. rw (takes.may, takes.free) (fits_is 1 room _ _ one ∙ r.reads k h);
      }

  next_enumerator_law : (room : ℕ) → room < suc n → (comma : ℕ)
      → Law true (next_enumerator inner room comma) any is_close_brace
  unfolding next_enumerator
  next_enumerator_law room less comma = record {
    good = λ s ts.
        if_good true (λ s. is_close_brace) (ends (list_end comma))
        (behind (enumerator_with inner room) (λ x. ends (one_more x))) is_close_brace s ts
        (λ is. ends_good true (list_end comma) is_close_brace s ts) (λ is.
        mapped_good true (enumerator_with inner room) one_more is_close_brace s ts (enumerator_good room less s ts))
        (λ is. inr (λ kind h. h))
        (λ is. inl (λ x e. let a = bind_ok e in
        omega (arith, enumerator_shrinks [] none_tokens n inner laws room s ts a.0 a.1, left_is a.2)));
    ready = λ s at. record {
      more = [];
      tree = list_end comma;
      scopes = s;
      keeps = kept_refl true s;
      begins = λ k h. refl;
      reads = λ k h. rw h refl;
    };
  }

  abbrev enumerators_rest : ℕ → ℕ → Reader SomeEnumBody
  enumerators_rest room opening =
      behind (listed (enumerator_with inner (room - 1)) (next_enumerator inner (room - 1)))
      (λ es. behind (token_at is_close_brace) (λ closing.
      ends (some_enum_body opening (enumerators_from es.items) es.ending closing)))

  enumerators_good : (room : ℕ) → room < suc n → (s : HeldScopes) (ts : List Lexeme) → is_open_brace (kind_at ts) ≡ true
      → Good true (enumerators_with inner room) any s ts
  unfolding enumerators_with
  enumerators_good room less s ts is =
      node_good true 2 room (enumerators_rest room) any (λ two opening.
      bind_law true (listed (enumerator_with inner (room - 1)) (next_enumerator inner (room - 1)))
      (λ es. behind (token_at is_close_brace)
      (λ closing. ends (some_enum_body opening (enumerators_from es.items) es.ending closing))) any is_close_brace any
      (listed_law true (next_enumerator inner (room - 1)) (next_enumerator_falls [] none_tokens n inner laws (room - 1))
      is_close_brace is_close_brace (λ kind h. h) close_comma (next_enumerator_law (room - 1) (omega (arith, less)))
      (enumerator_with inner (room - 1)) any (record {
        good = λ s ts. enumerator_good (room - 1) (omega (arith, less)) s ts;
        ready = λ s at. enumerator_ready (room - 1) (omega (arith, less)) (omega (arith, two)) s at;
      })) (λ es. bind_law true (token_at is_close_brace)
      (λ closing. ends (some_enum_body opening (enumerators_from es.items) es.ending closing)) is_close_brace any any
      (token_law true is_close_brace (kinds.Punct puncts.CloseBrace) is_close_brace close_brace_end refl refl)
      (λ closing. ends_law true (some_enum_body opening (enumerators_from es.items) es.ending closing) any any
      (λ kind h. h)) (inr (λ kind h. h))) (inl (λ es s ts y e. token_then_shrinks is_close_brace
      (λ closing. some_enum_body opening (enumerators_from es.items) es.ending closing) s ts y e))) s ts
      (open_brace_end (kind_at ts) is)

  enumerators_shrinks : (room : ℕ) → Shrinks (enumerators_with inner room)
  unfolding enumerators_with
  enumerators_shrinks room s ts x e =
      let r = fits_ok 2 room ts e in
      let a = bind_ok r.1 in
      let b = bind_ok a.2 in
      let c = bind_ok b.2 in
      omega (
        arith,
        take_falls _ _ _ a.1,
        listed_shrinks (enumerator_with inner (room - 1)) (next_enumerator inner (room - 1))
            (next_enumerator_falls [] none_tokens n inner laws (room - 1))
            (enumerator_shrinks [] none_tokens n inner laws (room - 1)) _ _ _ b.1,
        token_falls is_close_brace _ _ _ c.1,
        left_is c.2,
      )

  enum_body_good : (tag : Option Identifier) (room : ℕ) → room < suc n → (s : HeldScopes) (ts : List Lexeme)
      → Good true (enum_body_with inner tag room) no_brace s ts
  unfolding enum_body_with
  enum_body_good tag room less s ts =
      if_good true (λ s. is_open_brace) (enumerators_with inner room) (without_body tag no_enum_body) no_brace s ts
      (λ is. good_before true (enumerators_with inner room) any no_brace s ts (λ kind h. refl)
      (enumerators_good room less s ts is))
      (λ is. without_good tag no_enum_body no_brace s ts)
      (λ is. inl (λ x e. enumerators_shrinks room s ts x e))
      (λ is. inr no_brace_is)

  abbrev enum_part : ℕ → List Attr → ℕ → Option Identifier → Reader SpecWord
  enum_part token attrs room tag =
      behind (enum_body_with inner tag room) (λ body. ends (enum_type (enum_of token attrs tag body)))

  enum_part_falls : (token : ℕ) (attrs : List Attr) (room : ℕ) (tag : Option Identifier)
      → Falls (enum_part token attrs room tag)
  enum_part_falls token attrs room tag s ts x e =
      let a = bind_ok e in
      omega (arith, enum_body_falls [] none_tokens n inner laws tag room s ts a.0 a.1, left_is a.2)

  enum_part_takes : (token : ℕ) (attrs : List Attr) (room : ℕ) → Shrinks (enum_part token attrs room None)
  unfolding enum_body_with
  enum_part_takes token attrs room s ts x e =
      let a = bind_ok e in
      let less : length a.0.rest < length ts =
      if_ok (is_open_brace (kind_at ts)) a.1 (λ is e. enumerators_shrinks room s ts a.0 e) (λ is e. absurd cc) in
      omega (arith, less, left_is a.2)

  enum_part_ready : (token : ℕ) (attrs : List Attr) (room : ℕ) (tag : Identifier) (s : HeldScopes) (at : ℕ)
      → Ready true (enum_part token attrs room (Some tag)) any no_brace s at
  unfolding enum_body_with
  enum_part_ready token attrs room tag s at =
      mapped_ready true (enum_body_with inner (Some tag) room)
      (λ body. enum_type (enum_of token attrs (Some tag) body)) any no_brace s at
      (record {
        more = [];
        tree = no_enum_body;
        scopes = s;
        keeps = kept_refl true s;
        begins = λ k h. refl;
        reads = λ k h. rw (no_brace_is (kind_at k) h) refl;
      })

  pub enum_good : (room : ℕ) → room < suc n → (s : HeldScopes) (ts : List Lexeme) → is_end (kind_at ts) ≡ false
      → Good true (enum_with inner room) no_brace s ts
  unfolding enum_with
  enum_good room less s ts known =
      take_behind true (λ token. behind (attrs_at room) (λ attrs. behind tag_at (enum_part token attrs room))) no_brace
      (λ token. bind_law true (attrs_at room) (λ attrs. behind tag_at (enum_part token attrs room)) any is_name_kind
      no_brace (attrs_law true room any is_name_kind ((λ kind h. refl), name_attribute)) (λ attrs. tagged_law true
      (enum_part token attrs room) no_brace (enum_part_falls token attrs room) (enum_part_takes token attrs room)
      (λ tag s ts. mapped_good true (enum_body_with inner tag room) (λ body. enum_type (enum_of token attrs tag body))
      no_brace s ts (enum_body_good tag room less s ts)) (λ tag s at. enum_part_ready token attrs room tag s at))
      (inl (λ attrs s ts y e. tagged_shrinks true (enum_part token attrs room) no_brace
      (enum_part_falls token attrs room) (enum_part_takes token attrs room) s ts y e))) s ts known
