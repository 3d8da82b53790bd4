-- Members of structs and unions.
use Rattle.std.proofs.Common.{◌≡◌, ℕ, suc, ◌<◌, ◌≤◌, Bool, true, false, if◌then◌else◌, List, [], ◌∷◌, length, inl, inr, Option, None, refl, sym, subst, arith}
use Rattle.std.specs.Prelude.{◌-◌, not, nat_le}
use Rattle.std.proofs.lemmas.Bool.{leb-true, leb-false}
use Rattle.c_words.specs.declared.kinds.TokenKind.{TokenKind}
use Rattle.c_words.specs.declared.kinds.TokenKind.TheVariants as kinds
use Rattle.c_words.specs.declared.kinds.Punct.TheVariants as puncts
use Rattle.c_words.specs.declared.kinds.Keyword.TheVariants as keywords
use Rattle.c_tree.specs.declared.lexeme.Lexeme.{Lexeme}
use Rattle.c_tree.specs.Tree.{SpecWords, no_words, SomeBody, some_body, StructItem, member, member_semi, member_assert, MemDeclr, named, unnamed, SomeValue, no_value, some_value, Declr, SomeDeclr, some_declr}
use Rattle.typedef_scope.specs.declared.kind.Kind.{Kind}
use Rattle.c_units.specs.HeldScopes.{HeldScopes}
use Rattle.c_reading.specs.declared.kinds.FaultKind.TheVariants.{Unexpected}
use Rattle.c_reading.specs.declared.kinds.Reach.{Reach}
use Rattle.c_reading.specs.declared.kinds.Reach.TheVariants.{Conditional}
use Rattle.c_reading.specs.declared.kinds.Role.{Role}
use Rattle.c_reading.specs.declared.kinds.Role.TheVariants.{Declaring, Typed, Naming}
use Rattle.c_reading.specs.declared.kinds.Mode.TheVariants.{Named}
use Rattle.c_reading.specs.Reading.{Found, Reader, ends, refuses, fits, kind_at, take_one, token_at, repeated, listed, one_more, is_comma}
use Rattle.c_reading.specs.Tokens.{is_end, is_semicolon, is_colon, is_attribute, is_extension, is_open_brace, is_close_brace, is_static_assert, extensions_at, attrs_at, assert_at}
use Rattle.c_reading.specs.Parts.{Inner, nothing, Declared, struct_items_from, mem_declrs_from}
use Rattle.c_reading.specs.Specifying.{begins_role, present, specs_here, value_with, named_declr, width_with, field_with, mem_declr_with, first_member, next_member, mem_declrs_with, member_with, struct_item_with, members_with}
use Rattle.c_reading.proofs.Binding.{found, done, bind_ok, fits_ok, if_ok, take_falls, token_falls}
use Rattle.c_reading.proofs.Forms.{Shrinks}
use Rattle.c_reading.proofs.Rows.{repeated_falls}
use Rattle.c_reading.proofs.Commas.{listed_shrinks}
use Rattle.c_reading.proofs.KnotLaws.{none_tokens}
use Rattle.c_reading.proofs.Shared.{specs_here_shrinks}
use Rattle.c_reading.proofs.SpecsFalls.{mem_declr_shrinks, first_member_shrinks, next_member_falls, mem_declrs_falls, struct_item_shrinks}
use Rattle.c_reading.proofs.Aims.{Laws}
use Rattle.reading_steps.specs.Steps.{any, Good, Ready, Law}
use Rattle.reading_steps.specs.Stops.{is_int, is_number, is_name_kind, stops_operand, stops_expr, stops_specs, stops_named}
use Rattle.reading_steps.specs.InnerLaws.{InnerLaws, holds_none}
use Rattle.reading_steps.proofs.Keeping.{kept_refl}
use Rattle.reading_steps.proofs.Steps.{behind, refused_here, ends_good, if_good, fits_good, ready_fits, ready_ends, ready_as, ready_bind, bind_good, bind_law, take_behind, ends_law, token_law, good_before, ready_before, law_before}
use Rattle.reading_steps.proofs.Lists.{repeated_law, listed_good}
use Rattle.token_places.proofs.Single.{semicolon_end, colon_end, open_brace_end, close_brace_end, mapped_good, mapped_law}
use Rattle.token_places.proofs.Groups.{assert_law}
use Rattle.token_places.proofs.Rows.{extensions_law, attrs_law}
use Rattle.decl_places.proofs.Helping.{then_is, else_is, left_is, token_then_shrinks, repeated_room, behind_good, never_behind, node_good}

-- What a semicolon, a closing brace, a first word are not.

semi_operand : (kind : TokenKind) → is_semicolon kind ≡ true → stops_operand kind ≡ true
semi_operand (kinds.Punct puncts.Semicolon) h = refl
semi_operand kind h = absurd cc

semi_named : (kind : TokenKind) → is_semicolon kind ≡ true → stops_named kind ≡ true
semi_named (kinds.Punct puncts.Semicolon) h = refl
semi_named kind h = absurd cc

semi_specs : (kind : TokenKind) → is_semicolon kind ≡ true → stops_specs kind ≡ true
semi_specs (kinds.Punct puncts.Semicolon) h = refl
semi_specs kind h = absurd cc

semi_colon : (kind : TokenKind) → is_semicolon kind ≡ true → is_colon kind ≡ false
semi_colon (kinds.Punct puncts.Semicolon) h = refl
semi_colon kind h = absurd cc

semi_attribute : (kind : TokenKind) → is_semicolon kind ≡ true → is_attribute kind ≡ false
semi_attribute (kinds.Punct puncts.Semicolon) h = refl
semi_attribute kind h = absurd cc

semi_comma : (kind : TokenKind) → is_semicolon kind ≡ true → is_comma kind ≡ false
semi_comma (kinds.Punct puncts.Semicolon) h = refl
semi_comma kind h = absurd cc

-- `int` begins the specifiers of each role
int_begins : (role : Role) (s : HeldScopes) (kind : TokenKind) → is_int kind ≡ true → begins_role role s kind ≡ true
int_begins Declaring s (kinds.Keyword keywords.Int) h = refl
int_begins Typed s (kinds.Keyword keywords.Int) h = refl
int_begins Naming s (kinds.Keyword keywords.Int) h = refl
int_begins role s kind h = absurd cc

int_extension : (kind : TokenKind) → is_int kind ≡ true → is_extension kind ≡ false
int_extension (kinds.Keyword keywords.Int) h = refl
int_extension kind h = absurd cc

pub name_colon : (kind : TokenKind) → is_name_kind kind ≡ true → is_colon kind ≡ false
name_colon (kinds.Name name) h = refl
name_colon kind h = absurd cc

pub name_attribute : (kind : TokenKind) → is_name_kind kind ≡ true → is_attribute kind ≡ false
name_attribute (kinds.Name name) h = refl
name_attribute kind h = absurd cc

not_close : (kind : TokenKind) → is_close_brace kind ≡ true → not (is_close_brace kind) ≡ false
not_close kind h = rw h refl

present_ready : (keep : Bool) (d : SomeDeclr) (it : Declr) (front stops : TokenKind → Bool)
    → ((kind : TokenKind) → stops kind ≡ true → front kind ≡ true) → d ≡ some_declr it → (s : HeldScopes) (at : ℕ) →
    Ready keep (present d) front stops s at
present_ready keep d it front stops h e s at =
    subst (λ (d : SomeDeclr). Ready keep (present d) front stops s at) (sym e) (ready_ends keep it front stops s at h)

pub present_good : (keep : Bool) (d : SomeDeclr) (stops : TokenKind → Bool) (s : HeldScopes) (ts : List Lexeme)
    → (it : Declr) → d ≡ some_declr it → Good keep (present d) stops s ts
present_good keep d stops s ts it e =
    subst (λ (d : SomeDeclr). Good keep (present d) stops s ts) (sym e) (ends_good keep it stops s ts)

module _ (n : ℕ) (inner : Inner) (places : InnerLaws n inner) (laws : Laws [] n inner) where
  -- an expression inside, before some of the tokens that end one
  pub expr_law : (reach : Reach) (room : ℕ) → room < n → 1 ≤ room → (front stops : TokenKind → Bool)
      → ((kind : TokenKind) → is_number kind ≡ true → front kind ≡ true) →
      ((kind : TokenKind) → stops kind ≡ true → stops_expr reach kind ≡ true)
      → Law true (inner.expr reach nothing room) front stops
  expr_law reach room less one front stops f h =
      law_before true (inner.expr reach nothing room) is_number front (stops_expr reach) stops h f
      (record {
        good = λ s ts. places.exprs.good reach nothing room less s ts;
        ready = λ s at. places.exprs.ready reach nothing room less (omega (arith, one)) s at;
      })

  pub specs_here_good : (role : Role) (room : ℕ) → room < suc n → (s : HeldScopes) (ts : List Lexeme)
      → Good true (specs_here inner role room) stops_specs s ts
  unfolding specs_here
  specs_here_good role room less s ts =
      if_good true (begins_role role) (λ s ts. fits 2 room ts (inner.specs role no_words (room - 1) s ts))
      (λ s ts. refuses Unexpected ts) stops_specs s ts
      (λ is. fits_good true 2 room (inner.specs role no_words (room - 1)) stops_specs s ts (λ fit.
      places.words.good role no_words (room - 1) (omega (arith, less, fit)) s ts))
      (λ is. refused_here true (λ s ts. refuses Unexpected ts) stops_specs s ts Unexpected (λ k e. refl))
      (λ is. inl (λ x e. laws.words.shrinks role (room - 1) s ts x (fits_ok 2 room ts e).1))
      (λ is. inl (λ x e. absurd cc))

  pub specs_here_ready : (role : Role) (room : ℕ) → room < suc n → 2 ≤ room → (s : HeldScopes) (at : ℕ)
      → Ready true (specs_here inner role room) is_int stops_specs s at
  unfolding specs_here
  specs_here_ready role room less two s at =
      ready_as true (λ s ts. fits 2 room ts (inner.specs role no_words (room - 1) s ts))
      (specs_here inner role room) is_int stops_specs s at (λ k h. rw (int_begins role s (kind_at k) h) refl)
      (ready_fits true 2 room (inner.specs role no_words (room - 1)) is_int stops_specs s at two
      (places.words.begins role (room - 1) (omega (arith, less, two)) (omega (arith, two)) s at))

  -- [sign cond]
  pub value_law : (test : TokenKind → Bool) (room : ℕ) → room < suc n
      → ((kind : TokenKind) → test kind ≡ true → is_end kind ≡ false) → (front stops : TokenKind → Bool) →
      ((kind : TokenKind) → stops kind ≡ true → front kind ≡ true)
      → ((kind : TokenKind) → stops kind ≡ true → test kind ≡ false)
      → ((kind : TokenKind) → stops kind ≡ true → stops_operand kind ≡ true) →
      Law true (value_with inner test room) front stops
  unfolding value_with
  value_law test room less known front stops fronts off operand = record {
    good = λ s ts.
        if_good true (λ s. test) (λ s ts. fits 2 room ts (behind take_one some_part s ts)) (ends no_value) stops s ts
        (λ is. node_good true 2 room some_part stops some_law s ts (known (kind_at ts) is))
        (λ is. ends_good true no_value stops s ts)
        (λ is. inl (λ x e. some_shrinks s ts x e))
        (λ is. inr off);
    ready = λ s at.
        ready_before true (value_with inner test room) stops front stops stops s at (λ kind h. h) fronts
        (ready_as true (ends no_value) (value_with inner test room) stops stops s at
        (λ k h. rw (off (kind_at k) h) refl) (ready_ends true no_value stops stops s at (λ kind h. h)));
  }
    where
      some_part : ℕ → Reader SomeValue
      some_part token = behind (inner.expr Conditional nothing (room - 1)) (λ e. ends (some_value token e))

      some_law : 2 ≤ room → (token : ℕ) → Law true (some_part token) any stops
      some_law two token =
          mapped_law true (inner.expr Conditional nothing (room - 1)) (some_value token) any stops
          (expr_law Conditional (room - 1) (omega (arith, less, two)) (omega (arith, two)) any stops
          (λ kind h. refl) operand)

      some_shrinks : Shrinks (λ s ts. fits 2 room ts (behind take_one some_part s ts))
      some_shrinks s ts x e =
          let a = bind_ok (fits_ok 2 room ts e).1 in
          let b = bind_ok a.2 in
          omega (arith, take_falls _ _ _ a.1, laws.exprs.shrinks _ _ _ _ _ _ b.1, left_is b.2)

  named_there : (wanted : Option Kind) (flag : Bool) (room : ℕ) (s : HeldScopes) (ts : List Lexeme) (x : Found Declared)
      → inner.declr Named wanted flag room s ts ≡ done x → (d : Declr) × (x.tree.declr ≡ some_declr d)
  named_there wanted flag room s ts x e =
      places.declrs.there Named wanted flag room s ts x e (laws.declrs.shrinks wanted flag room s ts x e)

  -- A declarator with a name.
  pub named_declr_good : (wanted : Option Kind) (room : ℕ) → room < n → (s : HeldScopes) (ts : List Lexeme)
      → Good (holds_none wanted) (named_declr inner wanted room) stops_named s ts
  unfolding named_declr
  named_declr_good wanted room less s ts =
      bind_good (holds_none wanted) (inner.declr Named wanted false room)
      (λ d. present d.declr) stops_named stops_named s ts
      (λ tree scopes gives at.
      let h = gives.reads (record { kind = kinds.Punct puncts.Semicolon; at = 0 } ∷ []) refl in
      let d = named_there wanted false room s h.0
      (found tree scopes (record { kind = kinds.Punct puncts.Semicolon; at = 0 } ∷ [])) h.1 in
      present_ready (holds_none wanted) tree.declr d.0 stops_named stops_named (λ kind h. h) d.1 scopes at)
      (places.declrs.good Named wanted false room less s ts)
      (λ x is. let d = named_there wanted false room s ts x is in
      present_good (holds_none wanted) x.tree.declr stops_named x.scopes x.rest d.0 d.1)
      (inr (λ kind h. h))

  pub named_declr_ready : (wanted : Option Kind) (room : ℕ) → room < n → 1 ≤ room → (s : HeldScopes) (at : ℕ)
      → Ready (holds_none wanted) (named_declr inner wanted room) is_name_kind stops_named s at
  unfolding named_declr
  named_declr_ready wanted room less one s at =
      ready_bind (holds_none wanted) (inner.declr Named wanted false room) (λ d. present d.declr) is_name_kind
      stops_named stops_named s at (places.declrs.named wanted false room less one s at)
      (λ tree scopes gives at.
      let h = gives.reads (record { kind = kinds.Punct puncts.Semicolon; at = 0 } ∷ []) refl in
      let d = named_there wanted false room s h.0
      (found tree scopes (record { kind = kinds.Punct puncts.Semicolon; at = 0 } ∷ [])) h.1 in
      present_ready (holds_none wanted) tree.declr d.0 stops_named stops_named (λ kind h. h) d.1 scopes at)

  -- one was read, so there was room for it
  pub named_declr_room : (wanted : Option Kind) (room : ℕ) (s : HeldScopes) (ts : List Lexeme) (x : Found Declr)
      → named_declr inner wanted room s ts ≡ done x → 1 ≤ room
  unfolding named_declr
  named_declr_room wanted room s ts x e =
      let a = bind_ok e in
      places.declrs.room Named wanted false room s ts a.0 a.1 (laws.declrs.shrinks wanted false room s ts a.0 a.1)

  -- attributes behind a part, before a semicolon
  semi_attrs : (room : ℕ) → Law true (attrs_at room) is_semicolon is_semicolon
  semi_attrs room = attrs_law true room is_semicolon is_semicolon ((λ kind h. h), semi_attribute)

  width_good : (room : ℕ) → room < suc n → (s : HeldScopes) (ts : List Lexeme) → is_colon (kind_at ts) ≡ true
      → Good true (width_with inner room) is_semicolon s ts
  unfolding width_with
  width_good room less s ts is =
      node_good true 2 room (λ colon. behind (inner.expr Conditional nothing (room - 1))
      (λ e. behind (attrs_at room) (λ attrs. ends (unnamed colon e attrs)))) is_semicolon
      (λ two colon. bind_law true (inner.expr Conditional nothing (room - 1))
      (λ e. behind (attrs_at room) (λ attrs. ends (unnamed colon e attrs))) any is_semicolon is_semicolon
      (expr_law Conditional (room - 1) (omega (arith, less, two)) (omega (arith, two)) any is_semicolon
      (λ kind h. refl) semi_operand) (λ e. mapped_law true (attrs_at room) (unnamed colon e) is_semicolon is_semicolon
      (semi_attrs room)) (inr (λ kind h. h))) s ts (colon_end (kind_at ts) is)

  -- behind the declarator
  abbrev field_rest : ℕ → Declr → Reader MemDeclr
  field_rest room d =
      behind (value_with inner is_colon room) (λ width. behind (attrs_at room) (λ attrs. ends (named d width attrs)))

  field_rest_law : (room : ℕ) → room < suc n → (d : Declr) → Law true (field_rest room d) is_semicolon is_semicolon
  field_rest_law room less d =
      bind_law true (value_with inner is_colon room)
      (λ width. behind (attrs_at room) (λ attrs. ends (named d width attrs))) is_semicolon is_semicolon is_semicolon
      (value_law is_colon room less colon_end is_semicolon is_semicolon (λ kind h. h) semi_colon semi_operand)
      (λ width. mapped_law true (attrs_at room) (named d width) is_semicolon is_semicolon (semi_attrs room))
      (inr (λ kind h. h))

  field_good : (room : ℕ) → room < suc n → 1 ≤ room → (s : HeldScopes) (ts : List Lexeme)
      → Good true (field_with inner room) is_semicolon s ts
  unfolding field_with
  field_good room less one s ts =
      behind_good true (named_declr inner None (room - 1)) (field_rest room) is_semicolon is_semicolon s ts
      (good_before true (named_declr inner None (room - 1)) stops_named is_semicolon s ts semi_named
      (named_declr_good None (room - 1) (omega (arith, less, one)) s ts)) (field_rest_law room less) (inr (λ kind h. h))

  pub mem_declr_good : (room : ℕ) → room < suc n → 1 ≤ room → (s : HeldScopes) (ts : List Lexeme)
      → Good true (mem_declr_with inner room) is_semicolon s ts
  unfolding mem_declr_with
  mem_declr_good room less one s ts =
      if_good true (λ s. is_colon) (width_with inner room) (field_with inner room) is_semicolon s ts
      (λ is. width_good room less s ts is) (λ is. field_good room less one s ts)
      (λ is. inl (λ x e.
      mem_declr_shrinks [] none_tokens n inner laws room s ts x (then_is (is_colon (kind_at ts)) _ is e)))
      (λ is. inl (λ x e.
      mem_declr_shrinks [] none_tokens n inner laws room s ts x (else_is (is_colon (kind_at ts)) _ is e)))

  -- one that was read has two levels at least
  mem_declr_room : (room : ℕ) (s : HeldScopes) (ts : List Lexeme) (x : Found MemDeclr)
      → mem_declr_with inner room s ts ≡ done x → 2 ≤ room
  unfolding mem_declr_with width_with field_with
  mem_declr_room room s ts x e =
      if_ok (is_colon (kind_at ts)) e (λ is e. (fits_ok 2 room ts e).0)
      (λ is e. let a = bind_ok e in let one = named_declr_room None (room - 1) s ts a.0 a.1 in omega (arith, one))

  -- a name is one
  mem_declr_ready : (room : ℕ) → room < suc n → 2 ≤ room → (s : HeldScopes) (at : ℕ)
      → Ready true (mem_declr_with inner room) is_name_kind is_semicolon s at
  unfolding mem_declr_with field_with
  mem_declr_ready room less two s at =
      ready_as true (behind (named_declr inner None (room - 1)) (field_rest room))
      (mem_declr_with inner room) is_name_kind is_semicolon s at (λ k h. rw (name_colon (kind_at k) h) refl)
      (ready_bind true (named_declr inner None (room - 1)) (field_rest room) is_name_kind is_semicolon is_semicolon s at
      (ready_before true (named_declr inner None (room - 1)) is_name_kind is_name_kind stops_named is_semicolon s at
      semi_named (λ kind h. h) (named_declr_ready None (room - 1) (omega (arith, less, two)) (omega (arith, two)) s at))
      (λ tree scopes gives at. (field_rest_law room less tree).ready scopes at))

  first_member_good : (room : ℕ) → room < suc n → 1 ≤ room → (s : HeldScopes) (ts : List Lexeme)
      → Good true (first_member inner room) is_semicolon s ts
  unfolding first_member
  first_member_good room less one s ts =
      mapped_good true (mem_declr_with inner room) (λ d. record { attrs = []; declr = d }) is_semicolon s ts
      (mem_declr_good room less one s ts)

  -- Attr* MemDeclr, behind a comma
  next_member_law : (room : ℕ) → room < suc n → 2 ≤ room → (comma : ℕ)
      → Law true (next_member inner room comma) any is_semicolon
  unfolding next_member
  next_member_law room less two comma =
      bind_law true (attrs_at room) (λ attrs. behind (mem_declr_with inner room)
      (λ d. ends (one_more (record { attrs = attrs; declr = d })))) any is_name_kind is_semicolon
      (attrs_law true room any is_name_kind ((λ kind h. refl), name_attribute))
      (λ attrs. mapped_law true (mem_declr_with inner room)
      (λ d. one_more (record { attrs = attrs; declr = d })) is_name_kind is_semicolon
      (record {
        good = λ s ts. mem_declr_good room less (omega (arith, two)) s ts;
        ready = λ s at. mem_declr_ready room less two s at;
      }))
      (inl (λ attrs s ts y e. let a = bind_ok e in
      omega (arith, mem_declr_shrinks [] none_tokens n inner laws room s ts a.0 a.1, left_is a.2)))

  members_listed : (room : ℕ) → room < suc n → 1 ≤ room → (s : HeldScopes) (ts : List Lexeme)
      → Good true (listed (first_member inner room) (next_member inner room)) is_semicolon s ts
  unfolding listed first_member
  members_listed room less one s ts = by_room (nat_le 2 room) refl
    where
      by_room : (b : Bool) → nat_le 2 room ≡ b
          → Good true (listed (first_member inner room) (next_member inner room)) is_semicolon s ts
      by_room true is =
          listed_good true (next_member inner room) (next_member_falls [] none_tokens n inner laws room) is_semicolon
          is_semicolon (λ kind h. h) semi_comma (next_member_law room less (leb-true 2 room is))
          (first_member inner room) s ts (first_member_good room less one s ts)
      by_room false is =
          never_behind true (first_member inner room) _ is_semicolon is_semicolon
          (kinds.Punct puncts.Semicolon) refl s ts
          (λ k x e. let a = bind_ok e in let two = mem_declr_room room s k a.0 a.1 in let none = leb-false 2 room is in
          absurd (omega (arith, two, none))) (first_member_good room less one s ts)

  mem_declrs_law : (room : ℕ) → room < suc n → 1 ≤ room → Law true (mem_declrs_with inner room) stops_specs is_semicolon
  unfolding mem_declrs_with
  mem_declrs_law room less one = record {
    good = λ s ts.
        if_good true (λ s. is_semicolon) (ends [])
        (behind (listed (first_member inner room) (next_member inner room)) (λ ds. ends ds.items)) is_semicolon s ts
        (λ is. ends_good true [] is_semicolon s ts)
        (λ is. mapped_good true (listed (first_member inner room) (next_member inner room))
        (λ ds. ds.items) is_semicolon s ts (members_listed room less one s ts))
        (λ is. inr (λ kind h. h))
        (λ is. inl (λ x e. let a = bind_ok e in
        omega (
          arith,
          listed_shrinks (first_member inner room) (next_member inner room)
              (next_member_falls [] none_tokens n inner laws room)
              (first_member_shrinks [] none_tokens n inner laws room) s ts a.0 a.1,
          left_is a.2,
        )));
    ready = λ s at. record {
      more = [];
      tree = [];
      scopes = s;
      keeps = kept_refl true s;
      begins = λ k h. semi_specs (kind_at k) h;
      reads = λ k h. rw h refl;
    };
  }

  -- behind the words of a member
  abbrev member_rest : List ℕ → ℕ → SpecWords → Reader StructItem
  member_rest exts room words =
      behind (mem_declrs_with inner (room - 1))
      (λ ds. behind (token_at is_semicolon) (λ semi. ends (member exts words (mem_declrs_from ds) semi)))

  member_rest_law : (exts : List ℕ) (room : ℕ) → room < suc n → 2 ≤ room → (words : SpecWords)
      → Law true (member_rest exts room words) stops_specs any
  member_rest_law exts room less two words =
      bind_law true (mem_declrs_with inner (room - 1)) (λ ds. behind (token_at is_semicolon)
      (λ semi. ends (member exts words (mem_declrs_from ds) semi))) stops_specs is_semicolon any
      (mem_declrs_law (room - 1) (omega (arith, less, two)) (omega (arith, two)))
      (λ ds. bind_law true (token_at is_semicolon)
      (λ semi. ends (member exts words (mem_declrs_from ds) semi)) is_semicolon any any
      (token_law true is_semicolon (kinds.Punct puncts.Semicolon) is_semicolon semicolon_end refl refl)
      (λ semi. ends_law true (member exts words (mem_declrs_from ds) semi) any any (λ kind h. h)) (inr (λ kind h. h)))
      (inl (λ ds s ts y e.
      token_then_shrinks is_semicolon (λ semi. member exts words (mem_declrs_from ds) semi) s ts y e))

  member_rest_shrinks : (exts : List ℕ) (room : ℕ) (words : SpecWords) → Shrinks (member_rest exts room words)
  member_rest_shrinks exts room words s ts y e =
      let a = bind_ok e in
      let b = bind_ok a.2 in
      omega (
        arith,
        mem_declrs_falls [] none_tokens n inner laws (room - 1) s ts a.0 a.1,
        token_falls is_semicolon _ _ _ b.1,
        left_is b.2,
      )

  -- specifiers that were read had room for two levels
  pub specs_here_room : (role : Role) (room : ℕ) (s : HeldScopes) (ts : List Lexeme) (x : Found SpecWords)
      → specs_here inner role room s ts ≡ done x → 2 ≤ room
  unfolding specs_here
  specs_here_room role room s ts x e =
      if_ok (begins_role role s (kind_at ts)) e (λ is e. (fits_ok 2 room ts e).0) (λ is e. absurd cc)

  behind_exts_good : (exts : List ℕ) (room : ℕ) → room < suc n → (s : HeldScopes) (ts : List Lexeme)
      → Good true (behind (specs_here inner Typed room) (member_rest exts room)) any s ts
  behind_exts_good exts room less s ts = by_room (nat_le 2 room) refl
    where
      by_room : (b : Bool) → nat_le 2 room ≡ b
          → Good true (behind (specs_here inner Typed room) (member_rest exts room)) any s ts
      by_room true is =
          behind_good true (specs_here inner Typed room) (member_rest exts room) stops_specs any s ts
          (specs_here_good Typed room less s ts) (member_rest_law exts room less (leb-true 2 room is))
          (inl (λ words s ts y e. member_rest_shrinks exts room words s ts y e))
      by_room false is =
          never_behind true (specs_here inner Typed room) (member_rest exts room) stops_specs any
          (kinds.Punct puncts.Semicolon) refl s ts
          (λ k x e. let two = specs_here_room Typed room s k x e in let none = leb-false 2 room is in
          absurd (omega (arith, two, none))) (specs_here_good Typed room less s ts)

  pub exts_room : (room : ℕ) (s : HeldScopes) (ts : List Lexeme) (x : Found (List ℕ)) → extensions_at room s ts ≡ done x
      → length x.rest < length ts → 2 ≤ room
  unfolding extensions_at
  exts_room room s ts x e less =
      repeated_room is_extension 2 room take_one
      (λ s ts x e. let one = take_falls s ts x e in omega (arith, one)) s ts x e less

  member_good : (room : ℕ) → room < suc n → (s : HeldScopes) (ts : List Lexeme)
      → Good true (member_with inner room) any s ts
  unfolding member_with
  member_good room less s ts =
      bind_good true (extensions_at room)
      (λ exts. behind (specs_here inner Typed room) (member_rest exts room)) is_int any s ts
      (λ exts scopes gives at.
      let h = gives.reads (record { kind = kinds.Keyword keywords.Int; at = 0 } ∷ []) refl in
      let two =
      exts_room room s h.0 (found exts scopes (record { kind = kinds.Keyword keywords.Int; at = 0 } ∷ [])) h.1 h.2 in
      ready_bind true (specs_here inner Typed room) (member_rest exts room) is_int stops_specs any scopes at
      (specs_here_ready Typed room less two scopes at)
      (λ words scopes gives at. (member_rest_law exts room less two words).ready scopes at))
      ((extensions_law true room is_int is_int ((λ kind h. h), int_extension)).good s ts)
      (λ x e. behind_exts_good x.tree room less x.scopes x.rest)
      (inl (λ x y is e. let a = bind_ok e in
      let one : length a.0.rest < length x.rest =
      specs_here_shrinks [] n inner laws Typed room x.scopes x.rest a.0 a.1 in
      let rest : length y.rest < length a.0.rest = member_rest_shrinks x.tree room a.0.tree a.0.scopes a.0.rest y a.2 in
      omega (arith, one, rest)))

  pub struct_item_good : (room : ℕ) → room < suc n → (s : HeldScopes) (ts : List Lexeme)
      → Good true (struct_item_with inner room) any s ts
  unfolding struct_item_with
  struct_item_good room less s ts =
      if_good true (λ s. is_semicolon)
      (λ s ts. fits 1 room ts (behind take_one (λ semi. ends (member_semi (record { token = semi }))) s ts))
      (λ s ts. if is_static_assert (kind_at ts) then fits 1 room ts
      (behind assert_at (λ it. ends (member_assert it)) s ts) else member_with inner room s ts) any s ts
      (λ is. node_good true 1 room (λ semi. ends (member_semi (record { token = semi }))) any (λ fit semi. ends_law true
      (member_semi (record { token = semi })) any any (λ kind h. h)) s ts (semicolon_end (kind_at ts) is))
      (λ is. if_good true (λ s. is_static_assert)
      (λ s ts. fits 1 room ts (behind assert_at (λ it. ends (member_assert it)) s ts)) (member_with inner room) any s ts
      (λ is. fits_good true 1 room (behind assert_at (λ it. ends (member_assert it))) any s ts (λ fit.
      mapped_good true assert_at member_assert any s ts ((assert_law true).good s ts)))
      (λ is. member_good room less s ts)
      (λ is2. inl (λ x e.
      shrinks s ts x (else_is (is_semicolon (kind_at ts)) _ is (then_is (is_static_assert (kind_at ts)) _ is2 e))))
      (λ is2. inl (λ x e.
      shrinks s ts x (else_is (is_semicolon (kind_at ts)) _ is (else_is (is_static_assert (kind_at ts)) _ is2 e)))))
      (λ is. inl (λ x e. shrinks s ts x (then_is (is_semicolon (kind_at ts)) _ is e)))
      (λ is. inl (λ x e. shrinks s ts x (else_is (is_semicolon (kind_at ts)) _ is e)))
    where
      shrinks : Shrinks (struct_item_with inner room)
      shrinks = struct_item_shrinks [] none_tokens n inner laws room

  -- { member* }
  abbrev members_rest : ℕ → ℕ → Reader SomeBody
  members_rest room opening =
      behind (repeated (λ kind. not (is_close_brace kind)) (struct_item_with inner (room - 1))) (λ items.
      behind (token_at is_close_brace) (λ closing. ends (some_body opening (struct_items_from items) closing)))

  pub members_good : (room : ℕ) → room < suc n → 1 ≤ room → (s : HeldScopes) (ts : List Lexeme)
      → is_open_brace (kind_at ts) ≡ true → Good true (members_with inner room) any s ts
  unfolding members_with
  members_good room less one s ts is =
      take_behind true (members_rest room) any (λ opening. bind_law true (repeated (λ kind. not (is_close_brace kind))
      (struct_item_with inner (room - 1))) (λ items. behind (token_at is_close_brace)
      (λ closing. ends (some_body opening (struct_items_from items) closing))) any is_close_brace any
      (repeated_law true (λ kind. not (is_close_brace kind)) (struct_item_with inner (room - 1))
      (struct_item_shrinks [] none_tokens n inner laws (room - 1)) any is_close_brace (λ kind h. refl) not_close
      (λ s ts is. good_before true (struct_item_with inner (room - 1)) any is_close_brace s ts (λ kind h. refl)
      (struct_item_good (room - 1) (omega (arith, less, one)) s ts))) (λ items. bind_law true (token_at is_close_brace)
      (λ closing. ends (some_body opening (struct_items_from items) closing)) is_close_brace any any
      (token_law true is_close_brace (kinds.Punct puncts.CloseBrace) is_close_brace close_brace_end refl refl)
      (λ closing. ends_law true (some_body opening (struct_items_from items) closing) any any (λ kind h. h))
      (inr (λ kind h. h))) (inl (λ items s ts y e. token_then_shrinks is_close_brace
      (λ closing. some_body opening (struct_items_from items) closing) s ts y e))) s ts (open_brace_end (kind_at ts) is)

  pub members_shrinks : (room : ℕ) → Shrinks (members_with inner room)
  unfolding members_with
  members_shrinks room s ts x e =
      let a = bind_ok e in
      let b = bind_ok a.2 in
      let c = bind_ok b.2 in
      omega (
        arith,
        take_falls _ _ _ a.1,
        repeated_falls (λ kind. not (is_close_brace kind)) (struct_item_with inner (room - 1))
            (struct_item_shrinks [] none_tokens n inner laws (room - 1)) _ _ _ b.1,
        token_falls is_close_brace _ _ _ c.1,
        left_is c.2,
      )
