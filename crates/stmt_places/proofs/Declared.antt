-- Declarations: behind their words a fresh name and `;` complete them, or `;` alone where the room is too low for a
-- name.
use Rattle.std.proofs.Common.{◌≡◌, ℕ, ◌<◌, ◌≤◌, Bool, true, false, if◌then◌else◌, List, [], ◌∷◌, ◌++◌, length, ◌⊎◌, inl, inr, Option, Some, None, refl, ◌∙◌, ap, subst, arith}
use Rattle.std.specs.Prelude.{◌+◌, ◌-◌, nat_le}
use Rattle.std.proofs.lemmas.Bool.{leb-true, leb-false}
use Rattle.c_words.specs.declared.kinds.TokenKind.{TokenKind}
use Rattle.c_words.specs.declared.kinds.TokenKind.TheVariants as kinds
use Rattle.c_words.specs.declared.kinds.Keyword.TheVariants as keywords
use Rattle.c_words.specs.declared.kinds.Punct.TheVariants as puncts
use Rattle.c_tree.specs.declared.lexeme.Lexeme.{Lexeme}
use Rattle.c_syntax.specs.declared.parts.Attr.{Attr}
use Rattle.c_syntax.specs.declared.parts.AsmLabel.{AsmLabel}
use Rattle.c_tree.specs.Tree.{Expr, SpecWords, no_words, Declr, declr_name, base_name, some_declr, init_value, SomeInit, no_init, some_init, Declaration, declaration}
use Rattle.c_tree.specs.Height.{specs_height}
use Rattle.c_tree.specs.Specifiers.{storage_words}
use Rattle.c_tree.specs.WellFormed.{has_auto}
use Rattle.typedef_scope.specs.declared.kind.Kind.{Kind}
use Rattle.typedef_scope.specs.declared.kind.Kind.TheVariants.{Value}
use Rattle.c_units.specs.Units.{numbered_from}
use Rattle.c_units.specs.HeldScopes.{HeldScopes, innermost, leave, release}
use Rattle.c_units.specs.Scoping.{at_name, declared_kind, has_typedef_word}
use Rattle.c_reading.specs.declared.kinds.FaultKind.TheVariants.{Unexpected, Redeclared}
use Rattle.c_reading.specs.declared.kinds.Reach.TheVariants.{Assigned}
use Rattle.c_reading.specs.declared.kinds.Role.TheVariants.{Declaring}
use Rattle.c_reading.specs.Reading.{Found, Reader, CommaList, one_more, ends, refuses, fits, and_then, kind_at, take_one, token_at, run, listed, comma_turn, is_comma}
use Rattle.c_reading.specs.Tokens.{is_semicolon, is_asm, is_attribute, is_equal, is_base_word, is_end, spelled_name, attrs_at, group_at}
use Rattle.c_reading.specs.Parts.{Inner, nothing, Declared, DeclrItem, init_declrs_from}
use Rattle.c_reading.specs.Specifying.{begins_role, present, specs_here, named_declr}
use Rattle.c_reading.specs.Initialising.{init_with}
use Rattle.c_reading.specs.Stating.{label_at, some_init_with, declr_behind, init_declr_with, next_init_declr, declrs_with, bare_declaration, auto_declr, auto_name, auto_declarator, auto_behind, declaration_behind, declaration_with, declaration_from}
use Rattle.c_reading.proofs.Binding.{found, done, bind_ok, fits_ok, fits_is, if_ok, take_falls}
use Rattle.c_reading.proofs.Forms.{Shrinks, shrinks_falls}
use Rattle.c_reading.proofs.Aims.{Laws}
use Rattle.c_reading.proofs.KnotLaws.{none_tokens}
use Rattle.c_reading.proofs.Shared.{specs_here_shrinks, init_shrinks}
use Rattle.c_reading.proofs.StmtFalls.{init_declr_shrinks, next_declr_falls, declaration_behind_shrinks}
use Rattle.c_reading.proofs.DeclrSoundParams.{specs_high}
use Rattle.reading_steps.specs.Steps.{first_kind, any, Good, Ready, Law}
use Rattle.reading_steps.specs.Fresh.{fresh}
use Rattle.reading_steps.proofs.Fresh.{fresh_free, free_held}
use Rattle.reading_steps.specs.Stops.{is_int, is_number, is_name_kind, stops_operand, stops_specs, stops_named}
use Rattle.reading_steps.specs.InnerLaws.{InnerLaws, takes_base}
use Rattle.reading_steps.proofs.Keeping.{kept_refl, release_kept, hold_kept}
use Rattle.reading_steps.proofs.Steps.{behind, kind_same, refused_here, good_as, ends_good, ends_law, if_good, fits_good, ready_fits, ready_as, ready_bind, ready_bind_by, Widens, bind_good_by, ready_take, ready_ends, bind_good, bind_law, take_behind, ready_before, law_before, good_weaker, ready_weaker, law_weaker, good_from, ready_from}
use Rattle.reading_steps.proofs.Lists.{listed_good, listed_ready}
use Rattle.reading_steps.proofs.Chains.{ends_falls, behind_falls, behind_shrinks, falls_shrinks, token_shrinks, take_shrinks, if_good_takes, token_then}
use Rattle.token_places.proofs.Single.{semicolon_end, asm_end, equal_end, name_end, one_good, mapped_law}
use Rattle.token_places.proofs.Groups.{group_anywhere}
use Rattle.token_places.proofs.Rows.{attrs_law}
use Rattle.decl_places.proofs.Helping.{left_is, never_behind}
use Rattle.decl_places.proofs.Members.{expr_law, specs_here_good, specs_here_ready, named_declr_good, named_declr_ready, named_declr_room}
use Rattle.expr_places.proofs.Inits.{init_good, init_ready}

-- What a semicolon and a name are not.

equal_attribute : (kind : TokenKind) → is_equal kind ≡ true → is_attribute kind ≡ false
equal_attribute (kinds.Punct puncts.Equal) h = refl
equal_attribute kind h = absurd cc

pub semi_asm : (kind : TokenKind) → is_semicolon kind ≡ true → is_asm kind ≡ false
semi_asm (kinds.Punct puncts.Semicolon) h = refl
semi_asm kind h = absurd cc

pub semi_attribute : (kind : TokenKind) → is_semicolon kind ≡ true → is_attribute kind ≡ false
semi_attribute (kinds.Punct puncts.Semicolon) h = refl
semi_attribute kind h = absurd cc

semi_equal : (kind : TokenKind) → is_semicolon kind ≡ true → is_equal kind ≡ false
semi_equal (kinds.Punct puncts.Semicolon) h = refl
semi_equal kind h = absurd cc

semi_comma : (kind : TokenKind) → is_semicolon kind ≡ true → is_comma kind ≡ false
semi_comma (kinds.Punct puncts.Semicolon) h = refl
semi_comma kind h = absurd cc

pub semi_operand : (kind : TokenKind) → is_semicolon kind ≡ true → stops_operand kind ≡ true
semi_operand (kinds.Punct puncts.Semicolon) h = refl
semi_operand kind h = absurd cc

pub semi_named : (kind : TokenKind) → is_semicolon kind ≡ true → stops_named kind ≡ true
semi_named (kinds.Punct puncts.Semicolon) h = refl
semi_named kind h = absurd cc

pub semi_specs : (kind : TokenKind) → is_semicolon kind ≡ true → stops_specs kind ≡ true
semi_specs (kinds.Punct puncts.Semicolon) h = refl
semi_specs kind h = absurd cc

name_attribute : (kind : TokenKind) → is_name_kind kind ≡ true → is_attribute kind ≡ false
name_attribute (kinds.Name name) h = refl
name_attribute kind h = absurd cc

pub name_semi : (kind : TokenKind) → is_name_kind kind ≡ true → is_semicolon kind ≡ false
name_semi (kinds.Name name) h = refl
name_semi kind h = absurd cc

pub name_specs : (kind : TokenKind) → is_name_kind kind ≡ true → stops_specs kind ≡ true
name_specs (kinds.Name name) h = refl
name_specs kind h = absurd cc

-- behind the words of a declaration
abbrev pub behind_words : TokenKind → Bool
behind_words kind = if is_semicolon kind then true else is_name_kind kind

-- a name and `;`, which may stand behind the words of a declaration, stop its specifiers
pub words_specs : (kind : TokenKind) → behind_words kind ≡ true → stops_specs kind ≡ true
words_specs kind h = by_semi (is_semicolon kind) refl h
  where
    by_semi : (b : Bool) → is_semicolon kind ≡ b → (if b then true else is_name_kind kind) ≡ true
        → stops_specs kind ≡ true
    by_semi true is h = semi_specs kind is
    by_semi false is h = name_specs kind h

pub semi_words : (kind : TokenKind) → is_semicolon kind ≡ true → behind_words kind ≡ true
semi_words kind h = rw h refl

pub name_words : (kind : TokenKind) → is_name_kind kind ≡ true → behind_words kind ≡ true
name_words kind h = rw (name_semi kind h) h

-- [asm bal]
label_law : (keep : Bool) → Law keep label_at is_semicolon is_semicolon
unfolding label_at
label_law keep = record {
  good = λ s ts.
      if_good keep (λ s. is_asm) (behind take_one labelled) (ends None) is_semicolon s ts
      (λ is. take_behind keep labelled is_semicolon labelled_law s ts (asm_end (kind_at ts) is))
      (λ is. ends_good keep None is_semicolon s ts) (λ is. inl (λ x e. labelled_shrinks s ts x e)) (λ is. inr semi_asm);
  ready = λ s at. record {
    more = [];
    tree = None;
    scopes = s;
    keeps = kept_refl keep s;
    begins = λ k h. h;
    reads = λ k h. rw (semi_asm (kind_at k) h) refl;
  };
}
  where
    labelled : ℕ → Reader (Option AsmLabel)
    labelled keyword = behind group_at (λ group. ends (Some (record { keyword = keyword; group = group })))

    labelled_law : (keyword : ℕ) → Law keep (labelled keyword) any is_semicolon
    labelled_law keyword =
        mapped_law keep group_at (λ group. Some (record { keyword = keyword; group = group })) any is_semicolon
        (law_before keep group_at any any any is_semicolon (λ kind h. refl) (λ kind h. h) (group_anywhere keep))

    labelled_shrinks : Shrinks (behind take_one labelled)
    labelled_shrinks =
        behind_shrinks take_one labelled take_shrinks
        (λ keyword. behind_falls group_at (λ group. ends (Some (record { keyword = keyword; group = group })))
        (shrinks_falls group_at none_tokens.group_shrinks)
        (λ group. ends_falls (Some (record { keyword = keyword; group = group }))))

abbrev semi : Lexeme
semi = record { kind = kinds.Punct puncts.Semicolon; at = 0 }

-- what stands behind words: a base word behind `__auto_type` and `typedef`
abbrev pub behind_of : SpecWords → TokenKind → Bool
behind_of words kind = if takes_base words then is_base_word kind else behind_words kind

pub plain_behind_of : (words : SpecWords) → has_auto words ≡ false → (kind : TokenKind) → behind_words kind ≡ true
    → behind_of words kind ≡ true
plain_behind_of words is kind h = rw is h

-- a reader that begins with `int` whatever stands behind does so before all tokens
pub first_int : (more : List TokenKind) (at : ℕ)
    → ((k : List Lexeme) → stops_specs (kind_at k) ≡ true → is_int (kind_at (numbered_from at more ++ k)) ≡ true)
    → (k : List Lexeme) → is_int (kind_at (numbered_from at more ++ k)) ≡ true
first_int [] at h k = let wrong : is_int (kinds.Punct puncts.Semicolon) ≡ true = h (semi ∷ []) refl in absurd cc
first_int (kind ∷ more) at h k = h (semi ∷ []) refl

module _ (n : ℕ) (inner : Inner) (laws : Laws [] n inner) (places : InnerLaws n inner) where
  -- [= init]
  pub some_init_law : (room : ℕ) → room < n → 2 ≤ room → Law false (some_init_with inner room) is_semicolon is_semicolon
  unfolding some_init_with
  some_init_law room less two = record {
    good = λ s ts.
        if_good false (λ s. is_equal) (behind take_one valued) (ends no_init) is_semicolon s ts
        (λ is. take_behind false valued is_semicolon valued_law s ts (equal_end (kind_at ts) is))
        (λ is. ends_good false no_init is_semicolon s ts) (λ is. inl (λ x e. valued_shrinks s ts x e))
        (λ is. inr semi_equal);
    ready = λ s at. record {
      more = [];
      tree = no_init;
      scopes = s;
      keeps = kept_refl false s;
      begins = λ k h. h;
      reads = λ k h. rw (semi_equal (kind_at k) h) refl;
    };
  }
    where
      valued : ℕ → Reader SomeInit
      valued equal = behind (init_with inner (room - 1)) (λ init. ends (some_init equal init))

      init_law : Law true (init_with inner (room - 1)) any is_semicolon
      init_law =
          law_before true (init_with inner (room - 1)) is_number any stops_operand is_semicolon semi_operand
          (λ kind h. refl)
          (record {
            good = init_good n inner laws places (room - 1) (omega arith);
            ready = init_ready n inner laws places (room - 1) (omega arith) (omega arith);
          })

      valued_law : (equal : ℕ) → Law false (valued equal) any is_semicolon
      valued_law equal =
          mapped_law false (init_with inner (room - 1)) (some_init equal) any is_semicolon
          (law_weaker false (init_with inner (room - 1)) any is_semicolon init_law)

      valued_shrinks : Shrinks (behind take_one valued)
      valued_shrinks =
          behind_shrinks take_one valued take_shrinks
          (λ equal. behind_falls (init_with inner (room - 1)) (λ init. ends (some_init equal init))
          (shrinks_falls (init_with inner (room - 1)) (init_shrinks [] n inner laws (room - 1)))
          (λ init. ends_falls (some_init equal init)))

  pub semi_attrs : (room : ℕ) → Law false (attrs_at room) is_semicolon is_semicolon
  semi_attrs room = attrs_law false room is_semicolon is_semicolon ((λ kind h. h), semi_attribute)

  -- [AsmLabel] Attr* [= init]
  pub declr_behind_law : (before : List Attr) (d : Declr) (room : ℕ) → room < n → 2 ≤ room
      → Law false (declr_behind inner before d room) is_semicolon is_semicolon
  unfolding declr_behind
  declr_behind_law before d room less two =
      bind_law false label_at (λ name. behind (attrs_at room) (λ attrs. behind (some_init_with inner room)
      (λ init. ends (item name attrs init)))) is_semicolon is_semicolon is_semicolon (label_law false)
      (λ name. bind_law false (attrs_at room) (λ attrs. behind (some_init_with inner room)
      (λ init. ends (item name attrs init))) is_semicolon is_semicolon is_semicolon (semi_attrs room)
      (λ attrs. mapped_law false (some_init_with inner room) (item name attrs) is_semicolon is_semicolon
      (some_init_law room less two)) (inr (λ kind h. h))) (inr (λ kind h. h))
    where
      item : Option AsmLabel → List Attr → SomeInit → DeclrItem
      item name attrs init = record { before = before; declr = d; label = name; attrs = attrs; init = init }

  -- a declarator, its name declared behind it
  abbrev released : List Attr → Kind → ℕ → Declr → Reader DeclrItem
  released before kind room d s k = declr_behind inner before d room (release kind s) k

  released_law : (before : List Attr) (kind : Kind) (room : ℕ) → room < n → 2 ≤ room → (d : Declr)
      → Law false (released before kind room d) is_semicolon is_semicolon
  released_law before kind room less two d = record {
    good = λ s ts. good_from false (declr_behind inner before d room) (release kind) is_semicolon s ts
        (release_kept kind s) ((declr_behind_law before d room less two).good (release kind s) ts);
    ready = λ s at. ready_from false (declr_behind inner before d room) (release kind) is_semicolon is_semicolon s at
        (release_kept kind s) ((declr_behind_law before d room less two).ready (release kind s) at);
  }

  -- a name was read, so there was room for one
  init_declr_room : (before : List Attr) (kind : Kind) (room : ℕ) (s : HeldScopes) (ts : List Lexeme)
      (x : Found DeclrItem)
      → init_declr_with inner before kind room s ts ≡ done x → 2 ≤ room
  unfolding init_declr_with
  init_declr_room before kind room s ts x e =
      let a = bind_ok e in
      let one : 1 ≤ room - 1 = named_declr_room n inner places laws (Some kind) (room - 1) s ts a.0 a.1 in
      omega (arith, one)

  init_declr_high : (before : List Attr) (kind : Kind) (room : ℕ) → room < n → 2 ≤ room
      → Law false (init_declr_with inner before kind room) is_name_kind is_semicolon
  unfolding init_declr_with
  init_declr_high before kind room less two =
      bind_law false (named_declr inner (Some kind) (room - 1))
      (released before kind room) is_name_kind is_semicolon is_semicolon
      (law_before false (named_declr inner (Some kind) (room - 1)) is_name_kind is_name_kind stops_named is_semicolon
      semi_named (λ kind h. h) (record {
        good = named_declr_good n inner places laws (Some kind) (room - 1) (omega arith);
        ready = named_declr_ready n inner places laws (Some kind) (room - 1) (omega arith) (omega arith);
      }))
      (released_law before kind room less two) (inr (λ kind h. h))

  -- with room for no name none is read
  init_declr_low : (before : List Attr) (kind : Kind) (room : ℕ) → room < n → room < 2
      → (s : HeldScopes) (ts : List Lexeme) → Good false (init_declr_with inner before kind room) is_semicolon s ts
  unfolding init_declr_with
  init_declr_low before kind room less low s ts =
      never_behind false (named_declr inner (Some kind) (room - 1)) (released before kind room) stops_named is_semicolon
      (kinds.Punct puncts.Semicolon) refl s ts
      (λ k x e. let one : 1 ≤ room - 1 = named_declr_room n inner places laws (Some kind) (room - 1) s k x e in
      absurd (omega (arith, one, low)))
      (named_declr_good n inner places laws (Some kind) (room - 1) (omega (arith, less)) s ts)

  next_declr_law : (kind : Kind) (room : ℕ) → room < n → 2 ≤ room → (token : ℕ)
      → Law false (next_init_declr inner kind room token) any is_semicolon
  unfolding next_init_declr
  next_declr_law kind room less two token =
      bind_law false (attrs_at room) (λ attrs. behind (init_declr_with inner attrs kind room) (λ d. ends (one_more d)))
      any is_name_kind is_semicolon (attrs_law false room any is_name_kind ((λ kind h. refl), name_attribute))
      (λ attrs. mapped_law false (init_declr_with inner attrs kind room) one_more is_name_kind is_semicolon
      (init_declr_high attrs kind room less two))
      (inl (λ attrs s ts y e. behind_shrinks (init_declr_with inner attrs kind room) (λ d. ends (one_more d))
      (init_declr_shrinks [] none_tokens n inner laws attrs kind room) (λ d. ends_falls (one_more d)) s ts y e))

  -- declarators, behind the first of which there is room for more, and `;`

  abbrev closed : List ℕ → SpecWords → CommaList DeclrItem ⊥ → Reader Declaration
  closed exts words ds =
      behind (token_at is_semicolon) (λ semi. ends (declaration exts words (init_declrs_from ds.items) semi))

  closed_all : (exts : List ℕ) (words : SpecWords) (ds : CommaList DeclrItem ⊥)
      → Law false (closed exts words ds) is_semicolon any
  closed_all exts words ds =
      token_then false is_semicolon (kinds.Punct puncts.Semicolon) is_semicolon any
      (λ semi. ends (declaration exts words (init_declrs_from ds.items) semi)) refl refl semicolon_end
      (λ semi. ends_law false (declaration exts words (init_declrs_from ds.items) semi) any any (λ kind h. h))

  closed_shrinks : (exts : List ℕ) (words : SpecWords) (ds : CommaList DeclrItem ⊥) → Shrinks (closed exts words ds)
  closed_shrinks exts words ds =
      behind_shrinks (token_at is_semicolon) (λ semi. ends (declaration exts words (init_declrs_from ds.items) semi))
      (token_shrinks is_semicolon) (λ semi. ends_falls (declaration exts words (init_declrs_from ds.items) semi))

  pub declrs_high : (exts : List ℕ) (words : SpecWords) (kind : Kind) (room : ℕ) (first : Reader DeclrItem) → room < n
      → 3 ≤ room → (s : HeldScopes) (ts : List Lexeme) → Good false first is_semicolon s ts →
      Good false (declrs_with inner exts words kind room first) any s ts
  unfolding declrs_with
  declrs_high exts words kind room first less three s ts g =
      bind_good false (listed first (next_init_declr inner kind (room - 1))) (closed exts words) is_semicolon any s ts
      (λ ds scopes gives at. (closed_all exts words ds).ready scopes at)
      (listed_good false (next_init_declr inner kind (room - 1))
      (next_declr_falls [] none_tokens n inner laws kind (room - 1)) is_semicolon is_semicolon (λ kind h. h) semi_comma
      (next_declr_law kind (room - 1) (omega arith) (omega arith)) first s ts g)
      (λ x is. (closed_all exts words x.tree).good x.scopes x.rest)
      (inl (λ x y is e. closed_shrinks exts words x.tree x.scopes x.rest y e))

  pub declrs_ready : (exts : List ℕ) (words : SpecWords) (kind : Kind) (room : ℕ) (first : Reader DeclrItem)
      (front : TokenKind → Bool)
      → room < n → 3 ≤ room → (s : HeldScopes) (at : ℕ) → Ready false first front is_semicolon s at →
      Ready false (declrs_with inner exts words kind room first) front any s at
  unfolding declrs_with
  declrs_ready exts words kind room first front less three s at r =
      ready_bind false (listed first (next_init_declr inner kind (room - 1)))
      (closed exts words) front is_semicolon any s at
      (listed_ready false (next_init_declr inner kind (room - 1))
      (next_declr_falls [] none_tokens n inner laws kind (room - 1)) is_semicolon is_semicolon (λ kind h. h) semi_comma
      (next_declr_law kind (room - 1) (omega arith) (omega arith)) first front s at r)
      (λ ds scopes gives at. (closed_all exts words ds).ready scopes at)

  -- a first declarator that is never read is one behind which nothing is
  declrs_low : (exts : List ℕ) (words : SpecWords) (kind : Kind) (room : ℕ) → room < n → room < 3
      → (s : HeldScopes) (ts : List Lexeme) →
      Good false (declrs_with inner exts words kind room (init_declr_with inner [] kind (room - 1))) any s ts
  unfolding declrs_with listed
  declrs_low exts words kind room less low s ts =
      never_behind false (listed first (next_init_declr inner kind (room - 1))) (closed exts words) is_semicolon any
      (kinds.Punct puncts.Semicolon) refl s ts (λ k x e. let a = bind_ok e in never k a.0 a.1) (never_behind false first
      (λ x. run (comma_turn (next_init_declr inner kind (room - 1))) (record { items = x ∷ []; ending = None }))
      is_semicolon is_semicolon (kinds.Punct puncts.Semicolon) refl s ts never (first_good s ts))
    where
      first : Reader DeclrItem
      first = init_declr_with inner [] kind (room - 1)

      never : (k : List Lexeme) (x : Found DeclrItem) → first s k ≡ done x → ⊥
      never k x e = let two = init_declr_room [] kind (room - 1) s k x e in absurd (omega (arith, two, low))

      first_good : (s : HeldScopes) (ts : List Lexeme) → Good false first is_semicolon s ts
      first_good s ts = init_declr_low [] kind (room - 1) (omega (arith, less)) (omega (arith, low)) s ts

  -- Behind the words.

  pub bare_good : (exts : List ℕ) (words : SpecWords) (room : ℕ) (s : HeldScopes) (ts : List Lexeme)
      → is_semicolon (kind_at ts) ≡ true → Good false (bare_declaration inner exts words room) any s ts
  unfolding bare_declaration
  bare_good exts words room s ts is =
      fits_good false (1 + specs_height words) room
      (behind take_one (λ semi. ends (declaration exts words (init_declrs_from []) semi))) any s ts
      (λ fit. take_behind false (λ semi. ends (declaration exts words (init_declrs_from []) semi)) any
      (λ semi. ends_law false (declaration exts words (init_declrs_from []) semi) any any (λ kind h. h)) s ts
      (semicolon_end (kind_at ts) is))

  pub bare_ready : (exts : List ℕ) (words : SpecWords) (room : ℕ) → 1 + specs_height words ≤ room
      → (s : HeldScopes) (at : ℕ) → Ready false (bare_declaration inner exts words room) is_semicolon any s at
  unfolding bare_declaration
  bare_ready exts words room fit s at =
      ready_fits false (1 + specs_height words) room
      (behind take_one (λ semi. ends (declaration exts words (init_declrs_from []) semi))) is_semicolon any s at fit
      (ready_bind false take_one (λ semi. ends (declaration exts words (init_declrs_from []) semi)) is_semicolon any any
      s at (ready_take false (kinds.Punct puncts.Semicolon) is_semicolon any s at refl)
      (λ semi scopes given at.
      ready_ends false (declaration exts words (init_declrs_from []) semi) any any scopes at (λ kind h. h)))

  abbrev named_rest : List ℕ → SpecWords → ℕ → Reader Declaration
  named_rest exts words room =
      declrs_with inner exts words (declared_kind words) room
      (init_declr_with inner [] (declared_kind words) (room - 1))

  named_good : (exts : List ℕ) (words : SpecWords) (room : ℕ) → room < n → (s : HeldScopes) (ts : List Lexeme)
      → Good false (named_rest exts words room) any s ts
  named_good exts words room less s ts = by_room (nat_le 3 room) refl
    where
      by_room : (b : Bool) → nat_le 3 room ≡ b → Good false (named_rest exts words room) any s ts
      by_room true is =
          let three = leb-true 3 room is in
          declrs_high exts words (declared_kind words) room
          (init_declr_with inner [] (declared_kind words) (room - 1)) less three s ts
          ((init_declr_high [] (declared_kind words) (room - 1) (omega (arith, less)) (omega (arith, three))).good s ts)
      by_room false is = declrs_low exts words (declared_kind words) room less (leb-false 3 room is) s ts

  -- Behind words with `__auto_type`: a name, attributes, `=` and a value, behind which the name is declared.

  -- there is room for the declarator
  abbrev pub AutoRoom : SpecWords → ℕ → Type 0
  AutoRoom words room = has_auto words ≡ true → 3 ≤ room

  abbrev auto_one : ℕ → Reader Declr
  auto_one room s ts = auto_name inner (spelled_name (kind_at ts)) (room - 2) s ts

  auto_one_law : (room : ℕ) → 3 ≤ room → Law false (auto_one room) is_name_kind any
  unfolding and_then
  auto_one_law room three = record {
    good = λ s ts. by_tokens s ts;
    ready = λ s at. record {
      more = kinds.Name (fresh s) ∷ [];
      tree = declr_name at (fresh s);
      scopes = record (innermost s) { held = Some (fresh s) } ∷ leave s;
      keeps = hold_kept (fresh s) Value s (record (innermost s) { held = Some (fresh s) } ∷ leave s)
          (free_held s (fresh s) Value (fresh_free s));
      begins = λ k h. refl;
      reads = λ k h. rw (
        free_held s (fresh s) Value (fresh_free s),
        fits_is {A = Declared} 1 (room - 2) (record { kind = kinds.Name (fresh s); at = at } ∷ k)
            (done (found (record { declr = some_declr (declr_name at (fresh s)); closed = None })
            (record (innermost s) { held = Some (fresh s) } ∷ leave s) k)) (omega (arith, three)),
      ) refl;
    };
  }
    where
      by_tokens : (s : HeldScopes) (ts : List Lexeme) → Good false (auto_one room) any s ts
      by_tokens s [] = refused_here false (auto_one room) any s [] Unexpected none
        where
          none : (k : List Lexeme) → first_kind k ≡ None → auto_one room s k ≡ refuses Unexpected k
          none [] e = refl
          none (t ∷ ts) e = absurd cc
      by_tokens s (t ∷ ts) = by_name (spelled_name t.kind) refl
        where
          at_kind : (o : Option ℕ) → spelled_name t.kind ≡ o → (k : List Lexeme) → first_kind k ≡ Some t.kind
              → auto_one room s k ≡ auto_name inner o (room - 2) s k
          at_kind o is k e =
              ap (λ (o : Option ℕ). auto_name inner o (room - 2) s k) (ap spelled_name (kind_same k (t ∷ ts) e) ∙ is)

          by_held : (name : ℕ) → spelled_name t.kind ≡ Some name → (o : Option HeldScopes)
              → at_name (Some Value) name s ≡ o → Good false (auto_one room) any s (t ∷ ts)
          by_held name is None held =
              refused_here false (auto_one room) any s (t ∷ ts) Redeclared
              (λ k e. at_kind (Some name) is k e ∙ rw held refl)
          by_held name is (Some u) held =
              one_good false (auto_one room) any s u t ts (declr_name t.at name)
              (λ k. at_kind (Some name) is (t ∷ k) refl ∙ rw (
                held,
                fits_is {A = Declared} 1 (room - 2) (t ∷ k) (done (found
                    (record { declr = some_declr (declr_name t.at name); closed = None }) u k)) (omega (arith, three)),
              ) refl)
              (name_end t.kind name is) (hold_kept name Value s u held)

          by_name : (o : Option ℕ) → spelled_name t.kind ≡ o → Good false (auto_one room) any s (t ∷ ts)
          by_name None is = refused_here false (auto_one room) any s (t ∷ ts) Unexpected (λ k e. at_kind None is k e)
          by_name (Some name) is = by_held name is (at_name (Some Value) name s) refl

  -- a base word in the place of the name, behind `typedef`
  abbrev base_taken : Reader Declr
  base_taken = behind take_one (λ token. ends (base_name token))

  abbrev auto_place : Bool → ℕ → Reader Declr
  auto_place typed room = auto_declarator inner typed (room - 2)

  abbrev auto_front : Bool → TokenKind → Bool
  auto_front true = is_base_word
  auto_front false = is_name_kind

  base_end : (kind : TokenKind) → is_base_word kind ≡ true → is_end kind ≡ false
  base_end (kinds.Keyword keywords.BaseWord) is = refl
  base_end kind is = absurd cc

  base_law : (room : ℕ) → 3 ≤ room → Law false (auto_place true room) is_base_word any
  base_law room three = record {
    good = λ s ts.
        if_good false (λ s. is_base_word) (λ s ts. fits 1 (room - 2) ts (base_taken s ts))
        (λ s ts. refuses Unexpected ts) any s ts
        (λ is. fits_good false 1 (room - 2) base_taken any s ts (λ fit.
        take_behind false (λ token. ends (base_name token)) any
        (λ token. ends_law false (base_name token) any any (λ kind h. h)) s ts (base_end (kind_at ts) is)))
        (λ is. refused_here false (λ s ts. refuses Unexpected ts) any s ts Unexpected (λ k e. refl))
        (λ is. inl (λ x e. taken s ts x (fits_ok 1 (room - 2) ts e).1)) (λ is. inl (λ x e. absurd cc));
    ready = λ s at.
        ready_as false (λ s ts. fits 1 (room - 2) ts (base_taken s ts)) (auto_place true room) is_base_word any s at
        (λ k h. rw h refl)
        (ready_fits false 1 (room - 2) base_taken is_base_word any s at (omega (arith, three))
        (ready_bind false take_one (λ token. ends (base_name token)) is_base_word any any s at
        (ready_take false (kinds.Keyword keywords.BaseWord) is_base_word any s at refl)
        (λ token scopes given at. ready_ends false (base_name token) any any scopes at (λ kind h. h))));
  }
    where
      taken : (s : HeldScopes) (ts : List Lexeme) (x : Found Declr) → base_taken s ts ≡ done x
          → length x.rest < length ts
      taken s ts x e =
          let a = bind_ok e in
          let one = take_falls s ts a.0 a.1 in
          let same = left_is a.2 in
          omega (arith, one, same)

  auto_place_law : (typed : Bool) (room : ℕ) → 3 ≤ room → Law false (auto_place typed room) (auto_front typed) any
  auto_place_law true room three = base_law room three
  auto_place_law false room three = auto_one_law room three

  auto_behind_of : (words : SpecWords) → has_auto words ≡ true → (kind : TokenKind)
      → auto_front (has_typedef_word (storage_words words)) kind ≡ true → behind_of words kind ≡ true
  auto_behind_of words is kind h = by_typedef (has_typedef_word (storage_words words)) refl h
    where
      by_typedef : (typed : Bool) → has_typedef_word (storage_words words) ≡ typed → auto_front typed kind ≡ true
          → behind_of words kind ≡ true
      by_typedef true typed h = rw (is, typed) h
      by_typedef false typed h = rw (is, typed) (name_words kind h)

  -- Specifiers that end before each token that begins no word end before what stands behind them.
  pub specs_widen : (known : SpecWords) (room : ℕ) → room < n → (s : HeldScopes)
      → Widens false (inner.specs Declaring known room) stops_specs behind_of s
  specs_widen known room less s tree scopes b reads k h = by_base (takes_base tree) refl h
    where
      by_base : (base : Bool) → takes_base tree ≡ base
          → (if base then is_base_word (kind_at k) else behind_words (kind_at k)) ≡ true
          → inner.specs Declaring known room s (b ++ k) ≡ ends tree scopes k
      by_base true is h = places.words.based Declaring known room less s b tree scopes reads is k h
      by_base false is h = reads k (words_specs (kind_at k) h)

  pub here_widen : (room : ℕ) → room - 1 < n → (s : HeldScopes)
      → Widens false (specs_here inner Declaring room) stops_specs behind_of s
  unfolding specs_here
  here_widen room less s tree scopes [] reads k h =
      let wrong = reads (semi ∷ []) refl in
      absurd (by_begin (begins_role Declaring s (kinds.Punct puncts.Semicolon)) refl wrong)
    where
      by_begin : (b : Bool) → begins_role Declaring s (kinds.Punct puncts.Semicolon) ≡ b →
          (if b then fits 2 room (semi ∷ []) (inner.specs Declaring no_words (room - 1) s (semi ∷ []))
          else refuses Unexpected (semi ∷ [])) ≡ ends tree scopes (semi ∷ [])
          → ⊥
      by_begin true is e = absurd cc
      by_begin false is e = absurd cc
  here_widen room less s tree scopes (t ∷ b) reads k h = by_begin (begins_role Declaring s t.kind) refl
    where
      by_begin : (g : Bool) → begins_role Declaring s t.kind ≡ g
          → (if g then fits 2 room ((t ∷ b) ++ k) (inner.specs Declaring no_words (room - 1) s ((t ∷ b) ++ k))
          else refuses Unexpected ((t ∷ b) ++ k)) ≡ ends tree scopes k
      by_begin true is =
          let inside : (k : List Lexeme) → stops_specs (kind_at k) ≡ true → (2 ≤ room)
          × (inner.specs Declaring no_words (room - 1) s ((t ∷ b) ++ k) ≡ ends tree scopes k) =
          λ k stops. (let e = subst (λ (g : Bool). (if g
          then fits 2 room ((t ∷ b) ++ k) (inner.specs Declaring no_words (room - 1) s ((t ∷ b) ++ k))
          else refuses Unexpected ((t ∷ b) ++ k)) ≡ ends tree scopes k) is (reads k stops) in
          fits_ok 2 room ((t ∷ b) ++ k) e) in
          fits_is 2 room ((t ∷ b) ++ k) _ (inside (semi ∷ []) refl).0
          ∙ specs_widen no_words (room - 1) less s tree scopes (t ∷ b) (λ k stops. (inside k stops).1) k h
      by_begin false is =
          let e = subst (λ (g : Bool). (if g then fits 2 room ((t ∷ b) ++ (semi ∷ []))
          (inner.specs Declaring no_words (room - 1) s ((t ∷ b) ++ (semi ∷ []))) else refuses Unexpected
          ((t ∷ b) ++ (semi ∷ []))) ≡ ends tree scopes (semi ∷ [])) is (reads (semi ∷ []) refl) in
          absurd cc

  module _ (exts : List ℕ) (words : SpecWords) (room : ℕ) (less : room < n) (three : 3 ≤ room) where
    abbrev auto_made : Declr → List Attr → ℕ → Expr → ℕ → Declaration
    auto_made d attrs equal e semi =
        declaration exts words (init_declrs_from
        (record { before = []; declr = d; label = None; attrs = attrs; init = some_init equal (init_value e) } ∷ []))
        semi

    abbrev auto_end : Declr → List Attr → ℕ → Expr → Reader Declaration
    auto_end d attrs equal e = behind (token_at is_semicolon) (λ semi. ends (auto_made d attrs equal e semi))

    abbrev auto_released : Declr → List Attr → ℕ → Expr → Reader Declaration
    auto_released d attrs equal e s ts = auto_end d attrs equal e (release Value s) ts

    auto_released_law : (d : Declr) (attrs : List Attr) (equal : ℕ) (e : Expr)
        → Law false (auto_released d attrs equal e) is_semicolon any
    auto_released_law d attrs equal e = record {
      good = λ s ts. good_from false (auto_end d attrs equal e) (release Value) any s ts (release_kept Value s)
          (l.good (release Value s) ts);
      ready = λ s at. ready_from false (auto_end d attrs equal e) (release Value) is_semicolon any s at
          (release_kept Value s) (l.ready (release Value s) at);
    }
      where
        l : Law false (auto_end d attrs equal e) is_semicolon any
        l = token_then false is_semicolon (kinds.Punct puncts.Semicolon) is_semicolon any
            (λ semi. ends (auto_made d attrs equal e semi)) refl refl semicolon_end
            (λ semi. ends_law false (auto_made d attrs equal e semi) any any (λ kind h. h))

    auto_released_shrinks : (d : Declr) (attrs : List Attr) (equal : ℕ) (e : Expr)
        → Shrinks (auto_released d attrs equal e)
    auto_released_shrinks d attrs equal e s ts x eq =
        behind_shrinks (token_at is_semicolon) (λ semi. ends (auto_made d attrs equal e semi))
        (token_shrinks is_semicolon) (λ semi. ends_falls (auto_made d attrs equal e semi)) (release Value s) ts x eq

    auto_valued : Declr → List Attr → ℕ → Reader Declaration
    auto_valued d attrs equal = behind (inner.expr Assigned nothing (room - 2)) (auto_released d attrs equal)

    auto_declr_law : (d : Declr) → Law false (auto_declr inner exts words d (room - 1)) any any
    unfolding auto_declr auto_valued
    auto_declr_law d =
        subst (λ (m : ℕ). Law false (behind (attrs_at (room - 1)) (λ attrs. behind (token_at is_equal)
        (λ equal. behind (inner.expr Assigned nothing m) (auto_released d attrs equal)))) any any) below
        (bind_law false (attrs_at (room - 1)) (λ attrs. behind (token_at is_equal) (auto_valued d attrs)) any is_equal
        any (attrs_law false (room - 1) any is_equal ((λ kind h. refl), equal_attribute))
        (λ attrs. token_then false is_equal (kinds.Punct puncts.Equal) is_equal any
        (auto_valued d attrs) refl refl equal_end (λ equal. value_law attrs equal))
        (inl (λ attrs s ts y e. behind_shrinks (token_at is_equal) (auto_valued d attrs) (token_shrinks is_equal)
        (λ equal. shrinks_falls (auto_valued d attrs equal) (value_shrinks attrs equal)) s ts y e)))
      where
        below : room - 2 ≡ room - 1 - 1
        below = omega arith

        value_law : (attrs : List Attr) (equal : ℕ) → Law false (auto_valued d attrs equal) any any
        value_law attrs equal =
            bind_law false (inner.expr Assigned nothing (room - 2)) (auto_released d attrs equal) any is_semicolon any
            (law_weaker false (inner.expr Assigned nothing (room - 2)) any is_semicolon
            (expr_law n inner places laws Assigned (room - 2) (omega (arith, less, three))
            (omega (arith, three)) any is_semicolon (λ kind h. refl) semi_operand))
            (auto_released_law d attrs equal) (inl (λ e s ts y eq. auto_released_shrinks d attrs equal e s ts y eq))

        value_shrinks : (attrs : List Attr) (equal : ℕ) → Shrinks (auto_valued d attrs equal)
        value_shrinks attrs equal =
            behind_shrinks (inner.expr Assigned nothing (room - 2)) (auto_released d attrs equal)
            (laws.exprs.shrinks Assigned nothing (room - 2))
            (λ e. shrinks_falls (auto_released d attrs equal e) (auto_released_shrinks d attrs equal e))

    auto_law : Law false (auto_behind inner exts words room) (auto_front (has_typedef_word (storage_words words))) any
    unfolding auto_behind
    auto_law = record {
      good = λ s ts. good_as false named (auto_behind inner exts words room) any s ts (λ k e. refl) (inr (λ k e. refl))
          (named_law.good s ts);
      ready = λ s at. ready_as false named (auto_behind inner exts words room)
          (auto_front (has_typedef_word (storage_words words))) any s at (λ k h. refl) (named_law.ready s at);
    }
      where
        named : Reader Declaration
        named = behind (auto_place (has_typedef_word (storage_words words)) room)
            (λ d. auto_declr inner exts words d (room - 1))

        named_law : Law false named (auto_front (has_typedef_word (storage_words words))) any
        named_law =
            bind_law false (auto_place (has_typedef_word (storage_words words)) room)
            (λ d. auto_declr inner exts words d (room - 1))
            (auto_front (has_typedef_word (storage_words words))) any any
            (auto_place_law (has_typedef_word (storage_words words)) room three) auto_declr_law (inr (λ kind h. refl))

  abbrev plain_rest : List ℕ → SpecWords → ℕ → Reader Declaration
  plain_rest exts words room s ts =
      if is_semicolon (kind_at ts) then bare_declaration inner exts words room s ts else named_rest exts words room s ts

  pub declaration_behind_good : (exts : List ℕ) (words : SpecWords) (room : ℕ) → room < n → AutoRoom words room
      → (s : HeldScopes) (ts : List Lexeme) → Good false (declaration_behind inner exts words room) any s ts
  unfolding declaration_behind
  declaration_behind_good exts words room less auto s ts = by_auto (has_auto words) refl
    where
      by_auto : (b : Bool) → has_auto words ≡ b → Good false (declaration_behind inner exts words room) any s ts
      by_auto true is =
          good_as false (auto_behind inner exts words room) (declaration_behind inner exts words room) any s ts
          (λ k e. rw is refl) (inr (λ k e. rw is refl)) ((auto_law exts words room less (auto is)).good s ts)
      by_auto false is =
          good_as false (plain_rest exts words room) (declaration_behind inner exts words room) any s ts
          (λ k e. rw is refl) (inr (λ k e. rw is refl))
          (if_good_takes false (λ s. is_semicolon) (bare_declaration inner exts words room) (named_rest exts words room)
          any s ts (λ is. bare_good exts words room s ts is) (λ is. named_good exts words room less s ts)
          (λ s ts x e. declaration_behind_shrinks [] none_tokens n inner laws exts words room s ts x (rw is e)))

  -- there is room for a name, or for the words alone
  abbrev pub HasRoom : SpecWords → ℕ → Type 0
  HasRoom words room = (3 ≤ room) ⊎ (1 + specs_height words ≤ room)

  pub declaration_behind_ready : (exts : List ℕ) (words : SpecWords) (room : ℕ) → room < n → AutoRoom words room
      → HasRoom words room → (s : HeldScopes) (at : ℕ)
      → Ready false (declaration_behind inner exts words room) (behind_of words) any s at
  unfolding declaration_behind
  declaration_behind_ready exts words room less auto has s at = by_auto (has_auto words) refl has
    where
      by_auto : (b : Bool) → has_auto words ≡ b → HasRoom words room
          → Ready false (declaration_behind inner exts words room) (behind_of words) any s at
      by_auto true is has =
          ready_before false (declaration_behind inner exts words room)
          (auto_front (has_typedef_word (storage_words words))) (behind_of words) any any s at (λ kind h. h)
          (auto_behind_of words is)
          (ready_as false (auto_behind inner exts words room) (declaration_behind inner exts words room)
          (auto_front (has_typedef_word (storage_words words))) any s at (λ k h. rw is refl)
          ((auto_law exts words room less (auto is)).ready s at))
      by_auto false is (inl three) =
          ready_before false (declaration_behind inner exts words room) is_name_kind (behind_of words) any any s at
          (λ kind h. h) (λ kind h. plain_behind_of words is kind (name_words kind h))
          (ready_as false (named_rest exts words room) (declaration_behind inner exts words room) is_name_kind any s at
          (λ k h. rw (is, name_semi (kind_at k) h) refl)
          (declrs_ready exts words (declared_kind words) room
          (init_declr_with inner [] (declared_kind words) (room - 1)) is_name_kind less three s at
          ((init_declr_high [] (declared_kind words) (room - 1) (omega (arith, less))
          (omega (arith, three))).ready s at)))
      by_auto false is (inr fit) =
          ready_before false (declaration_behind inner exts words room) is_semicolon (behind_of words) any any s at
          (λ kind h. h) (λ kind h. plain_behind_of words is kind (semi_words kind h))
          (ready_as false (bare_declaration inner exts words room) (declaration_behind inner exts words room)
          is_semicolon any s at (λ k h. rw (is, h) refl) (bare_ready exts words room fit s at))

  -- Words that were read leave room for a name, or are so low that they can stand alone.

  words_room : (words : SpecWords) (room : ℕ) → 2 ≤ room → (room ≡ 2 → specs_height words ≤ 1) → HasRoom words room
  words_room words room two low = by_room (nat_le 3 room) refl
    where
      by_room : (b : Bool) → nat_le 3 room ≡ b → HasRoom words room
      by_room true is = inl (leb-true 3 room is)
      by_room false is =
          let less = leb-false 3 room is in
          let same : room ≡ 2 = omega (arith, two, less) in
          let high = low same in
          inr (omega (arith, two, high))

  pub specs_here_has : (room : ℕ) (s : HeldScopes) (ts : List Lexeme) (x : Found SpecWords)
      → specs_here inner Declaring room s ts ≡ done x → HasRoom x.tree room
  unfolding specs_here
  specs_here_has room s ts x e =
      if_ok (begins_role Declaring s (kind_at ts)) e
      (λ is e. let r = fits_ok 2 room ts e in
      words_room x.tree room r.0 (λ same. places.words.low Declaring no_words s ts x
      (subst (λ (m : ℕ). inner.specs Declaring no_words (m - 1) s ts ≡ done x) same r.1)
      (laws.words.shrinks Declaring (room - 1) s ts x r.1)))
      (λ is e. absurd cc)

  pub specs_here_auto : (room : ℕ) (s : HeldScopes) (ts : List Lexeme) (x : Found SpecWords)
      → specs_here inner Declaring room s ts ≡ done x → AutoRoom x.tree room
  unfolding specs_here
  specs_here_auto room s ts x e auto =
      if_ok (begins_role Declaring s (kind_at ts)) e
      (λ is e. let r = fits_ok 2 room ts e in
      above (places.words.auto Declaring no_words (room - 1) s ts x (λ none. absurd cc) r.1 auto))
      (λ is e. absurd cc)
    where
      above : 2 ≤ room - 1 → 3 ≤ room
      above two = omega (arith, two)

  pub declaration_good : (exts : List ℕ) (room : ℕ) → room < n → (s : HeldScopes) (ts : List Lexeme)
      → Good false (declaration_with inner exts room) any s ts
  unfolding declaration_with
  declaration_good exts room less s ts =
      bind_good_by false (specs_here inner Declaring room) (λ words. declaration_behind inner exts words room)
      stops_specs any behind_of s ts (here_widen room (omega (arith, less)) s)
      (λ words scopes gives at. let h = gives.reads (semi ∷ []) refl in
      declaration_behind_ready exts words room less (specs_here_auto room s h.0 (found words scopes (semi ∷ [])) h.1)
      (specs_here_has room s h.0 (found words scopes (semi ∷ [])) h.1) scopes at)
      (good_weaker false (specs_here inner Declaring room) stops_specs s ts
      (specs_here_good n inner places laws Declaring room (omega arith) s ts))
      (λ x is. declaration_behind_good exts x.tree room less (specs_here_auto room s ts x is) x.scopes x.rest)
      (inl (λ x y is e. declaration_behind_shrinks [] none_tokens n inner laws exts x.tree room x.scopes x.rest y e))

  pub declaration_ready : (exts : List ℕ) (room : ℕ) → room < n → 2 ≤ room → (s : HeldScopes) (at : ℕ)
      → Ready false (declaration_with inner exts room) is_int any s at
  unfolding declaration_with
  declaration_ready exts room less two s at =
      let r = ready_weaker false (specs_here inner Declaring room) is_int stops_specs s at
      (specs_here_ready n inner places laws Declaring room (omega arith) two s at) in
      ready_bind_by false (specs_here inner Declaring room) (λ words. declaration_behind inner exts words room) is_int
      stops_specs any behind_of s at (here_widen room (omega (arith, less)) s) r
      (λ k h. first_int r.more at r.begins k)
      (λ words scopes gives at. let h = gives.reads (semi ∷ []) refl in
      declaration_behind_ready exts words room less (specs_here_auto room s h.0 (found words scopes (semi ∷ [])) h.1)
      (specs_here_has room s h.0 (found words scopes (semi ∷ [])) h.1) scopes at)

  pub declaration_shrinks : (exts : List ℕ) (room : ℕ) → Shrinks (declaration_with inner exts room)
  unfolding declaration_with
  declaration_shrinks exts room =
      behind_shrinks (specs_here inner Declaring room) (λ words. declaration_behind inner exts words room)
      (specs_here_shrinks [] n inner laws Declaring room)
      (λ words. shrinks_falls (declaration_behind inner exts words room)
      (declaration_behind_shrinks [] none_tokens n inner laws exts words room))

  -- behind words that were read already: where more was read, these were within the room
  known_has : (known : SpecWords) (room : ℕ) (s : HeldScopes) (ts : List Lexeme) (x : Found SpecWords)
      → inner.specs Declaring known (room - 1) s ts ≡ done x → length x.rest < length ts → HasRoom x.tree room
  known_has known room s ts x e less =
      let fit : specs_height known ≤ room - 1 = places.words.room Declaring known (room - 1) s ts x e less in
      let high : 1 ≤ specs_height known = specs_high known in
      words_room x.tree room (omega (arith, fit, high)) (λ same. places.words.low Declaring known s ts x
      (subst (λ (m : ℕ). inner.specs Declaring known (m - 1) s ts ≡ done x) same e) less)

  known_auto : (known : SpecWords) (room : ℕ) → has_auto known ≡ false
      → (s : HeldScopes) (ts : List Lexeme) (x : Found SpecWords) → inner.specs Declaring known (room - 1) s ts ≡ done x
      → AutoRoom x.tree room
  known_auto known room plain s ts x e auto =
      above (places.words.auto Declaring known (room - 1) s ts x (λ is. absurd (both known plain is)) e auto)
    where
      both : (known : SpecWords) → has_auto known ≡ false → has_auto known ≡ true → ⊥
      both known off on = absurd cc

      above : 2 ≤ room - 1 → 3 ≤ room
      above two = omega (arith, two)

  pub from_good : (known : SpecWords) (room : ℕ) → has_auto known ≡ false → room < n
      → (s : HeldScopes) (ts : List Lexeme) → Good false (declaration_from inner known room) any s ts
  unfolding declaration_from
  from_good known room plain less s ts =
      bind_good_by false (inner.specs Declaring known (room - 1)) (λ words. declaration_behind inner [] words room)
      stops_specs any behind_of s ts (specs_widen known (room - 1) (omega (arith, less)) s)
      (λ words scopes gives at. let h = gives.reads (semi ∷ []) refl in
      declaration_behind_ready [] words room less
      (known_auto known room plain s h.0 (found words scopes (semi ∷ [])) h.1)
      (known_has known room s h.0 (found words scopes (semi ∷ [])) h.1 h.2) scopes at)
      (good_weaker false (inner.specs Declaring known (room - 1)) stops_specs s ts
      (places.words.good Declaring known (room - 1) (omega (arith, less)) s ts))
      (λ x is. declaration_behind_good [] x.tree room less (known_auto known room plain s ts x is) x.scopes x.rest)
      (inl (λ x y is e. declaration_behind_shrinks [] none_tokens n inner laws [] x.tree room x.scopes x.rest y e))

  pub from_shrinks : (known : SpecWords) (room : ℕ) → Shrinks (declaration_from inner known room)
  unfolding declaration_from
  from_shrinks known room =
      falls_shrinks (inner.specs Declaring known (room - 1)) (λ words. declaration_behind inner [] words room)
      (laws.words.falls Declaring known (room - 1))
      (λ words. declaration_behind_shrinks [] none_tokens n inner laws [] words room)
