-- Sizes in brackets, parameters.
use Rattle.std.proofs.Common.{◌≡◌, ℕ, suc, ◌<◌, ◌≤◌, Bool, true, false, if◌then◌else◌, List, [], ◌∷◌, ◌++◌, length, ◌⊎◌, inl, inr, Some, None, Ok, Err, refl, sym, ◌∙◌, ap, arith}
use Rattle.std.specs.Prelude.{◌-◌, ◌&&◌, nat_le}
use Rattle.std.proofs.lemmas.Bool.{leb-true, leb-false}
use Rattle.c_words.specs.declared.kinds.TokenKind.{TokenKind}
use Rattle.c_words.specs.declared.kinds.TokenKind.TheVariants as kinds
use Rattle.c_words.specs.declared.kinds.Punct.TheVariants as puncts
use Rattle.c_tree.specs.declared.lexeme.Lexeme.{Lexeme}
use Rattle.c_syntax.specs.declared.parts.Attr.{Attr}
use Rattle.c_syntax.specs.declared.parts.Identifier.{Identifier}
use Rattle.c_syntax.specs.declared.parts.Qual.{Qual}
use Rattle.c_syntax.specs.declared.parts.ArrayWord.{ArrayWord}
use Rattle.c_tree.specs.Tree.{SpecWords, no_words, more_words, Declr, identifiers, SomeDeclr, no_declr, some_declr, SomeSize, no_size, some_size, size_value, size_star, Dots}
use Rattle.typedef_scope.specs.declared.kind.Kind.TheVariants.{Value}
use Rattle.c_units.specs.HeldScopes.{HeldScopes, is_wide, new_scope, enter, leave, innermost, release}
use Rattle.c_reading.specs.declared.kinds.Reach.TheVariants.{Assigned}
use Rattle.c_reading.specs.declared.kinds.Role.TheVariants.{Typed}
use Rattle.c_reading.specs.declared.kinds.Mode.TheVariants.{Either}
use Rattle.c_reading.specs.Reading.{Found, Read, Reader, ends, fits, kind_at, take_one, token_at, repeated, repeated_turn, run, listed, Next, one_more, list_end, CommaList, and_then, is_comma}
use Rattle.c_reading.specs.Tokens.{is_made, word_qual_of, array_word_of, is_open_bracket, is_close_bracket, is_open_paren, is_close_paren, is_star, is_dots, is_attribute, quals_at, array_words_at, attr_at, attrs_at}
use Rattle.c_reading.specs.Parts.{Inner, nothing, star, Declared, ParamItem, params_from}
use Rattle.c_reading.specs.Specifying.{specs_here}
use Rattle.c_reading.specs.Declaring.{begins_identifiers, identifier_at, names_list, identifiers_of, identifiers_with, list_behind, is_bare, are_none, takes_attrs, with_array, with_params, closed_by, words_of_quals, words_of_attrs, star_size, size_with, array_with, param_attrs, param_with, next_param, params_with, prototype_with, params_behind}
use Rattle.c_reading.proofs.Binding.{found, done, ok_is, bind_ok, bind_is, fits_ok, take_falls, token_falls, if_ok}
use Rattle.c_reading.proofs.Loops.{after, run_is, run_ends}
use Rattle.c_reading.proofs.Forms.{Falls, Shrinks}
use Rattle.c_reading.proofs.Rows.{row_turn_shrinks}
use Rattle.c_reading.proofs.Commas.{listed_shrinks}
use Rattle.c_reading.proofs.KnotLaws.{none_tokens}
use Rattle.c_reading.proofs.DeclrFalls.{identifier_shrinks, names_shrink, prototype_shrinks, param_shrinks, next_param_falls}
use Rattle.c_reading.proofs.Aims.{Laws}
use Rattle.reading_steps.specs.Steps.{any, Good, Law}
use Rattle.reading_steps.specs.Stops.{stops_operand, stops_type, stops_specs}
use Rattle.reading_steps.specs.InnerLaws.{InnerLaws}
use Rattle.reading_steps.proofs.Keeping.{kept_refl, release_kept}
use Rattle.reading_steps.proofs.Steps.{behind, kind_same, in_scope, own_good, ends_good, good_as, if_good, ready_ends, ready_as, bind_law, take_behind, ends_law, token_law, good_before, ready_before, good_weaker, ready_weaker, good_from, ready_from}
use Rattle.reading_steps.proofs.Lists.{listed_good}
use Rattle.token_places.proofs.Single.{open_paren_end, open_bracket_end, close_bracket_end, close_paren_end, dots_end, star_end, mapped_good, mapped_law}
use Rattle.token_places.proofs.Rows.{attrs_law, quals_law, array_words_law}
use Rattle.token_places.proofs.Names.{names_law}
use Rattle.decl_places.proofs.Helping.{left_is, token_then_shrinks, repeated_room, behind_good, never_behind}
use Rattle.decl_places.proofs.Members.{specs_here_good, specs_here_room}
use Rattle.decl_places.proofs.Identifiers.{identifier_law}

bracket_operand : (kind : TokenKind) → is_close_bracket kind ≡ true → stops_operand kind ≡ true
bracket_operand (kinds.Punct puncts.CloseBracket) h = refl
bracket_operand kind h = absurd cc

bracket_word : (kind : TokenKind) → is_close_bracket kind ≡ true → is_made (array_word_of kind) ≡ false
bracket_word (kinds.Punct puncts.CloseBracket) h = refl
bracket_word kind h = absurd cc

pub paren_type : (kind : TokenKind) → is_close_paren kind ≡ true → stops_type kind ≡ true
paren_type (kinds.Punct puncts.CloseParen) h = refl
paren_type kind h = absurd cc

paren_specs : (kind : TokenKind) → is_close_paren kind ≡ true → stops_specs kind ≡ true
paren_specs (kinds.Punct puncts.CloseParen) h = refl
paren_specs kind h = absurd cc

paren_attribute : (kind : TokenKind) → is_close_paren kind ≡ true → is_attribute kind ≡ false
paren_attribute (kinds.Punct puncts.CloseParen) h = refl
paren_attribute kind h = absurd cc

paren_comma : (kind : TokenKind) → is_close_paren kind ≡ true → is_comma kind ≡ false
paren_comma (kinds.Punct puncts.CloseParen) h = refl
paren_comma kind h = absurd cc

paren_dots : (kind : TokenKind) → is_close_paren kind ≡ true → is_dots kind ≡ false
paren_dots (kinds.Punct puncts.CloseParen) h = refl
paren_dots kind h = absurd cc

-- what may follow qualifiers behind a comma where a list of parameters is completed
abbrev dots_or_paren : TokenKind → Bool
dots_or_paren (kinds.Punct puncts.Ellipsis) = true
dots_or_paren (kinds.Punct puncts.CloseParen) = true
dots_or_paren kind = false

paren_or : (kind : TokenKind) → is_close_paren kind ≡ true → dots_or_paren kind ≡ true
paren_or (kinds.Punct puncts.CloseParen) h = refl
paren_or kind h = absurd cc

-- `...` and `)` are no qualifiers
or_qual : (kind : TokenKind) → dots_or_paren kind ≡ true → is_made (word_qual_of kind) ≡ false
or_qual (kinds.Punct puncts.Ellipsis) h = refl
or_qual (kinds.Punct puncts.CloseParen) h = refl
or_qual kind h = absurd cc

-- no attributes
pub attrs_none : (room : ℕ) (s : HeldScopes) (k : List Lexeme) → is_attribute (kind_at k) ≡ false
    → attrs_at room s k ≡ ends [] s k
unfolding attrs_at repeated
attrs_none room s k h =
    run_ends (repeated_turn is_attribute (λ s ts. fits 2 room ts (attr_at s ts))) (row_turn_shrinks is_attribute
    (λ s ts. fits 2 room ts (attr_at s ts)) (λ s ts x e. none_tokens.attr_shrinks s ts x (fits_ok 2 room ts e).1))
    [] s k (rw h refl)

pub attrs_taken : (room : ℕ) (s : HeldScopes) (ts : List Lexeme) (x : Found (List Attr)) → attrs_at room s ts ≡ done x
    → length x.rest < length ts → 2 ≤ room
unfolding attrs_at
attrs_taken room s ts x e less = repeated_room is_attribute 2 room attr_at none_tokens.attr_shrinks s ts x e less

-- some attributes, for which there is room
pub attrs_some : (room : ℕ) (s : HeldScopes) (ts : List Lexeme) (x : Found (List Attr)) → attrs_at room s ts ≡ done x
    → (are_none x.tree ≡ true) ⊎ (2 ≤ room)
unfolding attrs_at repeated
attrs_some room s ts x e = by_test (is_attribute (kind_at ts)) refl
  where
    item : Reader Attr
    item s ts = fits 2 room ts (attr_at s ts)

    item_shrinks : Shrinks item
    item_shrinks s ts x e = none_tokens.attr_shrinks s ts x (fits_ok 2 room ts e).1

    now : after (repeated_turn is_attribute item [] s ts) [] s ts (run (repeated_turn is_attribute item)) ≡ done x
    now = sym (run_is (repeated_turn is_attribute item) (row_turn_shrinks is_attribute item item_shrinks) [] s ts) ∙ e

    by_test : (b : Bool) → is_attribute (kind_at ts) ≡ b → (are_none x.tree ≡ true) ⊎ (2 ≤ room)
    by_test false is =
        let same : done (found [] s ts) ≡ done x = rw is at now in
        inl (sym (ap (λ (x : Found (List Attr)). are_none x.tree) (ok_is same)))
    by_test true is =
        let on : and_then (and_then (item s ts) (λ x. ends ([] ++ x.tree ∷ []) x.scopes x.rest))
        (λ x. run (repeated_turn is_attribute item) x.tree x.scopes x.rest) ≡ done x = rw is at now in
        let a = bind_ok on in
        let b = bind_ok a.1 in
        inr (fits_ok 2 room ts b.1).0

module _ (n : ℕ) (inner : Inner) (places : InnerLaws n inner) (laws : Laws [] n inner) where
  -- a star alone, or the first operand of a size
  abbrev star_rest : ℕ → ℕ → Reader SomeSize
  star_rest room token s ts =
      if is_close_bracket (kind_at ts) then ends (some_size (size_star token)) s ts
      else behind (inner.expr Assigned (star token) (room - 1)) (λ e. ends (some_size (size_value e))) s ts

  star_rest_law : (room : ℕ) → room < suc n → 1 ≤ room → (token : ℕ)
      → Law true (star_rest room token) any is_close_bracket
  star_rest_law room less one token = record {
    good = λ s ts.
        if_good true (λ s. is_close_bracket) (ends (some_size (size_star token))) (behind
        (inner.expr Assigned (star token) (room - 1)) (λ e. ends (some_size (size_value e)))) is_close_bracket s ts
        (λ is. ends_good true (some_size (size_star token)) is_close_bracket s ts)
        (λ is. mapped_good true (inner.expr Assigned (star token) (room - 1))
        (λ e. some_size (size_value e)) is_close_bracket s ts
        (good_before true (inner.expr Assigned (star token) (room - 1)) stops_operand is_close_bracket s ts
        bracket_operand (places.exprs.good Assigned (star token) (room - 1) (omega (arith, less, one)) s ts)))
        (λ is. inr (λ kind h. h))
        (λ is. inl (λ x e. let a = bind_ok e in omega (arith, laws.exprs.shrinks _ _ _ _ _ _ a.1, left_is a.2)));
    ready = λ s at. record {
      more = [];
      tree = some_size (size_star token);
      scopes = s;
      keeps = kept_refl true s;
      begins = λ k h. refl;
      reads = λ k h. rw h refl;
    };
  }

  star_size_good : (room : ℕ) → room < suc n → 1 ≤ room → (s : HeldScopes) (ts : List Lexeme)
      → is_star (kind_at ts) ≡ true → Good true (star_size inner room) is_close_bracket s ts
  unfolding star_size
  star_size_good room less one s ts is =
      take_behind true (star_rest room) is_close_bracket (star_rest_law room less one) s ts (star_end (kind_at ts) is)

  star_size_shrinks : (room : ℕ) → Shrinks (star_size inner room)
  unfolding star_size
  star_size_shrinks room s ts x e =
      let a = bind_ok e in
      if_ok (is_close_bracket (kind_at a.0.rest)) a.2
      (λ is e. omega (arith, take_falls _ _ _ a.1, left_is e))
      (λ is e. let b = bind_ok e in
      omega (arith, take_falls _ _ _ a.1, laws.exprs.shrinks _ _ _ _ _ _ b.1, left_is b.2))

  abbrev sized : ℕ → Reader SomeSize
  sized room = behind (inner.expr Assigned nothing (room - 1)) (λ e. ends (some_size (size_value e)))

  sized_shrinks : (room : ℕ) → Shrinks (sized room)
  sized_shrinks room s ts x e = let a = bind_ok e in omega (arith, laws.exprs.shrinks _ _ _ _ _ _ a.1, left_is a.2)

  size_falls : (room : ℕ) → Falls (size_with inner room)
  unfolding size_with
  size_falls room s ts x e =
      if_ok (is_close_bracket (kind_at ts)) e
      (λ is e. omega (arith, left_is e))
      (λ is e. if_ok (is_star (kind_at ts)) e
      (λ is e. let less : length x.rest < length ts = star_size_shrinks room s ts x e in omega (arith, less))
      (λ is e. let less : length x.rest < length ts = sized_shrinks room s ts x e in omega (arith, less)))

  size_law : (room : ℕ) → room < suc n → 1 ≤ room → Law true (size_with inner room) is_close_bracket is_close_bracket
  unfolding size_with
  size_law room less one = record {
    good = λ s ts.
        if_good true (λ s. is_close_bracket) (ends no_size)
        (λ s ts. if is_star (kind_at ts) then star_size inner room s ts else sized room s ts) is_close_bracket s ts
        (λ is. ends_good true no_size is_close_bracket s ts)
        (λ is. if_good true (λ s. is_star) (star_size inner room) (sized room) is_close_bracket s ts
        (λ is. star_size_good room less one s ts is)
        (λ is. mapped_good true (inner.expr Assigned nothing (room - 1))
        (λ e. some_size (size_value e)) is_close_bracket s ts
        (good_before true (inner.expr Assigned nothing (room - 1)) stops_operand is_close_bracket s ts bracket_operand
        (places.exprs.good Assigned nothing (room - 1) (omega (arith, less, one)) s ts)))
        (λ is. inl (λ x e. star_size_shrinks room s ts x e)) (λ is. inl (λ x e. sized_shrinks room s ts x e)))
        (λ is. inr (λ kind h. h))
        (λ is. inl (λ x e. if_ok (is_star (kind_at ts)) e (λ is e. star_size_shrinks room s ts x e)
        (λ is e. sized_shrinks room s ts x e)));
    ready = λ s at. record {
      more = [];
      tree = no_size;
      scopes = s;
      keeps = kept_refl true s;
      begins = λ k h. h;
      reads = λ k h. rw h refl;
    };
  }

  abbrev array_made : Declared → ℕ → List ArrayWord → SomeSize → ℕ → Declared
  array_made d opening words size closing =
      record { declr = some_declr (with_array d.declr opening words size closing); closed = d.closed }

  pub array_good : (d : Declared) (room : ℕ) → room < suc n → 1 ≤ room → (s : HeldScopes) (ts : List Lexeme)
      → is_open_bracket (kind_at ts) ≡ true → Good true (array_with inner d room) any s ts
  unfolding array_with
  array_good d room less one s ts is =
      take_behind true (λ opening. behind array_words_at (λ words. behind (size_with inner room)
      (λ size. behind (token_at is_close_bracket) (λ closing. ends (array_made d opening words size closing))))) any
      (λ opening. bind_law true array_words_at (λ words. behind (size_with inner room) (λ size. behind
      (token_at is_close_bracket) (λ closing. ends (array_made d opening words size closing)))) any is_close_bracket any
      (array_words_law true any is_close_bracket ((λ kind h. refl), bracket_word))
      (λ words. bind_law true (size_with inner room) (λ size. behind (token_at is_close_bracket) (λ closing. ends
      (array_made d opening words size closing))) is_close_bracket is_close_bracket any (size_law room less one)
      (λ size. bind_law true (token_at is_close_bracket)
      (λ closing. ends (array_made d opening words size closing)) is_close_bracket any any
      (token_law true is_close_bracket (kinds.Punct puncts.CloseBracket) is_close_bracket close_bracket_end refl refl)
      (λ closing. ends_law true (array_made d opening words size closing) any any (λ kind h. h)) (inr (λ kind h. h)))
      (inl (λ size s ts y e.
      token_then_shrinks is_close_bracket (λ closing. array_made d opening words size closing) s ts y e)))
      (inl (λ words s ts y e. let a = bind_ok e in
      let b = bind_ok a.2 in
      omega (arith, size_falls room s ts a.0 a.1, token_falls is_close_bracket _ _ _ b.1, left_is b.2))))
      s ts (open_bracket_end (kind_at ts) is)

  -- Parameters, in their scope: a name is held at a declarator and let go behind it.

  attrs_part_law : (d : SomeDeclr) (room : ℕ) → Law false (param_attrs inner d room) is_close_paren is_close_paren
  attrs_part_law d room = by_test (takes_attrs d) refl
    where
      by_test : (b : Bool) → takes_attrs d ≡ b → Law false (param_attrs inner d room) is_close_paren is_close_paren
      by_test true is =
          let l = attrs_law false room is_close_paren is_close_paren ((λ kind h. h), paren_attribute) in
          record {
            good = λ s ts. good_as false (attrs_at room) (param_attrs inner d room) is_close_paren s ts
                (λ k e. rw is refl) (inr (λ k e. rw is refl)) (l.good s ts);
            ready = λ s at. ready_as false (attrs_at room) (param_attrs inner d room) is_close_paren is_close_paren s at
                (λ k h. rw is refl) (l.ready s at);
          }
      by_test false is = record {
        good = λ s ts. good_as false (ends []) (param_attrs inner d room) is_close_paren s ts (λ k e. rw is refl)
            (inr (λ k e. rw is refl)) (ends_good false [] is_close_paren s ts);
        ready = λ s at. ready_as false (ends []) (param_attrs inner d room) is_close_paren is_close_paren s at
            (λ k h. rw is refl) (ready_ends false [] is_close_paren is_close_paren s at (λ kind h. h));
      }

  abbrev item_of : SpecWords → SomeDeclr → List Attr → ParamItem
  item_of words d attrs = record { words = words; declr = d; attrs = attrs }

  abbrev released : SpecWords → ℕ → Declared → Reader ParamItem
  released words room d s ts =
      behind (param_attrs inner d.declr room) (λ attrs. ends (item_of words d.declr attrs)) (release Value s) ts

  released_law : (words : SpecWords) (room : ℕ) (d : Declared)
      → Law false (released words room d) is_close_paren is_close_paren
  released_law words room d =
      let l = mapped_law false (param_attrs inner d.declr room) (item_of words d.declr) is_close_paren is_close_paren
      (attrs_part_law d.declr room) in
      record {
        good = λ s ts.
            good_from false (behind (param_attrs inner d.declr room) (λ attrs. ends (item_of words d.declr attrs)))
            (release Value) is_close_paren s ts (release_kept Value s) (l.good (release Value s) ts);
        ready = λ s at.
            ready_from false (behind (param_attrs inner d.declr room) (λ attrs. ends (item_of words d.declr attrs)))
            (release Value) is_close_paren is_close_paren s at (release_kept Value s) (l.ready (release Value s) at);
      }

  abbrev param_rest : ℕ → SpecWords → Reader ParamItem
  param_rest room words = behind (inner.declr Either (Some Value) false (room - 1)) (released words room)

  param_rest_law : (room : ℕ) → room < suc n → 1 ≤ room → (words : SpecWords)
      → Law false (param_rest room words) stops_specs is_close_paren
  param_rest_law room less one words =
      bind_law false (inner.declr Either (Some Value) false (room - 1))
      (released words room) stops_specs is_close_paren is_close_paren
      (record {
        good = λ s ts. good_before false (inner.declr Either (Some Value) false (room - 1)) stops_type is_close_paren s
            ts paren_type (places.declrs.good Either (Some Value) false (room - 1) (omega (arith, less, one)) s ts);
        ready = λ s at.
            ready_before false (inner.declr Either (Some Value) false (room - 1)) stops_type stops_specs stops_type
            is_close_paren s at paren_type type_specs
            (ready_weaker false (inner.declr Either (Some Value) false (room - 1)) stops_type stops_type s at
            (places.declrs.either (Some Value) false (room - 1) (omega (arith, less, one)) s at));
      })
      (λ d. released_law words room d) (inr (λ kind h. h))
    where
      type_specs : (kind : TokenKind) → stops_type kind ≡ true → stops_specs kind ≡ true
      type_specs (kinds.Punct puncts.CloseParen) h = refl
      type_specs (kinds.Punct puncts.Comma) h = refl
      type_specs (kinds.Punct puncts.Colon) h = refl
      type_specs kind h = absurd cc

  param_good : (known : SpecWords) (room : ℕ) → room < suc n → 1 ≤ room → (s : HeldScopes) (ts : List Lexeme)
      → Good false (param_with inner known room) is_close_paren s ts
  unfolding param_with
  param_good no_words room less one s ts =
      behind_good false (specs_here inner Typed room) (param_rest room) stops_specs is_close_paren s ts (good_weaker
      false (specs_here inner Typed room) stops_specs s ts (specs_here_good n inner places laws Typed room less s ts))
      (param_rest_law room less one) (inr paren_specs)
  param_good (more_words w ws) room less one s ts =
      behind_good false (inner.specs Typed (more_words w ws) (room - 1))
      (param_rest room) stops_specs is_close_paren s ts
      (good_weaker false (inner.specs Typed (more_words w ws) (room - 1)) stops_specs s ts
      (places.words.good Typed (more_words w ws) (room - 1) (omega (arith, less, one)) s ts))
      (param_rest_law room less one) (inr paren_specs)

  -- without room for words no parameter is read
  param_never : (room : ℕ) → room < 1 → (s : HeldScopes) (ts : List Lexeme) (x : Found ParamItem)
      → param_with inner no_words room s ts ≡ done x → ⊥
  unfolding param_with
  param_never room none s ts x e =
      let a = bind_ok e in
      let two = specs_here_room n inner places laws Typed room s ts a.0 a.1 in
      omega (arith, none, two)

  param_refused : (room : ℕ) → room < suc n → room < 1 → (s : HeldScopes) (ts : List Lexeme)
      → Good false (param_with inner no_words room) is_close_paren s ts
  unfolding param_with
  param_refused room less none s ts =
      never_behind false (specs_here inner Typed room) (param_rest room) stops_specs is_close_paren
      (kinds.Punct puncts.CloseParen) refl s ts
      (λ k x e. let two = specs_here_room n inner places laws Typed room s k x e in absurd (omega (arith, none, two)))
      (good_weaker false (specs_here inner Typed room) stops_specs s ts
      (specs_here_good n inner places laws Typed room less s ts))

  abbrev quals_rest : ℕ → ℕ → List Qual → Reader (Next ParamItem Dots)
  quals_rest room comma quals s ts =
      if is_dots (kind_at ts)
      then behind take_one (λ dots. ends (list_end (record { comma = comma; quals = quals; dots = dots }))) s ts
      else behind (param_with inner (words_of_quals quals) room) (λ p. ends (one_more p)) s ts

  quals_rest_law : (room comma : ℕ) → room < suc n → 1 ≤ room → (quals : List Qual)
      → Law false (quals_rest room comma quals) dots_or_paren is_close_paren
  quals_rest_law room comma less one quals = record {
    good = λ s ts.
        if_good false (λ s. is_dots)
        (behind take_one (λ dots. ends (list_end (record { comma = comma; quals = quals; dots = dots }))))
        (behind (param_with inner (words_of_quals quals) room) (λ p. ends (one_more p))) is_close_paren s ts
        (λ is. take_behind false
        (λ dots. ends (list_end (record { comma = comma; quals = quals; dots = dots }))) is_close_paren
        (λ dots. ends_law false (list_end (record { comma = comma; quals = quals; dots = dots })) any is_close_paren
        (λ kind h. refl)) s ts (dots_end (kind_at ts) is))
        (λ is. mapped_good false (param_with inner (words_of_quals quals) room) one_more is_close_paren s ts
        (param_good (words_of_quals quals) room less one s ts))
        (λ is. inl (λ x e. let a = bind_ok e in omega (arith, take_falls _ _ _ a.1, left_is a.2)))
        (λ is. inr paren_dots);
    ready = λ s at. record {
      more = kinds.Punct puncts.Ellipsis ∷ [];
      tree = list_end (record { comma = comma; quals = quals; dots = at });
      scopes = s;
      keeps = kept_refl false s;
      begins = λ k h. refl;
      reads = λ k h. dots_read s at k;
    };
  }
    where
      dots_read : (s : HeldScopes) (at : ℕ) (k : List Lexeme)
          → quals_rest room comma quals s (record { kind = kinds.Punct puncts.Ellipsis; at = at } ∷ k)
          ≡ ends (list_end (record { comma = comma; quals = quals; dots = at })) s k
      dots_read s at k =
          bind_is (λ (x : Found ℕ). ends (list_end (record { comma = comma; quals = quals; dots = x.tree })) x.scopes
          x.rest) {x = found at s k} refl refl

  next_param_law : (room : ℕ) → room < suc n → 1 ≤ room → (comma : ℕ)
      → Law false (next_param inner room comma) any is_close_paren
  unfolding next_param
  next_param_law room less one comma =
      bind_law false quals_at (quals_rest room comma) any dots_or_paren is_close_paren
      (quals_law false any dots_or_paren ((λ kind h. refl), or_qual)) (quals_rest_law room comma less one)
      (inr paren_or)

  -- attributes that stand before the first parameter had room
  abbrev LeadFits : List Attr → ℕ → Type 0
  LeadFits lead room = (are_none lead ≡ true) ⊎ (1 ≤ room)

  listed_params : (lead : List Attr) (room : ℕ) → room < suc n → LeadFits lead room
      → (s : HeldScopes) (ts : List Lexeme)
      → Good false (listed (param_with inner (words_of_attrs lead) room) (next_param inner room)) is_close_paren s ts
  unfolding listed
  listed_params lead room less fit s ts = by_room (nat_le 1 room) refl lead fit
    where
      by_room : (b : Bool) → nat_le 1 room ≡ b → (lead : List Attr) → LeadFits lead room
          → Good false
          (listed (param_with inner (words_of_attrs lead) room) (next_param inner room)) is_close_paren s ts
      by_room true is lead fit =
          listed_good false (next_param inner room) (next_param_falls [] none_tokens n inner laws room) is_close_paren
          is_close_paren (λ kind h. h) paren_comma (next_param_law room less (leb-true 1 room is))
          (param_with inner (words_of_attrs lead) room) s ts
          (param_good (words_of_attrs lead) room less (leb-true 1 room is) s ts)
      by_room false is [] fit =
          never_behind false (param_with inner no_words room) _ is_close_paren is_close_paren
          (kinds.Punct puncts.CloseParen) refl s ts (λ k x e. param_never room (leb-false 1 room is) s k x e)
          (param_refused room less (leb-false 1 room is) s ts)
      by_room false is (a ∷ lead) (inl none) = absurd cc
      by_room false is (a ∷ lead) (inr one) = let none = leb-false 1 room is in absurd (omega (arith, one, none))

  params_good : (lead : List Attr) (room : ℕ) → room < suc n → LeadFits lead room → (s : HeldScopes) (ts : List Lexeme)
      → Good false (params_with inner lead room) is_close_paren s ts
  unfolding params_with
  params_good [] room less fit s ts =
      if_good false (λ s kind. true && is_close_paren kind) (ends (record { items = []; ending = None }))
      (listed (param_with inner no_words room) (next_param inner room)) is_close_paren s ts
      (λ is. ends_good false (record { items = []; ending = None }) is_close_paren s ts)
      (λ is. listed_params [] room less fit s ts)
      (λ is. inr (λ kind h. h))
      (λ is. inl (λ x e. listed_shrinks (param_with inner no_words room) (next_param inner room)
      (next_param_falls [] none_tokens n inner laws room) (param_shrinks [] none_tokens n inner laws room) s ts x e))
  params_good (a ∷ lead) room less fit s ts = listed_params (a ∷ lead) room less fit s ts

  -- The parameters and the parenthesis behind them, in their scope.
  record Closed : Type 0 where
    list : CommaList ParamItem Dots
    closing : ℕ

  abbrev inside : List Attr → ℕ → Reader Closed
  inside lead room =
      behind (params_with inner lead room)
      (λ ps. behind (token_at is_close_paren) (λ closing. ends (record { list = ps; closing = closing })))

  inside_good : (lead : List Attr) (room : ℕ) → room < suc n → LeadFits lead room → (s : HeldScopes) (ts : List Lexeme)
      → Good false (inside lead room) any s ts
  inside_good lead room less fit s ts =
      behind_good false (params_with inner lead room) (λ ps. behind (token_at is_close_paren)
      (λ closing. ends (record { list = ps; closing = closing }))) is_close_paren any s ts
      (params_good lead room less fit s ts)
      (λ ps. bind_law false (token_at is_close_paren)
      (λ closing. ends (record { list = ps; closing = closing })) is_close_paren any any
      (token_law false is_close_paren (kinds.Punct puncts.CloseParen) is_close_paren close_paren_end refl refl)
      (λ closing. ends_law false (record { list = ps; closing = closing }) any any (λ kind h. h)) (inr (λ kind h. h)))
      (inl (λ ps s ts y e.
      token_then_shrinks is_close_paren (λ closing. record { list = ps; closing = closing }) s ts y e))

  abbrev declared_of : Declared → ℕ → Closed → HeldScopes → Declared
  declared_of d opening c s = record {
    declr = some_declr (with_params d.declr opening (params_from c.list.items) c.list.ending c.closing);
    closed = closed_by d.declr (innermost s) d.closed;
  }

  abbrev closed_list : CommaList ParamItem Dots → ℕ → Closed
  closed_list ps closing = record { list = ps; closing = closing }

  prototype_is : (d : Declared) (opening : ℕ) (lead : List Attr) (room : ℕ) (s : HeldScopes) (k : List Lexeme)
      → prototype_with inner d opening lead room s k
      ≡ in_scope (λ s. new_scope (is_wide s)) (inside lead (room - 1)) (declared_of d opening) s k
  unfolding prototype_with and_then
  prototype_is d opening lead room s k = by_params (params_with inner lead (room - 1) (enter s) k)
    where
      by_token : (ps : CommaList ParamItem Dots) (r : Read ℕ) →
          and_then r (λ closing. ends (declared_of d opening (closed_list ps closing.tree) closing.scopes)
          (leave closing.scopes) closing.rest) ≡
          and_then (and_then r (λ closing. ends (closed_list ps closing.tree) closing.scopes closing.rest))
          (λ x. ends (declared_of d opening x.tree x.scopes) (leave x.scopes) x.rest)
      by_token ps (Ok t) = refl
      by_token ps (Err e) = refl

      by_params : (r : Read (CommaList ParamItem Dots)) →
          and_then r (λ ps. and_then (token_at is_close_paren ps.scopes ps.rest) (λ closing. ends (declared_of d opening
          (closed_list ps.tree closing.tree) closing.scopes) (leave closing.scopes) closing.rest)) ≡
          and_then (and_then r (λ ps. and_then (token_at is_close_paren ps.scopes ps.rest) (λ closing.
          ends (closed_list ps.tree closing.tree) closing.scopes closing.rest)))
          (λ x. ends (declared_of d opening x.tree x.scopes) (leave x.scopes) x.rest)
      by_params (Ok ps) = by_token ps.tree (token_at is_close_paren ps.scopes ps.rest)
      by_params (Err e) = refl

  pub prototype_good : (d : Declared) (opening : ℕ) (lead : List Attr) (room : ℕ) → room < suc n → 1 ≤ room
      → LeadFits lead (room - 1) → (s : HeldScopes) (ts : List Lexeme)
      → Good true (prototype_with inner d opening lead room) any s ts
  prototype_good d opening lead room less one fit s ts =
      good_as true (in_scope (λ s. new_scope (is_wide s)) (inside lead (room - 1)) (declared_of d opening))
      (prototype_with inner d opening lead room) any s ts (λ k e. prototype_is d opening lead room s k)
      (inr (λ k e. prototype_is d opening lead room s k))
      (own_good (λ s. new_scope (is_wide s)) (inside lead (room - 1)) (declared_of d opening) any s ts
      (inside_good lead (room - 1) (omega (arith, less, one)) fit (new_scope (is_wide s) ∷ s) ts))

  -- no parameters
  pub empty_read : (d : Declared) (opening room : ℕ) (s : HeldScopes) (at : ℕ) →
      (made : Declared) × ((k : List Lexeme) → prototype_with inner d opening [] room s
      (record { kind = kinds.Punct puncts.CloseParen; at = at } ∷ k) ≡ ends made s k)
  unfolding prototype_with params_with and_then
  empty_read d opening room s at = (
    record {
      declr = some_declr (with_params d.declr opening (params_from []) None at);
      closed = closed_by d.declr (new_scope (is_wide s)) d.closed;
    },
    (λ k. refl),
  )

  -- A list of identifiers, in the parentheses behind a declarator of a function.

  abbrev identifiers_made : Bool → Declr → ℕ → List Identifier → ℕ → Declared
  identifiers_made wide d opening names closing =
      record { declr = some_declr (identifiers d opening names closing); closed = Some (new_scope wide) }

  abbrev identifiers_part : Bool → Declr → ℕ → Reader Declared
  identifiers_part wide d opening =
      behind (names_list identifier_at)
      (λ names. behind (token_at is_close_paren) (λ closing. ends (identifiers_made wide d opening names closing)))

  identifiers_good : (d : Declr) (opening : ℕ) (s : HeldScopes) (ts : List Lexeme)
      → Good true (identifiers_with inner d opening) any s ts
  unfolding identifiers_with
  identifiers_good d opening s ts =
      good_as true (identifiers_part (is_wide s) d opening) (identifiers_with inner d opening) any s ts (λ k e. refl)
      (inr (λ k e. refl))
      ((bind_law true (names_list identifier_at) (λ names. behind (token_at is_close_paren)
      (λ closing. ends (identifiers_made (is_wide s) d opening names closing))) any is_close_paren any
      (names_law true identifier_at identifier_shrinks any is_close_paren paren_comma
      (identifier_law true any (λ name. refl)))
      (λ names. bind_law true (token_at is_close_paren)
      (λ closing. ends (identifiers_made (is_wide s) d opening names closing)) is_close_paren any any
      (token_law true is_close_paren (kinds.Punct puncts.CloseParen) is_close_paren close_paren_end refl refl)
      (λ closing. ends_law true (identifiers_made (is_wide s) d opening names closing) any any (λ kind h. h))
      (inr (λ kind h. h)))
      (inl (λ names t us y e. token_then_shrinks is_close_paren
      (λ closing. identifiers_made (is_wide s) d opening names closing) t us y e))).good s ts)

  -- identifiers where a test of the token and the scopes says so, else parameters
  abbrev identified : Bool → Declared → HeldScopes → TokenKind → Bool
  identified flag d s kind = flag && is_bare d.declr && begins_identifiers s kind

  abbrev list_part : Bool → Declared → ℕ → ℕ → Reader Declared
  list_part flag d opening room s ts = list_behind inner (identified flag d s (kind_at ts)) d opening room s ts

  identifiers_shrinks : (d : Declr) (opening : ℕ) → Shrinks (identifiers_with inner d opening)
  unfolding identifiers_with
  identifiers_shrinks d opening s ts x e =
      let a = bind_ok e in
      let b = bind_ok a.2 in
      let less : length a.0.rest < length ts = names_shrink [] none_tokens n inner laws s ts a.0 a.1 in
      omega (arith, less, token_falls is_close_paren _ _ _ b.1, left_is b.2)

  either_shrinks : (b : Bool) (d : Declared) (opening room : ℕ) → Shrinks (list_behind inner b d opening room)
  either_shrinks false d opening room s ts x e =
      prototype_shrinks [] none_tokens n inner laws d opening [] room s ts x e
  either_shrinks true d opening room s ts x e = by_declr d.declr e
    where
      by_declr : (inside : SomeDeclr)
          → identifiers_of inside (λ inside. identifiers_with inner inside opening s ts)
          (prototype_with inner d opening [] room s ts) ≡ done x
          → length x.rest < length ts
      by_declr no_declr e = prototype_shrinks [] none_tokens n inner laws d opening [] room s ts x e
      by_declr (some_declr inside) e = identifiers_shrinks inside opening s ts x e

  list_part_shrinks : (flag : Bool) (d : Declared) (opening room : ℕ) → Shrinks (list_part flag d opening room)
  list_part_shrinks flag d opening room s ts x e =
      either_shrinks (identified flag d s (kind_at ts)) d opening room s ts x e

  list_part_good : (flag : Bool) (d : Declared) (opening room : ℕ) → room < suc n → 1 ≤ room
      → (s : HeldScopes) (ts : List Lexeme) → Good true (list_part flag d opening room) any s ts
  list_part_good flag d opening room less one s ts = by_test (identified flag d s (kind_at ts)) refl
    where
      prototypes : Good true (prototype_with inner d opening [] room) any s ts
      prototypes = prototype_good d opening [] room less one (inl refl) s ts

      by_declr : (inside : SomeDeclr)
          → Good true (λ s ts. identifiers_of inside (λ inside. identifiers_with inner inside opening s ts)
          (prototype_with inner d opening [] room s ts)) any s ts
      by_declr no_declr = prototypes
      by_declr (some_declr inside) = identifiers_good inside opening s ts

      by_test : (b : Bool) → identified flag d s (kind_at ts) ≡ b → Good true (list_part flag d opening room) any s ts
      by_test true is =
          good_as true (λ s ts. identifiers_of d.declr (λ inside. identifiers_with inner inside opening s ts)
          (prototype_with inner d opening [] room s ts)) (list_part flag d opening room) any s ts
          (λ k e. rw (kind_same k ts e, is) refl) (inl (λ x e. list_part_shrinks flag d opening room s ts x (rw is e)))
          (by_declr d.declr)
      by_test false is =
          good_as true (prototype_with inner d opening [] room) (list_part flag d opening room) any s ts
          (λ k e. rw (kind_same k ts e, is) refl)
          (inl (λ x e. list_part_shrinks flag d opening room s ts x (rw is e))) prototypes

  pub params_behind_good : (flag : Bool) (d : Declared) (room : ℕ) → room < suc n → 1 ≤ room
      → (s : HeldScopes) (ts : List Lexeme) → is_open_paren (kind_at ts) ≡ true
      → Good true (params_behind inner flag d room) any s ts
  params_behind_good flag d room less one s ts is =
      take_behind true (λ opening. list_part flag d opening room) any
      (λ opening. record {
        good = λ s ts. list_part_good flag d opening room less one s ts;
        ready = λ s at. record {
          more = kinds.Punct puncts.CloseParen ∷ [];
          tree = (empty_read d opening room s at).0;
          scopes = s;
          keeps = kept_refl true s;
          begins = λ k h. refl;
          reads = λ k h.
              ap (λ (b : Bool). list_behind inner b d opening room s
              (record { kind = kinds.Punct puncts.CloseParen; at = at } ∷ k)) (never flag (is_bare d.declr) (is_wide s))
              ∙ (empty_read d opening room s at).1 k;
        };
      })
      s ts (open_paren_end (kind_at ts) is)
    where
      never : (a b c : Bool) → ((a && b) && (c && false)) ≡ false
      never true true true = refl
      never true true false = refl
      never true false c = refl
      never false b c = refl
