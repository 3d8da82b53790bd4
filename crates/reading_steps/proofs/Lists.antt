-- Items one behind another, and lists with commas.
use Rattle.std.proofs.Common.{◌≡◌, ℕ, Bool, true, false, List, [], ◌∷◌, ◌++◌, inl, inr, Option, Some, None, refl, ◌∙◌, ap}
use Rattle.c_words.specs.declared.kinds.TokenKind.{TokenKind}
use Rattle.c_words.specs.declared.kinds.TokenKind.TheVariants as kinds
use Rattle.c_words.specs.declared.kinds.Punct.TheVariants.{Comma}
use Rattle.c_tree.specs.declared.lexeme.Lexeme.{Lexeme}
use Rattle.c_units.specs.HeldScopes.{HeldScopes}
use Rattle.c_reading.specs.declared.kinds.FaultKind.TheVariants.{Unexpected}
use Rattle.c_reading.specs.Reading.{Reader, and_then, ends, refuses, kind_at, take_one, run, repeated, listed, comma_turn, comma_turn_by, with_next, Next, CommaList, is_comma}
use Rattle.c_reading.specs.Tokens.{is_end}
use Rattle.c_reading.proofs.Loops.{TurnShrinks}
use Rattle.c_reading.proofs.Forms.{Falls, Shrinks}
use Rattle.c_reading.proofs.Rows.{row_turn_shrinks}
use Rattle.c_reading.proofs.Commas.{comma_turn_shrinks}
use Rattle.reading_steps.specs.Steps.{first_kind, any, Good, Ready, Law}
use Rattle.reading_steps.proofs.Keeping.{kept_refl}
use Rattle.reading_steps.proofs.Steps.{behind, GoodTurn, run_stops, run_good, guarded_law, bind_good, bind_law, ready_bind, take_behind, ends_good, ends_law, ready_ends}

comma_no_end : (kind : TokenKind) → is_comma kind ≡ true → is_end kind ≡ false
comma_no_end (kinds.Punct Comma) h = refl
comma_no_end kind h = absurd cc

module _ (keep : Bool) where
  -- Items, as long as a token that passes a test begins one.
  pub repeated_law : {T : Type 0} (begins : TokenKind → Bool) (read : Reader T) → Shrinks read
      → (front stops : TokenKind → Bool) → ((kind : TokenKind) → stops kind ≡ true → front kind ≡ true) →
      ((kind : TokenKind) → stops kind ≡ true → begins kind ≡ false)
      → ((s : HeldScopes) (ts : List Lexeme) → begins (kind_at ts) ≡ true → Good keep read stops s ts)
      → Law keep (repeated begins read) front stops
  unfolding repeated
  repeated_law {T} begins read shrinks front stops fronts off g =
      guarded_law keep begins (λ xs. behind read (λ x. ends (xs ++ x ∷ [])))
      (row_turn_shrinks begins read shrinks) front stops fronts off
      (λ xs s ts is. bind_good keep read (λ x. ends (xs ++ x ∷ [])) stops stops s ts
      (λ tree scopes gives at. ready_ends keep (xs ++ tree ∷ []) stops stops scopes at (λ kind h. h)) (g s ts is)
      (λ x e. ends_good keep (xs ++ x.tree ∷ []) stops x.scopes x.rest) (inr (λ kind h. h))) []

  -- What stands behind commas. A list may end behind one, and then it goes on no more.
  module _ {T E : Type 0} (next : ℕ → Reader (Next T E)) (falls : (comma : ℕ) → Falls (next comma))
      (front stops : TokenKind → Bool) (fronts : (kind : TokenKind) → stops kind ≡ true → front kind ≡ true)
      (off : (kind : TokenKind) → stops kind ≡ true → is_comma kind ≡ false)
      (next_law : (comma : ℕ) → Law keep (next comma) any stops) where
    shrinks : TurnShrinks (comma_turn next)
    shrinks = comma_turn_shrinks (λ s ts. refuses Unexpected ts) next falls

    -- one more, at its comma
    abbrev one_behind : List T → Reader (CommaList T E)
    one_behind xs = behind take_one (λ comma. behind (next comma) (λ y. ends (with_next xs y)))

    one_good : (xs : List T) (s : HeldScopes) (ts : List Lexeme) → is_comma (kind_at ts) ≡ true
        → Good keep (one_behind xs) stops s ts
    one_good xs s ts is =
        take_behind keep (λ comma. behind (next comma) (λ y. ends (with_next xs y))) stops
        (λ comma. bind_law keep (next comma) (λ y. ends (with_next xs y)) any stops stops (next_law comma)
        (λ y. ends_law keep (with_next xs y) stops stops (λ kind h. h)) (inr (λ kind h. h))) s ts
        (comma_no_end (kind_at ts) is)

    none : (a : CommaList T E) (s : HeldScopes) (k : List Lexeme) → stops (kind_at k) ≡ true
        → comma_turn next a s k ≡ None
    none a s k h = by_ending a.ending a.items k h
      where
        by_ending : (o : Option E) (xs : List T) (k : List Lexeme) → stops (kind_at k) ≡ true
            → comma_turn_by next o xs s k ≡ None
        by_ending (Some e) xs k h = refl
        by_ending None xs [] h = refl
        by_ending None xs (t ∷ k) h = rw (off t.kind h) refl

    step : (a : CommaList T E) (s : HeldScopes) (ts : List Lexeme) → GoodTurn keep (comma_turn next) stops a s ts
    unfolding and_then
    step a s ts = by_ending a.ending refl
      where
        turn_is : (o : Option E) → a.ending ≡ o → (k : List Lexeme)
            → comma_turn next a s k ≡ comma_turn_by next o a.items s k
        turn_is o is k = ap (λ (o : Option E). comma_turn_by next o a.items s k) is

        no_tokens : (k : List Lexeme) → first_kind k ≡ None → comma_turn_by next None a.items s k ≡ None
        no_tokens [] h = refl
        no_tokens (t ∷ k) h = absurd cc

        no_comma : (u : Lexeme) → is_comma u.kind ≡ false → (k : List Lexeme) → first_kind k ≡ Some u.kind
            → comma_turn_by next None a.items s k ≡ None
        no_comma u is [] h = absurd cc
        no_comma u is (t ∷ k) h = let same : t.kind ≡ u.kind = cc in rw (same, is) refl

        a_comma : (u : Lexeme) → is_comma u.kind ≡ true → (k : List Lexeme) → first_kind k ≡ Some u.kind
            → comma_turn_by next None a.items s k ≡ Some (one_behind a.items s k)
        a_comma u is [] h = absurd cc
        a_comma u is (t ∷ k) h = let same : t.kind ≡ u.kind = cc in rw (same, is) refl

        by_ending : (o : Option E) → a.ending ≡ o → GoodTurn keep (comma_turn next) stops a s ts
        by_ending (Some e) is = inl (λ k h. turn_is (Some e) is k)
        by_ending None is = by_tokens ts refl
          where
            by_tokens : (us : List Lexeme) → ts ≡ us → GoodTurn keep (comma_turn next) stops a s ts
            by_tokens [] e = inl (λ k h. turn_is None is k ∙ no_tokens k (h ∙ ap first_kind e))
            by_tokens (u ∷ us) e = by_comma (is_comma u.kind) refl
              where
                by_comma : (b : Bool) → is_comma u.kind ≡ b → GoodTurn keep (comma_turn next) stops a s ts
                by_comma false other = inl (λ k h. turn_is None is k ∙ no_comma u other k (h ∙ ap first_kind e))
                by_comma true comma =
                    inr (
                      one_behind a.items,
                      (λ k h. turn_is None is k ∙ a_comma u comma k (h ∙ ap first_kind e)),
                      one_good a.items s ts (ap (λ (ts : List Lexeme). is_comma (kind_at ts)) e ∙ comma),
                    )

    pub commas_law : (a : CommaList T E) → Law keep (run (comma_turn next) a) front stops
    commas_law a = record {
      good = λ s ts. run_good keep (comma_turn next) shrinks stops none step a s ts;
      ready = λ s at. record {
        more = [];
        tree = a;
        scopes = s;
        keeps = kept_refl keep s;
        begins = λ k h. fronts (kind_at k) h;
        reads = λ k h. run_stops keep (comma_turn next) shrinks stops none a s k h;
      };
    }

    -- with a first item before the commas
    pub listed_good : (first : Reader T) (s : HeldScopes) (ts : List Lexeme) → Good keep first front s ts
        → Good keep (listed first next) stops s ts
    unfolding listed
    listed_good first s ts g =
        bind_good keep first (λ x. run (comma_turn next) (record { items = x ∷ []; ending = None })) front stops s ts
        (λ tree scopes gives at. (commas_law (record { items = tree ∷ []; ending = None })).ready scopes at) g
        (λ x e. (commas_law (record { items = x.tree ∷ []; ending = None })).good x.scopes x.rest) (inr fronts)

    pub listed_ready : (first : Reader T) (begin : TokenKind → Bool) (s : HeldScopes) (at : ℕ)
        → Ready keep first begin front s at → Ready keep (listed first next) begin stops s at
    unfolding listed
    listed_ready first begin s at r =
        ready_bind keep first
        (λ x. run (comma_turn next) (record { items = x ∷ []; ending = None })) begin front stops s at r
        (λ tree scopes gives at. (commas_law (record { items = tree ∷ []; ending = None })).ready scopes at)

    pub listed_law : (first : Reader T) (begin : TokenKind → Bool) → Law keep first begin front
        → Law keep (listed first next) begin stops
    listed_law first begin l = record {
      good = λ s ts. listed_good first s ts (l.good s ts);
      ready = λ s at. listed_ready first begin s at (l.ready s at);
    }
