-- What the tokens name, token by token.
use Rattle.std.proofs.Common.{arith, ◌≡◌, ℕ, suc, ◌+◌, nat_eq, nat_lt, Bool, true, false, ◌&&◌, length, slice_get, Option, Some, None, option_map, unwrap_or, inl, inr, refl, sym, ◌∙◌, ap, if◌then◌else◌}
use Rattle.std.proofs.lemmas.Bool.Decides.{eqb_tells, leb_tells}
use Rattle.std.proofs.lemmas.Option.{slice_get_past}
use Rattle.qual_base.proofs.Tests.{is_below, not_below}
use Rattle.c_lexer.specs.declared.token.Token.{Token}
use Rattle.c_lexer.specs.Tokens.{Lexed, mark_of_kind}
use Rattle.name_rules.specs.Spellings.{Place}
use Rattle.name_rules.specs.Scopes.{is_place}
use Rattle.name_tables.specs.declared.place_map.map.PlaceMap.{PlaceMap}
use Rattle.name_tables.specs.PlaceMap.Values.{value_at, or_else}
use Rattle.unit_system.specs.SourceMarks.Marks.{mark_at, mark_in, mark_before, mark_there, IsMarked}

or_assoc : {V : Type 0} (a b c : Option V) → or_else a (or_else b c) ≡ or_else (or_else a b) c
or_assoc None b c = refl
or_assoc (Some v) b c = refl

or_none : {V : Type 0} (o : Option V) → or_else o None ≡ o
or_none None = refl
or_none (Some v) = refl

module _ (lexed : Lexed) where
  -- a token that names an element
  pub with_mark : (n : ℕ) (m : ℕ × ℕ) (old new : PlaceMap (ℕ × ℕ)) → mark_at lexed n ≡ Some m
      → ((p : Place) → value_at new p ≡ (if is_place (lexed.unit, n) p then Some m else value_at old p))
      → IsMarked (mark_there lexed n) old new
  with_mark n m old new is set p = set p ∙ by_test (is_place (lexed.unit, n) p) (value_at old p)
    where
      by_test : (b : Bool) (o : Option (ℕ × ℕ))
          → (if b then Some m else o) ≡ or_else (if b then mark_at lexed n else None) o
      by_test true o = ap (λ (x : Option (ℕ × ℕ)). or_else x o) (sym is)
      by_test false o = refl

  -- and one that names none
  pub without_mark : (n : ℕ) (old : PlaceMap (ℕ × ℕ)) → mark_at lexed n ≡ None → IsMarked (mark_there lexed n) old old
  without_mark n old is p = by_test (is_place (lexed.unit, n) p) (value_at old p)
    where
      by_test : (b : Bool) (o : Option (ℕ × ℕ)) → o ≡ or_else (if b then mark_at lexed n else None) o
      by_test true o = ap (λ (x : Option (ℕ × ℕ)). or_else x o) (sym is)
      by_test false o = refl

  same_below : (k n : ℕ) → (n ≡ k → ⊥) → nat_lt k (n + 1) ≡ nat_lt k n
  same_below k n apart = elim (leb_tells (suc k) n) [
    | inl a ↦ is_below k (n + 1) (let h = a.1 in omega arith) ∙ sym a.0
    | inr b ↦ elim (leb_tells (suc k) (n + 1)) [
      | inl c ↦ absurd (apart (let h = b.1 in let e = c.1 in omega arith))
      | inr d ↦ d.0 ∙ sym b.0
    ]
  ]

  -- the first tokens, and the next one
  with_one : (n : ℕ) (p : Place) → or_else (mark_there lexed n p) (mark_before lexed n p) ≡ mark_before lexed (n + 1) p
  with_one n p = by_unit (nat_eq lexed.unit p.0)
    where
      by_unit : (u : Bool)
          → or_else (if u && nat_eq n p.1 then mark_at lexed n else None)
          (if u && nat_lt p.1 n then mark_at lexed p.1 else None)
          ≡ (if u && nat_lt p.1 (n + 1) then mark_at lexed p.1 else None)
      by_unit false = refl
      by_unit true = elim (eqb_tells n p.1) [
        | inl a ↦
            ap (λ (b : Bool). or_else (if b then mark_at lexed n else None)
            (if nat_lt p.1 n then mark_at lexed p.1 else None)) a.0
            ∙ ap (λ (b : Bool). or_else (mark_at lexed n) (if b then mark_at lexed p.1 else None))
            (not_below p.1 n (let e = a.1 in omega arith)) ∙ or_none (mark_at lexed n)
            ∙ ap (λ (k : ℕ). mark_at lexed k) a.1 ∙ ap (λ (b : Bool). if b then mark_at lexed p.1 else None)
            (sym (is_below p.1 (n + 1) (let e = a.1 in omega arith)))
        | inr d ↦
            ap (λ (b : Bool). or_else (if b then mark_at lexed n else None)
            (if nat_lt p.1 n then mark_at lexed p.1 else None)) d.0
            ∙ ap (λ (b : Bool). if b then mark_at lexed p.1 else None) (sym (same_below p.1 n d.1))
      ]

  pub mark_next : (n : ℕ) (first old new : PlaceMap (ℕ × ℕ)) → IsMarked (mark_before lexed n) first old
      → IsMarked (mark_there lexed n) old new → IsMarked (mark_before lexed (n + 1)) first new
  mark_next n first old new before next p =
      next p
      ∙ ap (λ (o : Option (ℕ × ℕ)). or_else (mark_there lexed n p) o) (before p)
      ∙ or_assoc (mark_there lexed n p) (mark_before lexed n p) (value_at first p)
      ∙ ap (λ (o : Option (ℕ × ℕ)). or_else o (value_at first p)) (with_one n p)

  -- of all tokens
  all_before : (p : Place) → mark_before lexed (length lexed.tokens) p ≡ mark_in lexed p
  all_before p = by_unit (nat_eq lexed.unit p.0)
    where
      by_unit : (u : Bool) → (if u && nat_lt p.1 (length lexed.tokens) then mark_at lexed p.1 else None)
          ≡ (if u then mark_at lexed p.1 else None)
      by_unit false = refl
      by_unit true = elim (leb_tells (suc p.1) (length lexed.tokens)) [
        | inl a ↦ ap (λ (b : Bool). if b then mark_at lexed p.1 else None) a.0
        | inr b ↦ ap (λ (c : Bool). if c then mark_at lexed p.1 else None) b.0
            ∙ sym (ap (λ (o : Option Token). unwrap_or (option_map (λ token. mark_of_kind lexed token.kind) o) None)
            (slice_get_past lexed.tokens p.1 (let h = b.1 in omega arith)))
      ]

  pub mark_all : (n : ℕ) (old new : PlaceMap (ℕ × ℕ)) → n ≡ length lexed.tokens → IsMarked (mark_before lexed n) old new
      → IsMarked (mark_in lexed) old new
  mark_all n old new is marked p =
      marked p
      ∙ ap (λ (k : ℕ). or_else (mark_before lexed k p) (value_at old p)) is
      ∙ ap (λ (o : Option (ℕ × ℕ)). or_else o (value_at old p)) (all_before p)

  -- of none
  pub none_before : (old : PlaceMap (ℕ × ℕ)) → IsMarked (mark_before lexed 0) old old
  none_before old p = by_unit (nat_eq lexed.unit p.0)
    where
      by_unit : (u : Bool)
          → value_at old p ≡ or_else (if u && nat_lt p.1 0 then mark_at lexed p.1 else None) (value_at old p)
      by_unit false = refl
      by_unit true =
          ap (λ (b : Bool). or_else (if b then mark_at lexed p.1 else None) (value_at old p))
          (sym (not_below p.1 0 (omega arith)))

  -- what is read of a token
  pub mark_read : (n : ℕ) (o : Option (ℕ × ℕ))
      → option_map (λ token. mark_of_kind lexed token.kind) (slice_get lexed.tokens n) ≡ Some o → mark_at lexed n ≡ o
  mark_read n o is = ap (λ (x : Option (Option (ℕ × ℕ))). unwrap_or x None) is
