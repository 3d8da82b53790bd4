-- The spot of a place, and those of tokens.
use Rattle.std.proofs.Common.{◌≡◌, ◌≢◌, ℕ, zero, suc, ◌+◌, ◌-◌, ◌<◌, ◌≤◌, inl, inr, Bool, true, false, not, List, [], ◌∷◌, length, take, get_or, reverse, Some, unwrap_or, slice_get, if◌then◌else◌, refl, sym, ◌∙◌, ap, subst, arith}
use Rattle.std.specs.Prelude.{nat_eq, nat_le}
use Rattle.std.specs.Option.{option_map}
use Rattle.std.proofs.lemmas.Option.{slice_get-map}
use Rattle.std.proofs.lemmas.List.{length-reverse, get_or-reverse, length-take-le, get_or-take}
use Rattle.std.proofs.lemmas.List.Sums.{prefix_len_is}
use Rattle.std.proofs.lemmas.Bool.{le-leb, lt-leb, eq-eqb, ne_eqb}
use Rattle.qual_base.specs.declared.places.Spot.{Spot}
use Rattle.c_lexer.specs.declared.places.Mark.{Mark}
use Rattle.c_lexer.specs.declared.token.Token.{Token}
use Rattle.c_lexer.specs.Places.{no_mark, governing, before_in_line, line_by, spot_at, Governs, IsLineOf, IsSpot}
use Rattle.c_lexer.specs.Tokens.{Lexed, start_of, token_spot}
use Rattle.c_lexer.specs.Places.Governs.{none, last}

-- ---- the linemarker that governs a place

governing_step : (before m : Mark) (marks : List Mark) (at : ℕ) (b : Bool) → nat_le m.from at ≡ b
    → governing before (m ∷ marks) at ≡ (if b then governing m marks at else governing before marks at)
governing_step before m marks at b is =
    ap (λ (c : Bool). if c then governing m marks at else governing before marks at) is

-- none of the linemarkers begins at or before the place
none_later : (before : Mark) (marks : List Mark) (at : ℕ)
    → ((k : ℕ) (m : Mark) → slice_get marks k ≡ Some m → at < m.from) → governing before marks at ≡ before
none_later before [] at later = refl
none_later before (m ∷ marks) at later =
    governing_step before m marks at false (lt-leb m.from at (later 0 m refl))
    ∙ none_later before marks at (λ k n there. later (suc k) n there)

some_is : {x y : Mark} → Some x ≡ Some y → x ≡ y
some_is e = cc

-- the last mark whose lines begin at or before a place is the governing one
governs_last : (before : Mark) (marks : List Mark) (at k : ℕ) (mark : Mark) → slice_get marks k ≡ Some mark
    → mark.from ≤ at →
    ((j : ℕ) (m : Mark) → k < j → slice_get marks j ≡ Some m → at < m.from) → governing before marks at ≡ mark
governs_last before [] at k mark there from later = absurd cc
governs_last before (m ∷ marks) at zero mark there from later =
    let same : m ≡ mark = some_is there in
    let At : Mark → Type 0 = λ n. n.from ≤ at in
    governing_step before m marks at true (le-leb m.from at (subst At (sym same) from))
    ∙ none_later m marks at (λ k n is. later (suc k) n (omega arith) is) ∙ same
governs_last before (m ∷ marks) at (suc k) mark there from later =
    let on : (b : Mark) → governing b marks at ≡ mark =
    λ b. governs_last b marks at k mark there from (λ j n h is. later (suc j) n (omega (arith, h)) is) in
    by_test on (nat_le m.from at) refl
  where
    by_test : ((b : Mark) → governing b marks at ≡ mark) → (b : Bool) → nat_le m.from at ≡ b
        → governing before (m ∷ marks) at ≡ mark
    by_test on true is = governing_step before m marks at true is ∙ on m
    by_test on false is = governing_step before m marks at false is ∙ on before

governed : (marks : List Mark) (at : ℕ) (mark : Mark) → Governs marks at mark → mark ≡ governing no_mark marks at
governed marks at mark (none is later) = is ∙ sym (none_later no_mark marks at later)
governed marks at mark (last k there from later) = sym (governs_last no_mark marks at k mark there from later)

-- ---- how many bytes stand before a place in its line

module _ (bytes : List ℕ) (at from : ℕ) (inside : at ≤ length bytes) (line : IsLineOf bytes at from) where
  front_length : length (take at bytes) ≡ at
  front_length = length-take-le at bytes inside

  front_at : (k : ℕ) → k < at → get_or (reverse (take at bytes)) k 0 ≡ get_or bytes (at - 1 - k) 0
  front_at k h =
      get_or-reverse (take at bytes) k 0 (omega (arith, h, front_length)) ∙ ap
      (λ n. get_or (take at bytes) (n - 1 - k) 0) front_length ∙ get_or-take at bytes (at - 1 - k) 0 (omega (arith, h))

  passes : (k : ℕ) → k < at - from → not (nat_eq (get_or (reverse (take at bytes)) k 0) 10) ≡ true
  passes k h =
      let le = line.within in
      let other : get_or (reverse (take at bytes)) k 0 ≢ 10 = λ is.
      line.no_feed (at - 1 - k) (omega (arith, h, le)) (omega (arith, h)) (sym (front_at k (omega (arith, h))) ∙ is) in
      ap not (ne_eqb _ 10 other)

  stops : at - from < at → not (nat_eq (get_or (reverse (take at bytes)) (at - from) 0) 10) ≡ false
  stops h =
      let le = line.within in
      elim line.begins [
        | inl zero_is ↦ absurd (omega (arith, zero_is, h))
        | inr feed ↦
            let place : at - 1 - (at - from) ≡ from - 1 = omega (arith, le, h) in
            ap not (eq-eqb _ 10 (front_at (at - from) h ∙ ap (λ n. get_or bytes n 0) place ∙ feed))
      ]

  column_is : before_in_line bytes at ≡ at - from
  column_is =
      let count : length (reverse (take at bytes)) ≡ at = length-reverse (take at bytes) ∙ front_length in
      prefix_len_is (λ b. not (nat_eq b 10)) (reverse (take at bytes)) (at - from) 0 (omega (arith, count)) passes
      (λ h. stops (omega (arith, h, count)))

abbrev spot_with : ℕ → ℕ → ℕ → ℕ → ℕ → Spot
spot_with unit from to line column =
    record { unit = unit; name_from = from; name_to = to; line = line; column = column }

-- a spot is the one with its five fields
spot_by_fields : (s : Spot) (u f t l c : ℕ) → s.unit ≡ u → s.name_from ≡ f → s.name_to ≡ t → s.line ≡ l → s.column ≡ c
    → s ≡ spot_with u f t l c
spot_by_fields s u f t l c a b d e g =
    ap (λ x. spot_with x s.name_from s.name_to s.line s.column) a ∙ ap (λ x. spot_with u x s.name_to s.line s.column) b
    ∙ ap (λ x. spot_with u f x s.line s.column) d
    ∙ ap (λ x. spot_with u f t x s.column) e ∙ ap (λ x. spot_with u f t l x) g

-- A spot that names a place is the spot of the place.
pub spot_is : (unit : ℕ) (bytes : List ℕ) (marks : List Mark) (at : ℕ) (spot : Spot) → at ≤ length bytes
    → IsSpot unit bytes marks at spot → spot ≡ spot_at unit bytes marks at
spot_is unit bytes marks at spot inside is =
    let same = governed marks at is.mark is.governs in
    let from : spot.name_from ≡ (governing no_mark marks at).name_from =
    is.name_from ∙ ap (λ (m : Mark). m.name_from) same in
    let to : spot.name_to ≡ (governing no_mark marks at).name_to = is.name_to ∙ ap (λ (m : Mark). m.name_to) same in
    let line : spot.line ≡ line_by bytes (governing no_mark marks at) at =
    is.line ∙ ap (λ (m : Mark). line_by bytes m at) same in
    let column : spot.column ≡ before_in_line bytes at + 1 =
    is.column ∙ ap (λ n. n + 1) (sym (column_is bytes at is.line_from inside is.line_of)) in
    spot_by_fields spot _ _ _ _ _ is.unit_is from to line column

-- ---- where tokens begin

pub start_is : (tokens : List Token) (n start : ℕ)
    → option_map (λ (token : Token). token.start) (slice_get tokens n) ≡ Some start → start_of tokens n ≡ start
start_is tokens n start is = ap (λ o. unwrap_or o 0) (slice_get-map (λ (token : Token). token.start) tokens n ∙ is)

-- the spot of where a token begins is the token's
module _ (lexed : Lexed) (unit : ℕ) (bytes : List ℕ) (marks : List Mark) (unit_is : unit ≡ lexed.unit)
    (bytes_are : bytes ≡ lexed.bytes) (marks_are : marks ≡ lexed.marks)
    (n start : ℕ) (spot : Spot)
    (begins : option_map (λ (token : Token). token.start) (slice_get lexed.tokens n) ≡ Some start) where
  pub spot_of_start : spot ≡ spot_at unit bytes marks start → spot ≡ token_spot lexed n
  spot_of_start is =
      is ∙ ap (λ u. spot_at u bytes marks start) unit_is ∙ ap (λ b. spot_at lexed.unit b marks start) bytes_are
      ∙ ap (λ m. spot_at lexed.unit lexed.bytes m start) marks_are
      ∙ ap (spot_at lexed.unit lexed.bytes lexed.marks) (sym (start_is lexed.tokens n start begins))

  pub names_start : IsSpot unit bytes marks start spot
      → IsSpot lexed.unit lexed.bytes lexed.marks (start_of lexed.tokens n) spot
  names_start is =
      let Unit : ℕ → Type 0 = λ u. IsSpot u bytes marks start spot in
      let Bytes : List ℕ → Type 0 = λ b. IsSpot lexed.unit b marks start spot in
      let Marks : List Mark → Type 0 = λ m. IsSpot lexed.unit lexed.bytes m start spot in
      let At : ℕ → Type 0 = λ at. IsSpot lexed.unit lexed.bytes lexed.marks at spot in
      subst At (sym (start_is lexed.tokens n start begins))
      (subst Marks marks_are (subst Bytes bytes_are (subst Unit unit_is is)))
