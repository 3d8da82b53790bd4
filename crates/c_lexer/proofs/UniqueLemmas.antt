-- Bytes spell at most one list of tokens, and none where reading stops.
use Rattle.std.proofs.Common.{◌≡◌, ◌≢◌, ℕ, zero, suc, ◌+◌, ◌-◌, ◌<◌, ◌≤◌, Bool, true, false, not, cond, ◌&&◌, ◌||◌, ◌==◌, List, [], ◌∷◌, ◌++◌, length, take, drop, refl, sym, ◌∙◌, ap, arith, nat_eq, None, inl, inr, ◌⊎◌, if◌then◌else◌}
use Rattle.std.specs.Prelude.{slice_range}
use Rattle.std.specs.List.{starts_with, prefix_len}
use Rattle.std.proofs.lemmas.Bool.{both_ways, and_parts, or_cases, or_left, or_right, eqb-true, ne_eqb, cases_order}
use Rattle.std.proofs.lemmas.Bool.Decides.{nat_tests}
use Rattle.c_lexer.specs.declared.gaps.Gap.{Gap}
use Rattle.c_lexer.specs.declared.gaps.Gap.TheVariants.{Blank, LineFeed, OtherSpace, BlockComment, LineComment, SkippedLine}
use Rattle.c_lexer.specs.declared.marks.Marker.{Marker}
use Rattle.c_lexer.specs.declared.marks.Parts.{Parts}
use Rattle.c_lexer.specs.declared.places.Mark.{Mark}
use Rattle.c_lexer.specs.Words.{signs, sign_kind}
use Rattle.c_lexer.specs.Spelling.{is_digit, is_quoted, is_quoted_tail, is_token, begins_with, begins_comment}
use Rattle.c_lexer.specs.Gaps.{is_blank, is_other_space, IsBlockComment, IsGap}
use Rattle.c_lexer.specs.Marks.{IsMarker, decimal}
use Rattle.c_lexer.specs.Reading.{mark_of, MarksBehind}
use Rattle.c_lexer.proofs.SignLemmas.{no_sign}
use Rattle.c_lexer.proofs.TokenLemmas.{no_token}
use Rattle.c_lexer.proofs.MarkLemmas.{IsReadAt, same_parts, file_len}
use Rattle.c_lexer.proofs.StepLemmas.{nil_token}

-- the kind of gap that some bytes can begin with
abbrev gap_class : List ℕ → Gap
gap_class [] = Blank
gap_class (c ∷ cs) =
    if is_blank c then Blank else (if c == 10 then LineFeed else (if is_other_space c then OtherSpace
    else (if c == 35 then SkippedLine else (if begins_with (λ d. d == 42) cs then BlockComment else LineComment))))

-- bytes that start with a slash and a byte have these as their first two
slash_then : (b c d : ℕ) (r : List ℕ) → starts_with nat_eq (c ∷ d ∷ r) (47 ∷ b ∷ []) ≡ true → (c ≡ 47) × (d ≡ b)
slash_then b c d r h =
    let parts = and_parts (nat_eq 47 c) (nat_eq b d && true) h in
    (sym (eqb-true 47 c parts.0), sym (eqb-true b d (and_parts (nat_eq b d) true parts.1).0))

slash_one : (b c : ℕ) → starts_with nat_eq (c ∷ []) (47 ∷ b ∷ []) ≡ true → ⊥
slash_one b c h = let parts = and_parts (nat_eq 47 c) false h in cc

-- a gap's kind is the one that its first bytes determine
gap_class-is : (gap : Gap) (fresh : Bool) (bytes : List ℕ) (n : ℕ) → IsGap gap fresh bytes n → gap_class bytes ≡ gap
gap_class-is Blank fresh [] n h = refl
gap_class-is Blank fresh (c ∷ cs) n h = rw h.0 refl
gap_class-is LineFeed fresh [] n h = absurd (let e = h.0 in cc)
gap_class-is LineFeed fresh (c ∷ cs) n h = let e : c ≡ 10 = eqb-true c 10 h.0 in rw e refl
gap_class-is OtherSpace fresh [] n h = absurd (let e = h.0 in cc)
gap_class-is OtherSpace fresh (c ∷ cs) n h =
    let other : is_other_space c ≡ true = h.0 in
    rw (
      let e : is_blank c ≡ false = grind (arith, nat_tests) in e,
      let e : (c == 10) ≡ false = grind (arith, nat_tests) in e,
      other,
    ) refl
gap_class-is BlockComment fresh [] n h = absurd (let e = h.opens in cc)
gap_class-is BlockComment fresh (c ∷ []) n h = absurd (slash_one 42 c h.opens)
gap_class-is BlockComment fresh (c ∷ d ∷ r) n h = let e = slash_then 42 c d r h.opens in rw (e.0, e.1) refl
gap_class-is LineComment fresh [] n h = absurd (let e = h.0 in cc)
gap_class-is LineComment fresh (c ∷ []) n h = absurd (slash_one 47 c h.0)
gap_class-is LineComment fresh (c ∷ d ∷ r) n h = let e = slash_then 47 c d r h.0 in rw (e.0, e.1) refl
gap_class-is SkippedLine fresh [] n h = absurd (let e = h.1 in cc)
gap_class-is SkippedLine fresh (c ∷ cs) n h = let e : c ≡ 35 = eqb-true c 35 h.1 in rw e refl

pub gap-unique : (fresh : Bool) (bytes : List ℕ) (one other : Gap) (n k : ℕ) → IsGap one fresh bytes n
    → IsGap other fresh bytes k → one ≡ other
gap-unique fresh bytes one other n k h g = sym (gap_class-is one fresh bytes n h) ∙ gap_class-is other fresh bytes k g

block_len : (bytes : List ℕ) (n k : ℕ) → IsBlockComment bytes n → IsBlockComment bytes k → n < k → ⊥
block_len bytes n k h g lt = let long = h.long in g.first (n - 2) (omega arith) (omega arith) h.closes

-- two gaps of one kind in front of the same bytes have one length
pub gap-len : (gap : Gap) (fresh : Bool) (bytes : List ℕ) (n k : ℕ) → IsGap gap fresh bytes n → IsGap gap fresh bytes k
    → n ≡ k
gap-len Blank fresh bytes n k h g = h.1 ∙ sym g.1
gap-len LineFeed fresh bytes n k h g = h.1 ∙ sym g.1
gap-len OtherSpace fresh bytes n k h g = h.1 ∙ sym g.1
gap-len BlockComment fresh bytes n k h g = by_order (cases_order n k)
  where
    by_order : (n ≡ k) ⊎ ((n < k) ⊎ (k < n)) → n ≡ k
    by_order (inl e) = e
    by_order (inr (inl lt)) = absurd (block_len bytes n k h g lt)
    by_order (inr (inr gt)) = absurd (block_len bytes k n g h gt)
gap-len LineComment fresh bytes n k h g = h.1 ∙ sym g.1
gap-len SkippedLine fresh bytes n k h g = h.2 ∙ sym g.2

-- quoted bytes in front have one length
quoted_more : (quote : ℕ) → quote ≢ 92 → (bytes : List ℕ) (k n : ℕ) → k < n → n ≤ length bytes
    → is_quoted_tail quote (take k bytes) ≡ true → is_quoted_tail quote (take n bytes) ≡ false
quoted_more quote plain bytes zero n lt le h = absurd cc
quoted_more quote plain [] (suc k) n lt le h = absurd cc
quoted_more quote plain (c ∷ cs) (suc k) zero lt le h = absurd (omega arith)
quoted_more quote plain (c ∷ []) (suc zero) (suc n) lt le h = absurd (omega arith)
quoted_more quote plain (c ∷ []) (suc (suc k)) (suc n) lt le h = absurd (omega arith)
quoted_more quote plain (c ∷ d ∷ cs) (suc zero) (suc zero) lt le h = absurd (omega arith)
quoted_more quote plain (c ∷ d ∷ cs) (suc zero) (suc (suc n)) lt le h =
    let same : c ≡ quote = eqb-true c quote h in
    rw (let e : (c == 92) ≡ false = ne_eqb c 92 (λ e. plain (sym same ∙ e)) in e, h) refl
quoted_more quote plain (c ∷ d ∷ cs) (suc (suc k)) (suc zero) lt le h = absurd (omega arith)
quoted_more quote plain (c ∷ d ∷ cs) (suc (suc k)) (suc (suc n)) lt le h =
    by_test (c == 92) h (λ h. quoted_more quote plain cs k n (omega arith) (omega arith) h)
    (λ h. quoted_more quote plain (d ∷ cs) (suc k) (suc n) (omega arith) (omega arith) h)
  where
    by_test : (b : Bool)
        → cond b (not (d == 10) && is_quoted_tail quote (take k cs))
        (not (c == quote) && not (c == 10) && is_quoted_tail quote (d ∷ take k cs)) ≡ true →
        (is_quoted_tail quote (take k cs) ≡ true → is_quoted_tail quote (take n cs) ≡ false) →
        (is_quoted_tail quote (d ∷ take k cs) ≡ true → is_quoted_tail quote (d ∷ take n cs) ≡ false) →
        cond b (not (d == 10) && is_quoted_tail quote (take n cs))
        (not (c == quote) && not (c == 10) && is_quoted_tail quote (d ∷ take n cs)) ≡ false
    by_test true h escaped other = let parts = and_parts (not (d == 10)) _ h in rw (parts.0, escaped parts.1) refl
    by_test false h escaped other =
        let parts = and_parts (not (c == quote) && not (c == 10)) _ h in
        rw (parts.0, other parts.1) refl

plain_quote : (quote : ℕ) → quote ≡ 34 → quote ≢ 92
plain_quote quote is e = omega (arith, is, e)

-- of two fronts of different lengths not both are quoted
quoted_apart : (bytes : List ℕ) (k n : ℕ) → k < n → n ≤ length bytes → is_quoted 34 (take k bytes) ≡ true
    → is_quoted 34 (take n bytes) ≡ true → ⊥
quoted_apart bytes zero n lt le h g = cc
quoted_apart [] (suc k) n lt le h g = cc
quoted_apart (c ∷ cs) (suc k) zero lt le h g = cc
quoted_apart (c ∷ cs) (suc k) (suc n) lt le h g =
    both_ways _ (quoted_more 34 (plain_quote 34 refl) cs k n (omega arith) (omega arith) (and_parts (c == 34) _ h).1)
    (and_parts (c == 34) _ g).1

-- two quoted fronts of the same bytes have one length
quoted_len : (bytes : List ℕ) (k n : ℕ) → k ≤ length bytes → n ≤ length bytes → is_quoted 34 (take k bytes) ≡ true
    → is_quoted 34 (take n bytes) ≡ true → k ≡ n
quoted_len bytes k n le within h g = by_order (cases_order k n)
  where
    by_order : (k ≡ n) ⊎ ((k < n) ⊎ (n < k)) → k ≡ n
    by_order (inl e) = e
    by_order (inr (inl lt)) = absurd (quoted_apart bytes k n lt within h g)
    by_order (inr (inr gt)) = absurd (quoted_apart bytes n k gt le g h)

-- where the parts of a line are read
abbrev parts_in : List ℕ → Parts
parts_in line =
    let digits_at = 1 + prefix_len is_blank (drop 1 line) in
    let digits_end = digits_at + prefix_len is_digit (drop digits_at line) in
    record {
      digits_at = digits_at;
      digits_end = digits_end;
      quote_at = digits_end + prefix_len is_blank (drop digits_end line);
    }

same_marker : (a b : Marker) → a.number ≡ b.number → a.name_from ≡ b.name_from → a.name_to ≡ b.name_to → a ≡ b
same_marker a b n f t = λ i. record { number = n i; name_from = f i; name_to = t i }

-- a line is one linemarker at most
pub marker-unique : (line : List ℕ) (a b : Marker) → IsMarker line a → IsMarker line b → a ≡ b
marker-unique line a b h g =
    let read : IsReadAt line (parts_in line) = record { digits_at = refl; digits_end = refl; quote_at = refl } in
    let one = same_parts line (parts_in line) read a h in
    let other = same_parts line (parts_in line) read b g in
    let file = file_len line (parts_in line) read a h in
    let file' = file_len line (parts_in line) read b g in
    let len = quoted_len (drop (parts_in line).quote_at line) file.0 file'.0 file.1 file'.1 file.2 file'.2 in
    let ends : a.name_to + 1 ≡ b.name_to + 1 = file.3 ∙ ap (λ n. (parts_in line).quote_at + n) len ∙ sym file'.3 in
    same_marker a b
    (h.number ∙ ap (λ (at : ℕ × ℕ). decimal (slice_range line at.0 at.1))
    (let e : (h.digits_at, h.digits_end) ≡ (g.digits_at, g.digits_end) =
    λ i. ((one.digits_at ∙ sym other.digits_at) i, (one.digits_end ∙ sym other.digits_end) i) in e) ∙ sym g.number)
    (h.name_from ∙ ap (λ n. n + 1) (one.quote_at ∙ sym other.quote_at) ∙ sym g.name_from)
    (omega (arith, ends))

-- behind a gap the marks are one list
pub marks-unique : (bytes : List ℕ) (gap : Gap) (at n : ℕ) (marks one other : List Mark)
    → MarksBehind bytes gap at n marks one → MarksBehind bytes gap at n marks other → one ≡ other
marks-unique bytes Blank at n marks one other h g = h ∙ sym g
marks-unique bytes LineFeed at n marks one other h g = h ∙ sym g
marks-unique bytes OtherSpace at n marks one other h g = h ∙ sym g
marks-unique bytes BlockComment at n marks one other h g = h ∙ sym g
marks-unique bytes LineComment at n marks one other h g = h ∙ sym g
marks-unique bytes SkippedLine at n marks one other (inl h) (inl g) =
    h.2 ∙ ap (λ m. marks ++ mark_of at n m ∷ [])
    (marker-unique (slice_range bytes at (at + n)) h.0 g.0 h.1 g.1) ∙ sym g.2
marks-unique bytes SkippedLine at n marks one other (inl h) (inr g) = absurd (g.0 h.0 h.1)
marks-unique bytes SkippedLine at n marks one other (inr h) (inl g) = absurd (h.0 g.0 g.1)
marks-unique bytes SkippedLine at n marks one other (inr h) (inr g) = h.1 ∙ sym g.1

-- a byte with which a gap of its own begins
abbrev is_gap_byte : ℕ → Bool
is_gap_byte c = c == 32 || c == 9 || c == 10 || c == 11 || c == 12 || c == 13 || c == 35

sign_gap : (bytes : List ℕ) → begins_with is_gap_byte bytes ≡ true → sign_kind bytes ≡ None
unfolding signs
sign_gap bytes h = no_sign (begins_with is_gap_byte) bytes refl h

-- bytes that begin with a byte of gaps are no token
gap_token : (c : ℕ) (r : List ℕ) → is_gap_byte c ≡ true → is_token (c ∷ r) ≡ false
gap_token c r h = by_7 (or_cases _ (c == 35) h)
  where
    at : (k : ℕ) → c ≡ k → is_token (k ∷ r) ≡ false → is_token (c ∷ r) ≡ false
    at k e no_t = rw e no_t

    by_2 : ((c == 32) ≡ true) ⊎ ((c == 9) ≡ true) → is_token (c ∷ r) ≡ false
    by_2 (inl e) = at 32 (eqb-true c 32 e) (no_token (32 ∷ r) refl refl refl refl refl (sign_gap (32 ∷ r) refl))
    by_2 (inr e) = at 9 (eqb-true c 9 e) (no_token (9 ∷ r) refl refl refl refl refl (sign_gap (9 ∷ r) refl))

    by_3 : ((c == 32 || c == 9) ≡ true) ⊎ ((c == 10) ≡ true) → is_token (c ∷ r) ≡ false
    by_3 (inl e) = by_2 (or_cases (c == 32) (c == 9) e)
    by_3 (inr e) = at 10 (eqb-true c 10 e) (no_token (10 ∷ r) refl refl refl refl refl (sign_gap (10 ∷ r) refl))

    by_4 : ((c == 32 || c == 9 || c == 10) ≡ true) ⊎ ((c == 11) ≡ true) → is_token (c ∷ r) ≡ false
    by_4 (inl e) = by_3 (or_cases _ (c == 10) e)
    by_4 (inr e) = at 11 (eqb-true c 11 e) (no_token (11 ∷ r) refl refl refl refl refl (sign_gap (11 ∷ r) refl))

    by_5 : ((c == 32 || c == 9 || c == 10 || c == 11) ≡ true) ⊎ ((c == 12) ≡ true) → is_token (c ∷ r) ≡ false
    by_5 (inl e) = by_4 (or_cases _ (c == 11) e)
    by_5 (inr e) = at 12 (eqb-true c 12 e) (no_token (12 ∷ r) refl refl refl refl refl (sign_gap (12 ∷ r) refl))

    by_6 : ((c == 32 || c == 9 || c == 10 || c == 11 || c == 12) ≡ true) ⊎ ((c == 13) ≡ true) → is_token (c ∷ r) ≡ false
    by_6 (inl e) = by_5 (or_cases _ (c == 12) e)
    by_6 (inr e) = at 13 (eqb-true c 13 e) (no_token (13 ∷ r) refl refl refl refl refl (sign_gap (13 ∷ r) refl))

    by_7 : ((c == 32 || c == 9 || c == 10 || c == 11 || c == 12 || c == 13) ≡ true) ⊎ ((c == 35) ≡ true)
        → is_token (c ∷ r) ≡ false
    by_7 (inl e) = by_6 (or_cases _ (c == 13) e)
    by_7 (inr e) = at 35 (eqb-true c 35 e) (no_token (35 ∷ r) refl refl refl refl refl (sign_gap (35 ∷ r) refl))

-- no front of bytes that begin with a byte of gaps is a token
byte_token : (bytes : List ℕ) (n : ℕ) → begins_with is_gap_byte bytes ≡ true → is_token (take n bytes) ≡ false
byte_token bytes zero h = nil_token
byte_token [] (suc n) h = absurd cc
byte_token (c ∷ cs) (suc n) h = gap_token c (take n cs) h

-- no token stands where a gap does
pub gap-no_token : (gap : Gap) (fresh : Bool) (bytes : List ℕ) (k n : ℕ) → IsGap gap fresh bytes k
    → begins_comment bytes ≡ false → is_token (take n bytes) ≡ true → ⊥
gap-no_token Blank fresh [] k n h none t = let e = h.0 in cc
gap-no_token Blank fresh (c ∷ cs) k n h none t =
    let e : is_blank c ≡ true = h.0 in
    both_ways _ (byte_token (c ∷ cs) n (let f : is_gap_byte c ≡ true = grind arith in f)) t
gap-no_token LineFeed fresh [] k n h none t = let e = h.0 in cc
gap-no_token LineFeed fresh (c ∷ cs) k n h none t =
    let e : c ≡ 10 = eqb-true c 10 h.0 in
    both_ways _ (byte_token (c ∷ cs) n (rw e refl)) t
gap-no_token OtherSpace fresh [] k n h none t = let e = h.0 in cc
gap-no_token OtherSpace fresh (c ∷ cs) k n h none t =
    let e : is_other_space c ≡ true = h.0 in
    both_ways _ (byte_token (c ∷ cs) n (let f : is_gap_byte c ≡ true = grind arith in f)) t
gap-no_token BlockComment fresh bytes k n h none t = both_ways _ none (or_left _ _ h.opens)
gap-no_token LineComment fresh bytes k n h none t = both_ways _ none (or_right _ _ h.0)
gap-no_token SkippedLine fresh [] k n h none t = let e = h.1 in cc
gap-no_token SkippedLine fresh (c ∷ cs) k n h none t =
    let e : c ≡ 35 = eqb-true c 35 h.1 in
    both_ways _ (byte_token (c ∷ cs) n (rw e refl)) t
