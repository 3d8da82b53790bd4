-- What a gap is made of, found in the bytes, and where a comment fails.
use Rattle.std.proofs.Common.{◌≡◌, ℕ, suc, ◌<◌, ◌≤◌, ◌+◌, Bool, true, false, nat_eq, List, [], ◌∷◌, ◌++◌, length, drop, get_or, refl, sym, ◌∙◌, ap, subst, arith, inl, inr, Some, None, Result, Ok, Err, IfOk, IfErr, append_assoc, append-nil, drop-cons}
use Rattle.std.specs.List.{list_all, slice_range}
use Rattle.std.proofs.lemmas.List.Folds.{drop_split}
use Rattle.lattice_file.specs.Text.{Gap, Nothing, Blank, Comment, Line, is_blank, StaysOpen, stays_on_line, ends_line}
use Rattle.lattice_file.specs.Extents.{first, Resembles, CommentEnds, LineEnds, GapGoes, CommentFails, begins_lexeme}
use Rattle.lattice_file.proofs.GapUnique.{GapView, ViewNothing, ViewBlank, ViewComment, ViewLine, gap_view, head_same, tail_same, slash_blank, star_slash, open_behind}
use Rattle.lattice_file.proofs.FirstBad.{slice_join, slice_front, slice_none, gap_before, drop_over, first_none}
use Rattle.lattice_file.proofs.LexemeLemmas.{slice_one, slice_at, slice_count, head_is, line_first}

pub gap_none : (bytes : List ℕ) (at : ℕ) → GapGoes bytes at at
gap_none bytes at tail likes =
    subst (λ (front : List ℕ). Gap (front ++ tail) tail) (sym (slice_none bytes at)) (Nothing tail)

-- a tail that begins as the bytes at one place does so behind the bytes from an earlier place to it
likes_before : (bytes tail : List ℕ) (a b : ℕ) → a ≤ b → Resembles tail (drop b bytes)
    → Resembles (slice_range bytes a b ++ tail) (drop a bytes)
likes_before bytes tail a b le likes =
    subst (λ (rest : List ℕ). Resembles (slice_range bytes a b ++ tail) rest) (sym (drop_split bytes a b le))
    (by (slice_range bytes a b) tail (drop b bytes) likes)
  where
    by : (part tail rest : List ℕ) → Resembles tail rest → Resembles (part ++ tail) (part ++ rest)
    by [] tail rest likes = likes
    by (x ∷ part) tail rest likes = inl refl

-- a gap to a place and one from there on are one gap
pub gap_on : (bytes : List ℕ) (from at end : ℕ) → from ≤ at → at ≤ end → end ≤ length bytes → GapGoes bytes from at
    → GapGoes bytes at end → GapGoes bytes from end
gap_on bytes from at end le more within before piece tail likes =
    subst (λ (front : List ℕ). Gap front tail) (slice_front bytes tail from at end le more within)
    (gap_before (slice_range bytes from at ++ (slice_range bytes at end ++ tail)) (slice_range bytes at end ++ tail)
    tail (before (slice_range bytes at end ++ tail) (likes_before bytes tail at end more likes)) (piece tail likes))

-- a blank is a gap of one byte
pub blank_gap : (bytes : List ℕ) (at : ℕ) → at < length bytes → is_blank (get_or bytes at 0) ≡ true
    → GapGoes bytes at (at + 1)
blank_gap bytes at within is tail likes =
    subst (λ (front : List ℕ). Gap (front ++ tail) tail) (sym (slice_one bytes at within))
    (Blank (get_or bytes at 0) tail tail is (Nothing tail))

-- the bytes from a place to the one two further are the two that stand there
slice_two : (bytes : List ℕ) (at : ℕ) (x y : ℕ) → at + 1 < length bytes → get_or bytes at 0 ≡ x
    → get_or bytes (at + 1) 0 ≡ y → slice_range bytes at (at + 2) ≡ x ∷ y ∷ []
slice_two bytes at x y within p q =
    ap (λ (n : ℕ). slice_range bytes at n) (omega arith)
    ∙ sym (slice_join bytes at (at + 1) (at + 1 + 1) (omega arith) (omega arith) (omega (arith, within)))
    ∙ ap (λ (w : List ℕ). w ++ slice_range bytes (at + 1) (at + 1 + 1))
    (slice_one bytes at (omega (arith, within)) ∙ ap (λ (b : ℕ). b ∷ []) p)
    ∙ ap (λ (w : List ℕ). x ∷ w) (slice_one bytes (at + 1) within ∙ ap (λ (b : ℕ). b ∷ []) q)

-- a range of at least two bytes begins with the two that stand there
slice_begun : (bytes : List ℕ) (at end : ℕ) (x y : ℕ) → at + 2 ≤ end → end ≤ length bytes → get_or bytes at 0 ≡ x
    → get_or bytes (at + 1) 0 ≡ y → slice_range bytes at end ≡ x ∷ y ∷ slice_range bytes (at + 2) end
slice_begun bytes at end x y le within p q =
    sym (slice_join bytes at (at + 2) end (omega arith) le within)
    ∙ ap (λ (w : List ℕ). w ++ slice_range bytes (at + 2) end) (slice_two bytes at x y (omega (arith, le, within)) p q)

-- a test that holds at each place of a list holds of all of it
all_by_index : (p : ℕ → Bool) (xs : List ℕ) → ((k : ℕ) → k < length xs → p (get_or xs k 0) ≡ true)
    → list_all p xs ≡ true
all_by_index p [] h = refl
all_by_index p (x ∷ xs) h =
    let first : p x ≡ true = h 0 (omega arith) in
    rw first (all_by_index p xs (λ k lt. h (suc k) (omega arith)))

-- a test that each byte between two places passes holds of all that stands between them
pub all_inside : (p : ℕ → Bool) (bytes : List ℕ) (from at : ℕ) → from ≤ at → at ≤ length bytes
    → ((k : ℕ) → from ≤ k → k < at → p (get_or bytes k 0) ≡ true) → list_all p (slice_range bytes from at) ≡ true
all_inside p bytes from at le within h = all_by_index p (slice_range bytes from at) (λ k lt.
    let under : from + k < at = omega (arith, slice_count bytes from at le within, lt) in
    rw (slice_at bytes from at k under within) (h (from + k) (omega arith) under))

-- where no star before a slash stands between two places, what stands there holds no end of a comment
pub stays_inside : (bytes : List ℕ) (from at : ℕ) → from ≤ at → at ≤ length bytes
    → ((k : ℕ) → from ≤ k → k + 1 < at → get_or bytes k 0 ≡ 42 → get_or bytes (k + 1) 0 ≡ 47 → ⊥)
    → StaysOpen (slice_range bytes from at)
stays_inside bytes from at le within h k lt p q =
    let count = slice_count bytes from at le within in
    h (from + k) (omega arith) (omega (arith, count, lt))
    (sym (slice_at bytes from at k (omega (arith, count, lt)) within) ∙ p)
    (sym (slice_at bytes from at (k + 1) (omega (arith, count, lt)) within
    ∙ ap (λ (n : ℕ). get_or bytes n 0) (omega arith)) ∙ q)

-- the first star before a slash ends a comment's text
pub comment_found : (bytes : List ℕ) (from at : ℕ) → from ≤ at → at + 1 < length bytes
    → ((k : ℕ) → from ≤ k → k < at → get_or bytes k 0 ≡ 42 → get_or bytes (k + 1) 0 ≡ 47 → ⊥) →
    get_or bytes at 0 ≡ 42 → get_or bytes (at + 1) 0 ≡ 47 → CommentEnds bytes from (at + 2)
comment_found bytes from at le within h star slash = record {
  text = slice_range bytes from at;
  inside = stays_inside bytes from at le (omega (arith, within)) (λ k low lt p q. h k low (omega (arith, lt)) p q);
  is = sym (slice_join bytes from at (at + 2) le (omega arith) (omega (arith, within)))
      ∙ ap (λ (w : List ℕ). slice_range bytes from at ++ w) (slice_two bytes at 42 47 within star slash);
}

-- `/*`, a text without `*/`, and `*/` are a gap
pub block_comment : (bytes : List ℕ) (at end : ℕ) → at + 2 ≤ end → end ≤ length bytes → get_or bytes at 0 ≡ 47
    → get_or bytes (at + 1) 0 ≡ 42 → CommentEnds bytes (at + 2) end → GapGoes bytes at end
block_comment bytes at end le within slash star ends tail likes =
    subst (λ (front : List ℕ). Gap front tail) (sym whole) (Comment ends.text tail tail ends.inside (Nothing tail))
  where
    whole : slice_range bytes at end ++ tail ≡ 47 ∷ 42 ∷ ends.text ++ 42 ∷ 47 ∷ tail
    whole =
        ap (λ (front : List ℕ). front ++ tail)
        (slice_begun bytes at end 47 42 le within slash star ∙ ap (λ (w : List ℕ). 47 ∷ 42 ∷ w) ends.is)
        ∙ append_assoc (47 ∷ 42 ∷ ends.text) (42 ∷ 47 ∷ []) tail

-- `//` and the rest of its line are a gap
pub line_comment : (bytes : List ℕ) (at end : ℕ) → at + 2 ≤ end → end ≤ length bytes → get_or bytes at 0 ≡ 47
    → get_or bytes (at + 1) 0 ≡ 47 → LineEnds bytes (at + 2) end → GapGoes bytes at end
line_comment bytes at end le within slash again line tail likes =
    subst (λ (front : List ℕ). Gap (front ++ tail) tail) (sym (slice_begun bytes at end 47 47 le within slash again))
    (Line (slice_range bytes (at + 2) end) tail tail line.inside (stops likes) (Nothing tail))
  where
    stops : Resembles tail (drop end bytes) → ends_line tail ≡ true
    stops (inl e) = line_first tail (drop end bytes) e line.ends
    stops (inr e) = line_first tail (10 ∷ []) e refl

-- a slash that begins no comment
slash_stuck : (tail rest : List ℕ) → (first tail ≡ Some 42 → ⊥) → (first tail ≡ Some 47 → ⊥) → Gap (47 ∷ tail) rest
    → rest ≡ 47 ∷ tail
slash_stuck tail rest star slash gap = go (gap_view (47 ∷ tail) rest gap)
  where
    go : GapView (47 ∷ tail) rest → rest ≡ 47 ∷ tail
    go (ViewNothing e) = e
    go (ViewBlank b behind e is on) = absurd (slash_blank b (sym (head_same 47 b tail behind e)) is)
    go (ViewComment text behind e inside on) =
        absurd (star (ap first (tail_same 47 47 tail (42 ∷ text ++ 42 ∷ 47 ∷ behind) e)))
    go (ViewLine text behind e inside ends on) =
        absurd (slash (ap first (tail_same 47 47 tail (47 ∷ text ++ behind) e)))

-- a slash without a star or a slash behind it fails as a comment at the next byte
pub slash_fails : (bytes : List ℕ) (at : ℕ) → at < length bytes → get_or bytes at 0 ≡ 47
    → (first (drop (at + 1) bytes) ≡ Some 42 → ⊥) → (first (drop (at + 1) bytes) ≡ Some 47 → ⊥)
    → CommentFails bytes at (at + 1)
slash_fails bytes at within is star slash = record {
  later = omega arith;
  within = omega (arith, within);
  slash = head_is bytes at within ∙ ap (λ (b : ℕ). Some b) is;
  more = 42 ∷ 42 ∷ 47 ∷ [];
  ends = λ tail. subst (λ (front : List ℕ). Gap (front ++ (42 ∷ 42 ∷ 47 ∷ tail)) tail) (sym one)
      (Comment [] tail tail (λ k lt p q. omega (arith, lt)) (Nothing tail));
  stuck = λ tail rest here gap.
      subst (λ (front : List ℕ). rest ≡ front ++ tail) (sym one)
      (slash_stuck tail rest (λ e. star (sym here ∙ e)) (λ e. slash (sym here ∙ e))
      (subst (λ (front : List ℕ). Gap (front ++ tail) rest) one gap));
}
  where
    one : slice_range bytes at (at + 1) ≡ 47 ∷ []
    one = slice_one bytes at within ∙ ap (λ (b : ℕ). b ∷ []) is

-- a text that stays open has no `*/` in it
never_ends : (text front behind : List ℕ) → StaysOpen text → text ≡ front ++ 42 ∷ 47 ∷ behind → ⊥
never_ends [] [] behind stays e = absurd cc
never_ends [] (y ∷ front) behind stays e = absurd cc
never_ends (x ∷ []) [] behind stays e = let clash : [] ≡ 47 ∷ behind = tail_same x 42 [] (47 ∷ behind) e in absurd cc
never_ends (x ∷ z ∷ text) [] behind stays e =
    stays 0 (omega arith) (head_same x 42 (z ∷ text) (47 ∷ behind) e)
    (head_same z 47 text behind (tail_same x 42 (z ∷ text) (47 ∷ behind) e))
never_ends (x ∷ text) (y ∷ front) behind stays e =
    never_ends text front behind (open_behind x text stays) (tail_same x y text (front ++ 42 ∷ 47 ∷ behind) e)

-- a comment whose text stays open to the end of the bytes fails there
pub comment_fails : (bytes : List ℕ) (at place : ℕ) → at + 2 ≤ place → place ≡ length bytes → get_or bytes at 0 ≡ 47
    → get_or bytes (at + 1) 0 ≡ 42 → StaysOpen (slice_range bytes (at + 2) place) → CommentFails bytes at place
comment_fails bytes at place le over slash star stays = record {
  later = omega (arith, le);
  within = omega (arith, over);
  slash = head_is bytes at (omega (arith, le, over)) ∙ ap (λ (b : ℕ). Some b) slash;
  more = 42 ∷ 47 ∷ [];
  ends = λ tail. subst (λ (front : List ℕ). Gap (front ++ (42 ∷ 47 ∷ tail)) tail) (sym whole)
      (Comment (slice_range bytes (at + 2) place) tail tail stays (Nothing tail));
  stuck = λ tail rest here gap.
      let none : tail ≡ [] = first_none tail (here ∙ ap first (drop_over bytes place (omega (arith, over)))) in
      let ended : slice_range bytes at place ++ tail ≡ 47 ∷ 42 ∷ slice_range bytes (at + 2) place =
      ap (λ (t : List ℕ). slice_range bytes at place ++ t) none ∙ append-nil (slice_range bytes at place) ∙ whole in
      subst (λ (front : List ℕ). rest ≡ front) (sym ended)
      (alone rest (subst (λ (front : List ℕ). Gap front rest) ended gap));
}
  where
    text : List ℕ
    text = slice_range bytes (at + 2) place

    whole : slice_range bytes at place ≡ 47 ∷ 42 ∷ slice_range bytes (at + 2) place
    whole = slice_begun bytes at place 47 42 le (omega (arith, over)) slash star

    alone : (rest : List ℕ) → Gap (47 ∷ 42 ∷ slice_range bytes (at + 2) place) rest
        → rest ≡ 47 ∷ 42 ∷ slice_range bytes (at + 2) place
    alone rest gap = go (gap_view (47 ∷ 42 ∷ slice_range bytes (at + 2) place) rest gap)
      where
        go : GapView (47 ∷ 42 ∷ slice_range bytes (at + 2) place) rest
            → rest ≡ 47 ∷ 42 ∷ slice_range bytes (at + 2) place
        go (ViewNothing e) = e
        go (ViewBlank b behind e is on) =
            absurd (slash_blank b (sym (head_same 47 b (42 ∷ slice_range bytes (at + 2) place) behind e)) is)
        go (ViewComment text behind e inside on) =
            absurd (never_ends (slice_range bytes (at + 2) place) text behind stays
            (tail_same 42 42 (slice_range bytes (at + 2) place) (text ++ 42 ∷ 47 ∷ behind)
            (tail_same 47 47 (42 ∷ slice_range bytes (at + 2) place) (42 ∷ text ++ 42 ∷ 47 ∷ behind) e)))
        go (ViewLine text behind e inside ends on) =
            absurd (star_slash (sym (head_same 42 47 (slice_range bytes (at + 2) place) (text ++ behind)
            (tail_same 47 47 (42 ∷ slice_range bytes (at + 2) place) (47 ∷ text ++ behind) e))))

pub line_found : (bytes : List ℕ) (from at : ℕ) → from ≤ at → at ≤ length bytes
    → ((k : ℕ) → from ≤ k → k < at → stays_on_line (get_or bytes k 0) ≡ true) → ends_line (drop at bytes) ≡ true
    → LineEnds bytes from at
line_found bytes from at le within h ends =
    record { inside = all_inside stays_on_line bytes from at le within h; ends = ends }

-- bytes that begin with a line feed end a line
pub line_stops : (bytes : List ℕ) (at : ℕ) → at < length bytes → get_or bytes at 0 ≡ 10
    → ends_line (drop at bytes) ≡ true
line_stops bytes at h e =
    let is : drop at bytes ≡ get_or bytes at 0 ∷ drop (suc at) bytes = drop-cons bytes at 0 h in
    rw (is, e) refl

pub line_over : (bytes : List ℕ) (at : ℕ) → length bytes ≤ at → ends_line (drop at bytes) ≡ true
line_over bytes at h = let is : drop at bytes ≡ [] = drop_over bytes at h in rw is refl

-- no gap begins with another byte
pub stops_at : (bytes : List ℕ) (at : ℕ) → at < length bytes → is_blank (get_or bytes at 0) ≡ false
    → nat_eq (get_or bytes at 0) 47 ≡ false → begins_lexeme (drop at bytes) ≡ true
stops_at bytes at h blank slash =
    let is : drop at bytes ≡ get_or bytes at 0 ∷ drop (suc at) bytes = drop-cons bytes at 0 h in
    rw (is, blank, slash) refl

-- where a byte stands at a place, bytes from there do not begin with another
pub not_first : (bytes : List ℕ) (at b : ℕ) → at < length bytes → (get_or bytes at 0 ≡ b → ⊥)
    → first (drop at bytes) ≡ Some b → ⊥
not_first bytes at b h differs e = differs (same (get_or bytes at 0) b (sym (head_is bytes at h) ∙ e))
  where
    same : (x y : ℕ) → Some x ≡ Some y → x ≡ y
    same x y e = cc

pub none_first : (bytes : List ℕ) (at b : ℕ) → length bytes ≤ at → first (drop at bytes) ≡ Some b → ⊥
none_first bytes at b h e = let clash : None ≡ Some b = ap first (sym (drop_over bytes at h)) ∙ e in absurd cc

-- a comment that ends is a gap up to its end
pub ok_comment : (bytes : List ℕ) (at : ℕ) (r : Result ℕ ℕ) → get_or bytes at 0 ≡ 47 → get_or bytes (at + 1) 0 ≡ 42
    → IfOk r (λ end. at + 2 < end) → IfOk r (λ end. end ≤ length bytes) → IfOk r (CommentEnds bytes (at + 2)) →
    IfOk r (GapGoes bytes at)
ok_comment bytes at (Ok end) slash star later within ends =
    block_comment bytes at end (omega (arith, later)) within slash star ends
ok_comment bytes at (Err place) slash star later within ends = tt

-- a comment that stays open is a fault at the end of the text
pub err_comment : (bytes : List ℕ) (at : ℕ) (r : Result ℕ ℕ) → at + 1 < length bytes → get_or bytes at 0 ≡ 47
    → get_or bytes (at + 1) 0 ≡ 42 → IfErr r (λ place. place ≡ length bytes)
    → IfErr r (λ place. StaysOpen (slice_range bytes (at + 2) place)) →
    IfErr r (CommentFails bytes at)
err_comment bytes at (Ok end) within slash star over stays = tt
err_comment bytes at (Err place) within slash star over stays =
    comment_fails bytes at place (omega (arith, over, within)) over slash star stays
