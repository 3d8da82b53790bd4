-- What holds of each place that gaps and tokens in turn lead to.
use Rattle.std.proofs.Common.{◌≡◌, ℕ, zero, suc, ◌+◌, ◌-◌, ◌<◌, ◌≤◌, ◌^◌, Bool, true, false, List, [], ◌∷◌, ◌++◌, length, take, drop, get_or, refl, ◌∙◌, ap, subst, arith, Some, inl, inr, ◌⊎◌, if◌then◌else◌, bytes_eq, position, is_some}
use Rattle.std.specs.Prelude.{slice_get}
use Rattle.std.specs.List.Sorted.{IsNonDecreasingBy}
use Rattle.std.proofs.lemmas.List.{length-append, length-drop}
use Rattle.std.proofs.lemmas.List.Sorted.{IsNonDecreasingBy-push, IsNonDecreasingBy-short}
use Rattle.std.proofs.lemmas.Option.{slice_get-get_or}
use Rattle.c_lexer.specs.declared.gaps.Gap.{Gap}
use Rattle.c_lexer.specs.declared.gaps.Gap.TheVariants.{Blank, LineFeed, OtherSpace, BlockComment, LineComment, SkippedLine}
use Rattle.c_words.specs.declared.kinds.TokenKind.{TokenKind}
use Rattle.c_words.specs.declared.kinds.TokenKind.TheVariants.{Name, Keyword, Number, Char, Text, Punct, Qual, Index, End}
use Rattle.c_lexer.specs.declared.token.Token.{Token}
use Rattle.c_lexer.specs.declared.places.Mark.{Mark}
use Rattle.c_lexer.specs.Names.{with_name}
use Rattle.c_lexer.specs.Reading.{Meanings, Front, mark_of, names_behind, MarksBehind, Skips, Takes, Reaches, IsStep, IsCounted, Spells, StopsBehind}
use Rattle.c_lexer.specs.Tokens.{IsSound}
use Rattle.c_lexer.specs.declared.front.Stop.{Stop}
use Rattle.c_lexer.specs.declared.front.Stop.TheVariants.{BadByte, Unended, UnknownQualifier, NoMemory}
use Rattle.c_lexer.specs.Reading.Reaches.{begins, skips, takes}
use Rattle.c_lexer.proofs.StepLemmas.{gap-fits, token-some}

-- each token stands before a place
abbrev pub AreBefore : List Token → ℕ → Type 0
AreBefore tokens at = (k : ℕ) (t : Token) → slice_get tokens k ≡ Some t → (t.start ≤ t.end) × (t.end ≤ at)

-- the lines of each mark begin at most one byte behind a place
abbrev pub AreMarked : List Mark → ℕ → Type 0
AreMarked marks at = (k : ℕ) (m : Mark) → slice_get marks k ≡ Some m → m.from ≤ at + 1

pub record IsKept (bytes : List ℕ) (front : Front) : Type 0 where
  pub inside : front.at ≤ length bytes
  pub counted : IsCounted front
  pub tokens : AreBefore front.tokens front.at
  pub rising : IsNonDecreasingBy (λ (m : Mark). m.from) front.marks
  pub marked : AreMarked front.marks front.at

-- an element of a list with one more is one of the list, or the one more
pub pushed : {A : Type 0} (xs : List A) (y x : A) (k : ℕ) → slice_get (xs ++ y ∷ []) k ≡ Some x
    → (slice_get xs k ≡ Some x) ⊎ (y ≡ x)
pushed [] y x zero e = inr cc
pushed [] y x (suc k) e = absurd cc
pushed (z ∷ xs) y x zero e = inl e
pushed (z ∷ xs) y x (suc k) e = pushed xs y x k e

-- one more token that ends before a later place leaves all before it
before_more : (tokens : List Token) (t : Token) (at more : ℕ) → AreBefore tokens at → at ≤ more → t.start ≤ t.end
    → t.end ≤ more → AreBefore (tokens ++ t ∷ []) more
before_more tokens t at more all le order within k s there = by_case (pushed tokens t s k there)
  where
    by_case : (slice_get tokens k ≡ Some s) ⊎ (t ≡ s) → (s.start ≤ s.end) × (s.end ≤ more)
    by_case (inl old) = let h = all k s old in (h.0, omega arith)
    by_case (inr same) =
        let P : Token → Type 0 = λ t. (t.start ≤ t.end) × (t.end ≤ more) in
        subst P same (order, within)

before_later : (tokens : List Token) (at more : ℕ) → AreBefore tokens at → at ≤ more → AreBefore tokens more
before_later tokens at more all le k s there = let h = all k s there in (h.0, omega arith)

marked_later : (marks : List Mark) (at more : ℕ) → AreMarked marks at → at ≤ more → AreMarked marks more
marked_later marks at more all le k m there = let h = all k m there in omega arith

-- one more mark that begins at most one byte behind a later place leaves all so
marked_more : (marks : List Mark) (m : Mark) (at more : ℕ) → AreMarked marks at → at ≤ more → m.from ≤ more + 1
    → AreMarked (marks ++ m ∷ []) more
marked_more marks m at more all le within k s there = by_case (pushed marks m s k there)
  where
    by_case : (slice_get marks k ≡ Some s) ⊎ (m ≡ s) → s.from ≤ more + 1
    by_case (inl old) = let h = all k s old in omega arith
    by_case (inr same) = let P : Mark → Type 0 = λ m. m.from ≤ more + 1 in subst P same within

-- one more mark that begins behind a place leaves the marks of before that in order
rising_more : (marks : List Mark) (m : Mark) (at : ℕ) → AreMarked marks at → at + 1 ≤ m.from
    → IsNonDecreasingBy (λ (m : Mark). m.from) marks → IsNonDecreasingBy (λ (m : Mark). m.from) (marks ++ m ∷ [])
rising_more marks m at all le rising =
    IsNonDecreasingBy-push (λ (m : Mark). m.from) marks m rising
    (λ d lt. let h = all (length marks - 1) (get_or marks (length marks - 1) d)
    (slice_get-get_or marks (length marks - 1) d (omega arith)) in omega arith)

-- the marks behind a gap, in short
record MarksKept (marks behind : List Mark) (more : ℕ) : Type 0 where
  rising : IsNonDecreasingBy (λ (m : Mark). m.from) behind
  marked : AreMarked behind more

-- behind any gap the marks come in order, and begin at most one byte behind it
marks_kept : (bytes : List ℕ) (gap : Gap) (at n : ℕ) (marks behind : List Mark)
    → MarksBehind bytes gap at n marks behind → IsNonDecreasingBy (λ (m : Mark). m.from) marks → AreMarked marks at
    → MarksKept marks behind (at + n)
marks_kept bytes Blank at n marks behind is rising marked =
    rw is (record { rising = rising; marked = marked_later marks at (at + n) marked (omega arith) })
marks_kept bytes LineFeed at n marks behind is rising marked =
    rw is (record { rising = rising; marked = marked_later marks at (at + n) marked (omega arith) })
marks_kept bytes OtherSpace at n marks behind is rising marked =
    rw is (record { rising = rising; marked = marked_later marks at (at + n) marked (omega arith) })
marks_kept bytes BlockComment at n marks behind is rising marked =
    rw is (record { rising = rising; marked = marked_later marks at (at + n) marked (omega arith) })
marks_kept bytes LineComment at n marks behind is rising marked =
    rw is (record { rising = rising; marked = marked_later marks at (at + n) marked (omega arith) })
marks_kept bytes SkippedLine at n marks behind (inl found) rising marked =
    rw found.2 (record {
      rising = rising_more marks (mark_of at n found.0) at marked (omega arith) rising;
      marked = marked_more marks (mark_of at n found.0) at (at + n) marked (omega arith) (omega arith);
    })
marks_kept bytes SkippedLine at n marks behind (inr none) rising marked =
    rw none.1 (record { rising = rising; marked = marked_later marks at (at + n) marked (omega arith) })

-- behind a gap what is kept at each place is kept
skips_kept : (bytes : List ℕ) (old new : Front) → IsKept bytes old → Skips bytes old new → IsKept bytes new
skips_kept bytes old new kept s =
    let fits = gap-fits s.gap old.fresh (drop old.at bytes) s.n s.stands in
    let size = length-drop old.at bytes in
    let at = s.at in
    let inside = kept.inside in
    let counted = kept.counted in
    let marks = marks_kept bytes s.gap old.at s.n old.marks new.marks s.marks kept.rising kept.marked in
    record {
      inside = omega arith;
      counted = record {
        tokens = (let few = counted.tokens in let same = ap length s.tokens in omega arith);
        names = (let few = counted.names in let same = ap length s.names in omega arith);
      };
      tokens = rw s.tokens (before_later old.tokens old.at new.at kept.tokens (omega arith));
      rising = marks.rising;
      marked = rw at marks.marked;
    }

-- a name makes at most one more
with_name_len : (names : List (List ℕ)) (name : List ℕ) → length (with_name names name) ≤ length names + 1
with_name_len names name = by_test (is_some (position (bytes_eq name) names))
  where
    by_test : (b : Bool) → length (if b then names else names ++ name ∷ []) ≤ length names + 1
    by_test true = omega arith
    by_test false = let l = length-append names (name ∷ []) in omega arith

-- a token makes at most one name more
names_len : (names : List (List ℕ)) (bytes : List ℕ) (kind : TokenKind)
    → length (names_behind names bytes kind) ≤ length names + 1
names_len names bytes (Name id) = with_name_len names bytes
names_len names bytes (Keyword k) = omega arith
names_len names bytes Number = omega arith
names_len names bytes Char = omega arith
names_len names bytes Text = omega arith
names_len names bytes (Punct p) = omega arith
names_len names bytes (Qual l e) = omega arith
names_len names bytes Index = omega arith
names_len names bytes End = omega arith

-- behind a token what is kept at each place is kept
takes_kept : (unit : ℕ) (wide : Bool) (words : Meanings) (bytes : List ℕ) (old new : Front) → IsKept bytes old
    → Takes unit wide words bytes old new → IsKept bytes new
takes_kept unit wide words bytes old new kept t =
    let some = token-some (drop old.at bytes) t.n t.longest in
    let fits = t.longest.inside in
    let size = length-drop old.at bytes in
    let at = t.at in
    let inside = kept.inside in
    let counted = kept.counted in
    record {
      inside = omega arith;
      counted = record {
        tokens = (let few = counted.tokens in let same = ap length t.tokens ∙ length-append old.tokens
            (record { kind = t.kind; start = old.at; end = old.at + t.n } ∷ []) in omega arith);
        names = (let few = counted.names in let same = ap length t.names in
            let more = names_len old.names (take t.n (drop old.at bytes)) t.kind in omega arith);
      };
      tokens = rw t.tokens (before_more old.tokens (record { kind = t.kind; start = old.at; end = old.at + t.n }) old.at
          new.at kept.tokens (omega arith) (omega arith) (omega arith));
      rising = rw t.marks kept.rising;
      marked = rw t.marks (marked_later old.marks old.at new.at kept.marked (omega arith));
    }

-- each place that is reached is within the bytes, with its tokens before it and its marks in order
pub reaches-kept : (unit : ℕ) (wide : Bool) (words : Meanings) (bytes : List ℕ) (front : Front)
    → Reaches unit wide words bytes front → IsKept bytes front
reaches-kept unit wide words bytes front begins = record {
  inside = omega arith;
  counted = record { tokens = omega arith; names = omega arith };
  tokens = λ k t there. absurd cc;
  rising = IsNonDecreasingBy-short (λ (m : Mark). m.from) [] (omega arith);
  marked = λ k m there. absurd cc;
}
reaches-kept unit wide words bytes front (skips old new reached step) =
    skips_kept bytes old new (reaches-kept unit wide words bytes old reached) step
reaches-kept unit wide words bytes front (takes old new reached step) =
    takes_kept unit wide words bytes old new (reaches-kept unit wide words bytes old reached) step

-- each step leads on
pub step-further : (unit : ℕ) (wide : Bool) (words : Meanings) (bytes : List ℕ) (old new : Front)
    → IsStep unit wide words bytes old new → old.at < new.at
step-further unit wide words bytes old new (inl s) =
    let fits = gap-fits s.gap old.fresh (drop old.at bytes) s.n s.stands in
    let at = s.at in
    omega arith
step-further unit wide words bytes old new (inr t) =
    let some = token-some (drop old.at bytes) t.n t.longest in
    let at = t.at in
    omega arith

pub step-reaches : (unit : ℕ) (wide : Bool) (words : Meanings) (bytes : List ℕ) (old new : Front)
    → Reaches unit wide words bytes old → IsStep unit wide words bytes old new → Reaches unit wide words bytes new
step-reaches unit wide words bytes old new reached (inl s) = skips old new reached s
step-reaches unit wide words bytes old new reached (inr t) = takes old new reached t

-- a whole unit with its last token
pub sound-end : (unit : ℕ) (wide : Bool) (words : Meanings) (bytes : List ℕ) (front : Front) (tokens : List Token)
    (marks : List Mark) (end : ℕ)
    → length bytes < 2 ^ 32 - 1 → Reaches unit wide words bytes front → front.at ≡ length bytes → end ≡ length bytes →
    tokens ≡ front.tokens ++ record { kind = End; start = end; end = end } ∷ [] → marks ≡ front.marks
    → IsSound bytes tokens marks
sound-end unit wide words bytes front tokens marks end small reached whole end_is tokens_are marks_are =
    let kept = reaches-kept unit wide words bytes front reached in
    record {
      few = (let few = kept.counted.tokens in let size = ap length tokens_are
          ∙ length-append front.tokens (record { kind = End; start = end; end = end } ∷ []) in omega arith);
      inside = rw tokens_are (before_more front.tokens (record { kind = End; start = end; end = end }) front.at
          (length bytes) kept.tokens (omega arith) (omega arith) (omega arith));
      ended = (front.tokens, record { kind = End; start = end; end = end }, tokens_are, refl);
      rising = rw marks_are kept.rising;
    }

-- a place that is reached at the end of the bytes, with the token of the end, spells the tokens
pub spells-end : (unit : ℕ) (wide : Bool) (words : Meanings) (bytes : List ℕ) (front : Front) (tokens : List Token)
    (marks : List Mark) (end : ℕ)
    → Reaches unit wide words bytes front → front.at ≡ length bytes → end ≡ length bytes →
    tokens ≡ front.tokens ++ record { kind = End; start = end; end = end } ∷ [] → marks ≡ front.marks
    → Spells unit wide words bytes tokens front.names marks
spells-end unit wide words bytes front tokens marks end reached whole end_is tokens_are marks_are = record {
  front = front;
  reached = reached;
  whole = whole;
  tokens_are = rw end_is at tokens_are;
  names_are = refl;
  marks_are = marks_are;
}

-- where reading stops, the marks are in order, and the place is within the bytes
pub stop-kept : (unit : ℕ) (wide : Bool) (words : Meanings) (bytes : List ℕ) (front : Front) (stop : Stop)
    → StopsBehind unit wide words bytes front stop → (stop ≡ NoMemory → ⊥) → IsKept bytes front
stop-kept unit wide words bytes front BadByte h other = rw h.2.0 (reaches-kept unit wide words bytes h.0 h.1)
stop-kept unit wide words bytes front Unended h other = rw h.2.0 (reaches-kept unit wide words bytes h.0 h.1)
stop-kept unit wide words bytes front UnknownQualifier h other = rw h.2.0 (reaches-kept unit wide words bytes h.0 h.1)
stop-kept unit wide words bytes front NoMemory h other = absurd (other refl)
