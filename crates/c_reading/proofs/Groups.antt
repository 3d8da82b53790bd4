-- Groups in which brackets match.
use Rattle.std.proofs.Common.{◌≡◌, ℕ, zero, suc, ◌+◌, ◌-◌, ◌<◌, ◌≤◌, Bool, true, false, if◌then◌else◌, List, [], ◌∷◌, ◌++◌, length, take, drop, Option, Some, None, Ok, Err, refl, sym, ◌∙◌, ap, subst, arith, append_assoc}
use Rattle.std.proofs.Math.Seq.{take-append_seam}
use Rattle.c_words.specs.declared.kinds.TokenKind.{TokenKind}
use Rattle.c_words.specs.declared.kinds.TokenKind.TheVariants as kinds
use Rattle.c_words.specs.declared.kinds.Punct.TheVariants as puncts
use Rattle.c_tree.specs.declared.lexeme.Lexeme.{Lexeme}
use Rattle.c_syntax.specs.declared.parts.Group.{Group}
use Rattle.c_tree.specs.Text.{group_text, tokens_between}
use Rattle.c_tree.specs.Groups.{is_inner, are_brackets, IsBalanced, nothing, inner, bracketed, IsGroup}
use Rattle.c_units.specs.HeldScopes.{HeldScopes}
use Rattle.c_reading.specs.declared.kinds.FaultKind.TheVariants.{Unexpected}
use Rattle.c_reading.specs.declared.kinds.Bracket.{Bracket}
use Rattle.c_reading.specs.declared.kinds.Bracket.TheVariants.{Paren, Square, Brace}
use Rattle.c_reading.specs.declared.kinds.Inside.{Inside}
use Rattle.c_reading.specs.declared.kinds.Inside.TheVariants.{Opens, Closes, Plain, Stops}
use Rattle.c_reading.specs.Reading.{IsNumbered, IsTail, Found, Read, Turn, ends, refuses, token_at, run, and_then}
use Rattle.c_reading.specs.Tokens.{is_open_paren, inside_of, is_same, Opened, bracket_by, bracket_step, bracket_turn, bracket_turn_by, group_at}
use Rattle.c_reading.proofs.Binding.{found, done, ok_is, bind_ok, bind_is, token_falls}
use Rattle.c_reading.proofs.Loops.{TurnShrinks, after, run_is, run-keep, run_on, run_ends}
use Rattle.c_reading.proofs.Tails.{number_is}
use Rattle.c_reading.proofs.Forms.{Falls, Shrinks, IsSound, IsComplete, always, at_end}
use Rattle.c_reading.proofs.KindFacts.{open_paren_kind}
use Rattle.c_reading.proofs.Aims.{group_form}

-- one bracket read takes a token
pub bracket_shrinks : TurnShrinks bracket_turn
bracket_shrinks state s ts x e = by_brackets state.brackets ts e
  where
    by_inside : (i : Inside) (b : Bracket) (bs : List Bracket) (t : Lexeme) (ts : List Lexeme)
        → bracket_by i b bs t s ts ≡ done x → length x.rest < length (t ∷ ts)
    by_inside (Opens other) b bs t ts e =
        let is = ap (λ (x : Found Opened). length x.rest) (ok_is e) in
        omega (arith, is)
    by_inside (Closes other) b bs t ts e = by_same (is_same other b) e
      where
        by_same : (c : Bool)
            → (if c then ends (record { brackets = bs; last = t.at }) s ts else refuses Unexpected (t ∷ ts)) ≡ done x
            → length x.rest < length (t ∷ ts)
        by_same true e = let is = ap (λ (x : Found Opened). length x.rest) (ok_is e) in omega (arith, is)
        by_same false e = absurd cc
    by_inside Plain b bs t ts e = let is = ap (λ (x : Found Opened). length x.rest) (ok_is e) in omega (arith, is)
    by_inside Stops b bs t ts e = absurd cc

    by_step : (b : Bracket) (bs : List Bracket) (ts : List Lexeme) → bracket_step b bs s ts ≡ done x
        → length x.rest < length ts
    by_step b bs [] e = absurd cc
    by_step b bs (t ∷ ts) e = by_inside (inside_of t.kind) b bs t ts e

    by_brackets : (bs : List Bracket) (ts : List Lexeme) → bracket_turn_by bs s ts ≡ Some (done x)
        → length x.rest < length ts
    by_brackets [] ts e = absurd cc
    by_brackets (b ∷ bs) ts e = by_step b bs ts cc

-- the loop over brackets leaves no more tokens than it was given
run_falls : (state : Opened) → Falls (λ s ts. run bracket_turn state s ts)
run_falls state s ts x e =
    run-keep bracket_turn (λ a t k. length k ≤ length ts)
    (λ a t k x h e. let less : length x.rest < length k = bracket_shrinks a t k x e in
    omega arith) state s ts x (omega arith) e

pub group_shrinks : Shrinks group_at
unfolding group_at
group_shrinks s ts x e =
    let a = bind_ok e in
    let b = bind_ok a.2 in
    let end = ap (λ (x : Found Group). length x.rest) (ok_is b.2) in
    omega (arith, token_falls is_open_paren _ _ _ a.1, run_falls _ _ _ _ b.1, end)

-- balanced tokens

-- balanced tokens followed by balanced tokens are balanced
balanced_append : {xs : List Lexeme} (ys : List Lexeme) → IsBalanced xs → IsBalanced ys → IsBalanced (xs ++ ys)
balanced_append ys nothing h = h
balanced_append ys (inner t k is b) h = inner t (k ++ ys) is (balanced_append ys b h)
balanced_append ys (bracketed opening closing inside k is b c) h =
    subst (λ (zs : List Lexeme). IsBalanced (opening ∷ zs)) (sym (append_assoc inside (closing ∷ k) ys))
    (bracketed opening closing inside (k ++ ys) is b (balanced_append ys c h))

balanced_one : (t : Lexeme) → is_inner t.kind ≡ true → IsBalanced (t ∷ [])
balanced_one t is = inner t [] is nothing

-- what a token is inside brackets, by its kind

-- the token that opens a bracket
abbrev pub opens_with : Bracket → TokenKind → Type 0
opens_with Paren kind = kind ≡ kinds.Punct puncts.OpenParen
opens_with Square kind = kind ≡ kinds.Punct puncts.OpenBracket
opens_with Brace kind = kind ≡ kinds.Punct puncts.OpenBrace

-- the token that closes a bracket
abbrev pub closes_with : Bracket → TokenKind → Type 0
closes_with Paren kind = kind ≡ kinds.Punct puncts.CloseParen
closes_with Square kind = kind ≡ kinds.Punct puncts.CloseBracket
closes_with Brace kind = kind ≡ kinds.Punct puncts.CloseBrace

-- what a token does inside brackets agrees with its kind: it opens or closes one, is plain, or stops
abbrev pub Says : Inside → TokenKind → Type 0
Says (Opens b) kind = opens_with b kind
Says (Closes b) kind = closes_with b kind
Says Plain kind = is_inner kind ≡ true
Says Stops kind = kind ≡ kinds.End

-- each token does inside brackets what its kind says
says : (kind : TokenKind) → Says (inside_of kind) kind
says (kinds.Punct puncts.OpenParen) = refl
says (kinds.Punct puncts.CloseParen) = refl
says (kinds.Punct puncts.OpenBracket) = refl
says (kinds.Punct puncts.CloseBracket) = refl
says (kinds.Punct puncts.OpenBrace) = refl
says (kinds.Punct puncts.CloseBrace) = refl
says kinds.End = refl
says kind = refl

-- a token that opens a bracket and one that closes the same match
matched : (b : Bracket) (opening closing : TokenKind) → opens_with b opening → closes_with b closing
    → are_brackets opening closing ≡ true
matched Paren opening closing o c = rw (o, c) refl
matched Square opening closing o c = rw (o, c) refl
matched Brace opening closing o c = rw (o, c) refl

-- brackets that pass the test for being the same are equal
same_is : (a b : Bracket) → is_same a b ≡ true → a ≡ b
same_is Paren Paren e = refl
same_is Square Square e = refl
same_is Brace Brace e = refl
same_is _ _ e = absurd cc

-- What was read behind a group's parenthesis, with the brackets that are open, the innermost first: none where the
-- group is closed, by the token with this number.
pub data Nest : List Bracket → ℕ → List Lexeme → Type 0 where
  closed : (inside : List Lexeme) (closing : Lexeme) → closing.kind ≡ kinds.Punct puncts.CloseParen → IsBalanced inside
      → Nest [] closing.at (inside ++ closing ∷ [])
  outermost : (last : ℕ) (inside : List Lexeme) → IsBalanced inside → Nest (Paren ∷ []) last inside
  deeper : (last : ℕ) (b b' : Bracket) (bs : List Bracket) (outer : List Lexeme) (opening : Lexeme)
      (inside : List Lexeme)
      → Nest (b' ∷ bs) last outer → opens_with b opening.kind → IsBalanced inside →
      Nest (b ∷ b' ∷ bs) last (outer ++ opening ∷ inside)

-- another number, where the group is not closed
nest_at : {b : Bracket} {bs : List Bracket} {last : ℕ} {xs : List Lexeme} (n : ℕ) → Nest (b ∷ bs) last xs
    → Nest (b ∷ bs) n xs
nest_at n (outermost last inside h) = outermost n inside h
nest_at n (deeper last b b' bs outer opening inside m o h) = deeper n b b' bs outer opening inside (nest_at n m) o h

-- balanced tokens behind it
nest_more : {b : Bracket} {bs : List Bracket} {last : ℕ} {xs : List Lexeme} (ys : List Lexeme) → Nest (b ∷ bs) last xs
    → IsBalanced ys → Nest (b ∷ bs) last (xs ++ ys)
nest_more ys (outermost last inside h) g = outermost last (inside ++ ys) (balanced_append ys h g)
nest_more ys (deeper last b b' bs outer opening inside n o h) g =
    subst (Nest (b ∷ b' ∷ bs) last) (sym (append_assoc outer (opening ∷ inside) ys))
    (deeper last b b' bs outer opening (inside ++ ys) n o (balanced_append ys h g))

nest_open : {b : Bracket} {bs : List Bracket} {last : ℕ} {xs : List Lexeme} (other : Bracket) (t : Lexeme)
    → Nest (b ∷ bs) last xs → opens_with other t.kind → Nest (other ∷ b ∷ bs) t.at (xs ++ t ∷ [])
nest_open {b = b} {bs = bs} {last = last} {xs = xs} other t n o =
    deeper t.at other b bs xs t [] (nest_at t.at n) o nothing

-- a token that closes the innermost open bracket leaves those outside it open, or the group closed
nest_close : {b : Bracket} {bs : List Bracket} {last : ℕ} {xs : List Lexeme} (t : Lexeme) → Nest (b ∷ bs) last xs
    → closes_with b t.kind → Nest bs t.at (xs ++ t ∷ [])
nest_close t (outermost last inside h) c = closed inside t c h
nest_close t (deeper last b b' bs outer opening inside n o h) c =
    subst (Nest (b' ∷ bs) t.at) (sym (append_assoc outer (opening ∷ inside) (t ∷ [])))
    (nest_more (opening ∷ (inside ++ t ∷ [])) (nest_at t.at n)
    (bracketed opening t inside [] (matched b opening.kind t.kind o c) h nothing))

-- what stands behind the first of the tokens dropped to a number are those dropped to the next
drop_next : (all : List Lexeme) (m : ℕ) (t : Lexeme) (ts : List Lexeme) → t ∷ ts ≡ drop m all → ts ≡ drop (suc m) all
drop_next [] zero t ts h = absurd cc
drop_next [] (suc m) t ts h = absurd cc
drop_next (u ∷ us) zero t ts h = rest_is t u ts us h
  where
    rest_is : (t u : Lexeme) (ts us : List Lexeme) → t ∷ ts ≡ u ∷ us → ts ≡ us
    rest_is t u ts us h = cc
drop_next (u ∷ us) (suc m) t ts h = drop_next us m t ts h

-- the end of a loop: its turn is over
module _ {S : Type 0} (turn : Turn S) (shrinks : TurnShrinks turn) where
  stops_below : (n : ℕ) (a : S) (s : HeldScopes) (ts : List Lexeme) (y : Found S) → length ts < n
      → run turn a s ts ≡ done y → turn y.tree y.scopes y.rest ≡ None
  unfolding and_then
  stops_below zero a s ts y h e = absurd (omega (arith, h))
  stops_below (suc n) a s ts y h e =
      by_turn (λ a s ts. stops_below n a s ts y) (turn a s ts) refl (sym (run_is turn shrinks a s ts) ∙ e)
    where
      by_turn : ((a : S) (s : HeldScopes) (ts : List Lexeme) → length ts < n → run turn a s ts ≡ done y
          → turn y.tree y.scopes y.rest ≡ None) →
          (r : Option (Read S)) → turn a s ts ≡ r → after r a s ts (run turn) ≡ done y
          → turn y.tree y.scopes y.rest ≡ None
      by_turn again None is e = subst (λ (y : Found S). turn y.tree y.scopes y.rest ≡ None) (ok_is e) is
      by_turn again (Some (Err f)) is e = absurd cc
      by_turn again (Some (Ok x)) is e =
          let less : length x.rest < length ts = shrinks a s ts x is in
          again x.tree x.scopes x.rest (omega (arith, h)) e

  pub run_stops : (a : S) (s : HeldScopes) (ts : List Lexeme) (y : Found S) → run turn a s ts ≡ done y
      → turn y.tree y.scopes y.rest ≡ None
  run_stops a s ts y e = stops_below (suc (length ts)) a s ts y (omega arith) e

module _ (all : List Lexeme) (numbered : IsNumbered all) where
  -- what is known while a group is read whose parenthesis has this number, with these tokens behind it
  pub record Going (n : ℕ) (ts : List Lexeme) (s : HeldScopes) (state : Opened) (t : HeldScopes)
      (k : List Lexeme) : Type 0 where
    pub taken : List Lexeme
    pub parts : ts ≡ taken ++ k
    pub nest : Nest state.brackets state.last taken
    pub last : state.last ≡ n + length taken
    pub left : k ≡ drop (suc (n + length taken)) all
    pub same : t ≡ s

  -- one more token
  going_on : (n : ℕ) (ts : List Lexeme) (s : HeldScopes) (state : Opened) (t : HeldScopes) (u : Lexeme)
      (k : List Lexeme) (brackets : List Bracket)
      → (h : Going n ts s state t (u ∷ k)) →
      Nest brackets u.at (h.taken ++ u ∷ []) → Going n ts s (record { brackets = brackets; last = u.at }) t k
  going_on n ts s state t u k brackets h nest =
      let tail : IsTail all (u ∷ k) = (suc (n + length h.taken), h.left) in
      let at : u.at ≡ suc (n + length h.taken) = number_is all numbered u k tail in
      let more : length (h.taken ++ u ∷ []) ≡ suc (length h.taken) = length_push h.taken u in
      let place : suc (suc (n + length h.taken)) ≡ suc (n + length (h.taken ++ u ∷ [])) = omega (arith, more) in
      record {
        taken = h.taken ++ u ∷ [];
        parts = h.parts ∙ sym (append_assoc h.taken (u ∷ []) k);
        nest = nest;
        last = omega (arith, at, more);
        left = drop_next all (suc (n + length h.taken)) u k h.left ∙ ap (λ (m : ℕ). drop m all) place;
        same = h.same;
      }
    where
      length_push : (xs : List Lexeme) (u : Lexeme) → length (xs ++ u ∷ []) ≡ suc (length xs)
      length_push [] u = refl
      length_push (x ∷ xs) u = ap suc (length_push xs u)

  -- a state with these brackets
  abbrev with_brackets : List Bracket → ℕ → Opened
  with_brackets bs m = record { brackets = bs; last = m }

  inside_keeps : (n : ℕ) (ts : List Lexeme) (s t : HeldScopes) (b : Bracket) (bs : List Bracket) (m : ℕ) (i : Inside)
      (u : Lexeme) (k : List Lexeme) (x : Found Opened) →
      Going n ts s (with_brackets (b ∷ bs) m) t (u ∷ k) → Says i u.kind → bracket_by i b bs u t k ≡ done x
      → Going n ts s x.tree x.scopes x.rest
  inside_keeps n ts s t b bs m (Opens other) u k x h is e =
      at_end (λ (x : Found Opened). Going n ts s x.tree x.scopes x.rest) e
      (going_on n ts s (with_brackets (b ∷ bs) m) t u k (other ∷ b ∷ bs) h (nest_open other u h.nest is))
  inside_keeps n ts s t b bs m (Closes other) u k x h is e = by_same (is_same other b) refl e
    where
      by_same : (c : Bool) → is_same other b ≡ c
          → (if c then ends (record { brackets = bs; last = u.at }) t k else refuses Unexpected (u ∷ k)) ≡ done x
          → Going n ts s x.tree x.scopes x.rest
      by_same true same e =
          at_end (λ (x : Found Opened). Going n ts s x.tree x.scopes x.rest) e
          (going_on n ts s (with_brackets (b ∷ bs) m) t u k bs h
          (nest_close u h.nest (subst (λ (b : Bracket). closes_with b u.kind) (same_is other b same) is)))
      by_same false same e = absurd cc
  inside_keeps n ts s t b bs m Plain u k x h is e =
      at_end (λ (x : Found Opened). Going n ts s x.tree x.scopes x.rest) e
      (going_on n ts s (with_brackets (b ∷ bs) m) t u k (b ∷ bs) h
      (nest_more (u ∷ []) (nest_at u.at h.nest) (balanced_one u is)))
  inside_keeps n ts s t b bs m Stops u k x h is e = absurd cc

  brackets_keep : (n : ℕ) (ts : List Lexeme) (s t : HeldScopes) (bs : List Bracket) (m : ℕ) (k : List Lexeme)
      (x : Found Opened)
      → Going n ts s (with_brackets bs m) t k →
      bracket_turn_by bs t k ≡ Some (done x) → Going n ts s x.tree x.scopes x.rest
  brackets_keep n ts s t [] m k x h e = absurd cc
  brackets_keep n ts s t (b ∷ bs) m [] x h e = absurd cc
  brackets_keep n ts s t (b ∷ bs) m (u ∷ k) x h e =
      inside_keeps n ts s t b bs m (inside_of u.kind) u k x h (says u.kind) cc

  run_keeps : (n : ℕ) (ts : List Lexeme) (s : HeldScopes) (start : Opened) (x : Found Opened) → Going n ts s start s ts
      → run bracket_turn start s ts ≡ done x → Going n ts s x.tree x.scopes x.rest
  run_keeps n ts s start x h e =
      run-keep bracket_turn (λ state t k. Going n ts s state t k)
      (λ state t k x h e. brackets_keep n ts s t state.brackets state.last k x h e) start s ts x h e

  no_brackets : (bs : List Bracket) (s : HeldScopes) (k : List Lexeme) → bracket_turn_by bs s k ≡ None → bs ≡ []
  no_brackets [] s k e = refl
  no_brackets (b ∷ bs) s k e = absurd cc

  -- what a group took is its tokens
  take_all : (n m : ℕ) (opening : Lexeme) (taken k : List Lexeme) → opening ∷ (taken ++ k) ≡ drop n all
      → m ≡ n + length taken → tokens_between all n m ≡ opening ∷ taken
  take_all n m opening taken k is at =
      let count : m + 1 - n ≡ suc (length taken) = omega (arith, at) in
      ap (λ (c : ℕ). take c (drop n all)) count ∙ ap (λ (ts : List Lexeme). take (suc (length taken)) ts) (sym is)
      ∙ ap (λ (ts : List Lexeme). opening ∷ ts) (take-append_seam taken k)

  first_last : (opening : Lexeme) (inside : List Lexeme) (closing : Lexeme)
      → opening.kind ≡ kinds.Punct puncts.OpenParen → closing.kind ≡ kinds.Punct puncts.CloseParen →
      opening ∷ (inside ++ closing ∷ []) ≡ record { kind = kinds.Punct puncts.OpenParen; at = opening.at }
      ∷ (inside ++ record { kind = kinds.Punct puncts.CloseParen; at = closing.at } ∷ [])
  first_last opening inside closing o c =
      ap (λ (kind : TokenKind). record { kind = kind; at = opening.at } ∷ (inside ++ closing ∷ [])) o ∙
      ap (λ (kind : TokenKind). record { kind = kinds.Punct puncts.OpenParen; at = opening.at }
      ∷ (inside ++ record { kind = kind; at = closing.at } ∷ [])) c

  -- a group that was read
  pub record TookGroup (s : HeldScopes) (ts : List Lexeme) (g : Group) (t : HeldScopes) (k : List Lexeme) : Type 0 where
    pub spelled : ts ≡ group_text all g k
    pub fits : IsGroup all g
    pub same : t ≡ s
    pub left : IsTail all k

  by_nest : (s t : HeldScopes) (opening : Lexeme) (ts : List Lexeme) (k : List Lexeme) (n m : ℕ) (taken : List Lexeme)
      → opening.kind ≡ kinds.Punct puncts.OpenParen → opening.at ≡ n →
      opening ∷ ts ≡ drop n all → ts ≡ taken ++ k → m ≡ n + length taken → k ≡ drop (suc (n + length taken)) all → t ≡ s
      → Nest [] m taken →
      TookGroup s (opening ∷ ts) (record { first = n; last = m }) t k
  by_nest s t opening ts k n m taken o at here parts count left same (closed inside closing c b) =
      let whole : opening ∷ (taken ++ k) ≡ drop n all = ap (λ (us : List Lexeme). opening ∷ us) (sym parts) ∙ here in
      let is = take_all n m opening taken k whole count in
      record {
        spelled = ap (λ (us : List Lexeme). opening ∷ us) parts ∙ ap (λ (us : List Lexeme). us ++ k) (sym is);
        fits = record {
          inside = inside;
          tokens = is ∙ first_last opening inside closing o c
              ∙ ap (λ (n : ℕ). record { kind = kinds.Punct puncts.OpenParen; at = n }
              ∷ (inside ++ record { kind = kinds.Punct puncts.CloseParen; at = m } ∷ [])) at;
          balanced = b;
        };
        same = same;
        left = (suc (n + length taken), left);
      }

  read_group : (s : HeldScopes) (ts : List Lexeme) (x : Found Group) → IsTail all ts → group_at s ts ≡ done x
      → TookGroup s ts x.tree x.scopes x.rest
  unfolding group_at
  read_group s ts x tail e =
      let a = bind_ok e in
      let b = bind_ok a.2 in
      by_first ts tail a.0 a.1 b.0 b.1 (ok_is b.2)
    where
      by_first : (ts : List Lexeme) → IsTail all ts → (y : Found ℕ) → token_at is_open_paren s ts ≡ done y
          → (z : Found Opened) →
          run bracket_turn (record { brackets = Paren ∷ []; last = y.tree }) y.scopes y.rest ≡ done z
          → found (record { first = y.tree; last = z.tree.last }) z.scopes z.rest ≡ x →
          TookGroup s ts x.tree x.scopes x.rest
      by_first [] tail y e z r is = absurd cc
      by_first (t ∷ us) tail y e z r is = by_test (is_open_paren t.kind) refl e
        where
          opened : is_open_paren t.kind ≡ true → (y : Found ℕ) → found t.at s us ≡ y
              → run bracket_turn (record { brackets = Paren ∷ []; last = y.tree }) y.scopes y.rest ≡ done z →
              found (record { first = y.tree; last = z.tree.last }) z.scopes z.rest ≡ x
              → TookGroup s (t ∷ us) x.tree x.scopes x.rest
          opened test y same r is =
              let at : t.at ≡ tail.0 = number_is all numbered t us tail in
              let r' : run bracket_turn (record { brackets = Paren ∷ []; last = t.at }) s us ≡ done z =
              subst (λ (y : Found ℕ). run bracket_turn (record { brackets = Paren ∷ []; last = y.tree }) y.scopes y.rest
              ≡ done z) (sym same) r in
              let begun : Going t.at us s (record { brackets = Paren ∷ []; last = t.at }) s us = record {
                taken = [];
                parts = refl;
                nest = outermost t.at [] nothing;
                last = omega arith;
                left = drop_next all tail.0 t us tail.1 ∙ ap (λ (m : ℕ). drop m all) (next_is t.at tail.0 at);
                same = refl;
              } in
              let g = run_keeps t.at us s (record { brackets = Paren ∷ []; last = t.at }) z begun r' in
              let over =
              run_stops bracket_turn bracket_shrinks (record { brackets = Paren ∷ []; last = t.at }) s us z r' in
              let none = no_brackets z.tree.brackets z.scopes z.rest over in
              let is' : found (record { first = t.at; last = z.tree.last }) z.scopes z.rest ≡ x =
              subst (λ (y : Found ℕ). found (record { first = y.tree; last = z.tree.last }) z.scopes z.rest ≡ x)
              (sym same) is in
              subst (λ (x : Found Group). TookGroup s (t ∷ us) x.tree x.scopes x.rest) is'
              (by_nest s z.scopes t us z.rest t.at z.tree.last g.taken (open_paren_kind t.kind test) refl
              (tail.1 ∙ ap (λ (n : ℕ). drop n all) (sym at)) g.parts g.last g.left g.same
              (subst (λ (bs : List Bracket). Nest bs z.tree.last g.taken) none g.nest))
            where
              next_is : (a b : ℕ) → a ≡ b → suc b ≡ suc (a + 0)
              next_is a b e = omega (arith, e)

          by_test : (b : Bool) → is_open_paren t.kind ≡ b
              → (if b then ends t.at s us else refuses Unexpected (t ∷ us)) ≡ done y
              → TookGroup s (t ∷ us) x.tree x.scopes x.rest
          by_test true test e = opened test y (ok_is e) r is
          by_test false test e = absurd cc

  pub took_group : (s : HeldScopes) (ts : List Lexeme) (x : Found Group) → IsTail all ts → group_at s ts ≡ done x
      → TookGroup s ts x.tree x.scopes x.rest
  took_group s ts x tail e = read_group s ts x tail e

  pub group_sound : (room : ℕ) → IsSound all (group_form all) room group_at
  group_sound room s ts x tail e =
      let g = read_group s ts x tail e in
      record { spelled = g.spelled; fits = g.fits; named = ap Some (sym g.same); low = omega arith; left = g.left }

-- a group is read as it is spelled

-- two tokens that match open and close one bracket
inside_opens : (opening closing : TokenKind) → are_brackets opening closing ≡ true
    → (b : Bracket) × (inside_of opening ≡ Opens b) × (inside_of closing ≡ Closes b)
inside_opens (kinds.Punct puncts.OpenParen) (kinds.Punct puncts.CloseParen) e = (Paren, refl, refl)
inside_opens (kinds.Punct puncts.OpenBracket) (kinds.Punct puncts.CloseBracket) e = (Square, refl, refl)
inside_opens (kinds.Punct puncts.OpenBrace) (kinds.Punct puncts.CloseBrace) e = (Brace, refl, refl)
inside_opens opening closing e = absurd cc

-- a token that is no bracket and not the end is plain inside brackets
inside_plain : (kind : TokenKind) → is_inner kind ≡ true → inside_of kind ≡ Plain
inside_plain (kinds.Punct puncts.OpenParen) e = absurd cc
inside_plain (kinds.Punct puncts.CloseParen) e = absurd cc
inside_plain (kinds.Punct puncts.OpenBracket) e = absurd cc
inside_plain (kinds.Punct puncts.CloseBracket) e = absurd cc
inside_plain (kinds.Punct puncts.OpenBrace) e = absurd cc
inside_plain (kinds.Punct puncts.CloseBrace) e = absurd cc
inside_plain kinds.End e = absurd cc
inside_plain kind e = refl

-- each bracket passes the test for being the same as itself
same_self : (b : Bracket) → is_same b b ≡ true
same_self Paren = refl
same_self Square = refl
same_self Brace = refl

abbrev state_of : List Bracket → ℕ → Opened
state_of bs m = record { brackets = bs; last = m }

one_turn : (b : Bracket) (bs : List Bracket) (m : ℕ) (s : HeldScopes) (t : Lexeme) (k : List Lexeme) (x : Found Opened)
    → bracket_by (inside_of t.kind) b bs t s k ≡ done x →
    run bracket_turn (state_of (b ∷ bs) m) s (t ∷ k) ≡ run bracket_turn x.tree x.scopes x.rest
one_turn b bs m s t k x e = run_on bracket_turn bracket_shrinks (state_of (b ∷ bs) m) s (t ∷ k) x (ap Some e)

by_inside_of : (i j : Inside) (b : Bracket) (bs : List Bracket) (t : Lexeme) (s : HeldScopes) (k : List Lexeme)
    (x : Found Opened)
    → i ≡ j → bracket_by j b bs t s k ≡ done x → bracket_by i b bs t s k ≡ done x
by_inside_of i j b bs t s k x is e = rw is e

closes : (b : Bracket) (bs : List Bracket) (m : ℕ) (s : HeldScopes) (t : Lexeme) (k : List Lexeme)
    → inside_of t.kind ≡ Closes b →
    run bracket_turn (state_of (b ∷ bs) m) s (t ∷ k) ≡ run bracket_turn (state_of bs t.at) s k
closes b bs m s t k is =
    one_turn b bs m s t k (found (state_of bs t.at) s k)
    (by_inside_of (inside_of t.kind) (Closes b) b bs t s k (found (state_of bs t.at) s k) is (rw (same_self b) refl))

-- balanced tokens are gone through
balanced_run : {xs : List Lexeme} → IsBalanced xs
    → (b : Bracket) (bs : List Bracket) (m : ℕ) (s : HeldScopes) (k : List Lexeme) →
    (n : ℕ) × (run bracket_turn (state_of (b ∷ bs) m) s (xs ++ k) ≡ run bracket_turn (state_of (b ∷ bs) n) s k)
balanced_run nothing b bs m s k = (m, refl)
balanced_run (inner t xs is h) b bs m s k =
    let r = balanced_run h b bs t.at s k in (
      r.0,
      one_turn b bs m s t (xs ++ k) (found (state_of (b ∷ bs) t.at) s (xs ++ k))
          (by_inside_of (inside_of t.kind) Plain b bs t s (xs ++ k) (found (state_of (b ∷ bs) t.at) s (xs ++ k))
          (inside_plain t.kind is) refl) ∙ r.1,
    )
balanced_run (bracketed opening closing inside xs is h g) b bs m s k =
    let o = inside_opens opening.kind closing.kind is in
    let i = balanced_run h o.0 (b ∷ bs) opening.at s (closing ∷ (xs ++ k)) in
    let r = balanced_run g b bs closing.at s k in (
      r.0,
      ap (λ (ts : List Lexeme). run bracket_turn (state_of (b ∷ bs) m) s (opening ∷ ts))
          (append_assoc inside (closing ∷ xs) k) ∙
          one_turn b bs m s opening (inside ++ (closing ∷ (xs ++ k)))
          (found (state_of (o.0 ∷ b ∷ bs) opening.at) s (inside ++ (closing ∷ (xs ++ k))))
          (by_inside_of (inside_of opening.kind) (Opens o.0) b bs opening s (inside ++ (closing ∷ (xs ++ k)))
          (found (state_of (o.0 ∷ b ∷ bs) opening.at) s (inside ++ (closing ∷ (xs ++ k)))) o.1 refl) ∙
          i.1 ∙ closes o.0 (b ∷ bs) i.0 s closing (xs ++ k) o.2 ∙ r.1,
    )

run_over : (m : ℕ) (s : HeldScopes) (k : List Lexeme)
    → run bracket_turn (state_of [] m) s k ≡ done (found (state_of [] m) s k)
run_over m s k = run_ends bracket_turn bracket_shrinks (state_of [] m) s k refl

pub group_read : (all : List Lexeme) (g : Group) (s : HeldScopes) (k : List Lexeme) → IsGroup all g
    → group_at s (group_text all g k) ≡ done (found g s k)
unfolding group_at
group_read all g s k h =
    let paren : ℕ → Lexeme = λ n. record { kind = kinds.Punct puncts.OpenParen; at = n } in
    let closing : Lexeme = record { kind = kinds.Punct puncts.CloseParen; at = g.last } in
    let r = balanced_run h.balanced Paren [] g.first s (closing ∷ k) in
    let whole : run bracket_turn (state_of (Paren ∷ []) g.first) s (h.inside ++ (closing ∷ k))
    ≡ done (found (state_of [] g.last) s k) =
    r.1 ∙ closes Paren [] r.0 s closing k refl ∙ run_over g.last s k in
    ap (λ (ts : List Lexeme). group_at s (ts ++ k)) h.tokens ∙
    ap (λ (ts : List Lexeme). group_at s (record { kind = kinds.Punct puncts.OpenParen; at = g.first } ∷ ts))
    (append_assoc h.inside (closing ∷ []) k) ∙
    bind_is _ refl (bind_is _ whole refl)

-- a group is read back from its text, before any token
pub group_complete : (all : List Lexeme) (room : ℕ) → IsComplete (group_form all) always room group_at
group_complete all room g s s' k h n l ended =
    group_read all g s k h ∙ ap (λ (t : HeldScopes). done (found g t k)) (some_is s s' n)
  where
    some_is : (s t : HeldScopes) → Some s ≡ Some t → s ≡ t
    some_is s t e = cc
