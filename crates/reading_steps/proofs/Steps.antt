-- What a reader answers or refuses rests on the tokens up to the next one, and what was read before a refusal can be
-- completed: by tokens that the reader itself reads to the end. One lemma for each way to put readers together.
use Rattle.std.proofs.Common.{◌≡◌, ℕ, zero, suc, ◌+◌, ◌<◌, ◌≤◌, Bool, true, false, if◌then◌else◌, List, [], ◌∷◌, ◌++◌, length, ◌⊎◌, inl, inr, Some, None, Result, Ok, Err, refl, sym, ◌∙◌, ap, subst, arith, append_assoc}
use Rattle.std.specs.Prelude.{nat_le}
use Rattle.std.proofs.lemmas.Bool.{leb-true}
use Rattle.std.proofs.lemmas.List.{append-nil}
use Rattle.c_words.specs.declared.kinds.TokenKind.{TokenKind}
use Rattle.c_tree.specs.declared.lexeme.Lexeme.{Lexeme}
use Rattle.c_units.specs.HeldScopes.{HeldScopes, HeldScope, leave}
use Rattle.c_units.specs.Units.{numbered_from}
use Rattle.c_reading.specs.declared.kinds.FaultKind.{FaultKind}
use Rattle.c_reading.specs.declared.kinds.FaultKind.TheVariants.{Unexpected, TooDeep}
use Rattle.c_reading.specs.Reading.{Refusal, Found, Read, Reader, Turn, and_then, ends, fits, refuses, number_at, kind_at, take_one, token_at, run}
use Rattle.c_reading.specs.Tokens.{is_end}
use Rattle.c_reading.proofs.Binding.{found, done, bind_ok, fits_is}
use Rattle.c_reading.proofs.Loops.{TurnShrinks, run_is, run-keep}
use Rattle.reading_steps.specs.Keeping.{Kept}
use Rattle.reading_steps.specs.Steps.{first_kind, has_end, any, Answered, Completes, Opened, Refused, Outcome, Good, Ready, Law, Gives, Ends}
use Rattle.reading_steps.proofs.Keeping.{kept_refl, kept_trans, kept_weaker, own_kept}

-- a loop takes no token back
pub run_falls : {S : Type 0} (turn : Turn S) → TurnShrinks turn
    → (a : S) (s : HeldScopes) (ts : List Lexeme) (x : Found S) → run turn a s ts ≡ done x → length x.rest ≤ length ts
run_falls turn shrinks a s ts x e =
    run-keep turn (λ a s k. length k ≤ length ts)
    (λ a s k x h e. let less : length x.rest < length k = shrinks a s k x e in omega arith) a s ts x (omega arith) e

-- one reader behind another
abbrev pub behind : {A B : Type 0} → Reader A → (A → Reader B) → Reader B
behind a f s ts = and_then (a s ts) (λ x. f x.tree x.scopes x.rest)

pub first_append : (b x y : List Lexeme) → first_kind x ≡ first_kind y → first_kind (b ++ x) ≡ first_kind (b ++ y)
first_append [] x y h = h
first_append (t ∷ ts) x y h = refl

-- lists of tokens with a first token of the same kind, or without any, have the same kind first
pub kind_same : (x y : List Lexeme) → first_kind x ≡ first_kind y → kind_at x ≡ kind_at y
kind_same [] [] h = refl
kind_same [] (t ∷ ts) h = absurd cc
kind_same (t ∷ ts) [] h = absurd cc
kind_same (t ∷ ts) (u ∷ us) h = cc

-- two lists numbered together are the first numbered, then the second from the number behind it
pub numbered_append : (at : ℕ) (xs ys : List TokenKind)
    → numbered_from at (xs ++ ys) ≡ numbered_from at xs ++ numbered_from (at + length xs) ys
numbered_append at [] ys = ap (λ (n : ℕ). numbered_from n ys) (omega arith)
numbered_append at (x ∷ xs) ys =
    ap (λ (k : List Lexeme). record { kind = x; at = at } ∷ k)
    (numbered_append (suc at) xs ys ∙ ap (λ (n : ℕ). numbered_from (suc at) xs ++ numbered_from n ys) (omega arith))

longer : (b k : List Lexeme) → length k ≤ length (b ++ k)
longer [] k = omega arith
longer (t ∷ b) k = let h = longer b k in omega (arith, h)

-- a list is longer by a token at least than what stands behind its first
longer_behind : (t : Lexeme) (b more k : List Lexeme) → length k < length ((t ∷ b) ++ (more ++ k))
longer_behind t b more k =
    let one = longer more k in
    let two = longer b (more ++ k) in
    omega (arith, one, two)

and_then_twice : {A B C : Type 0} (r : Result A Refusal) (f : A → Result B Refusal) (g : B → Result C Refusal)
    → and_then (and_then r f) g ≡ and_then r (λ x. and_then (f x) g)
unfolding and_then
and_then_twice (Ok x) f g = refl
and_then_twice (Err e) f g = refl

head_is : (x t : Lexeme) (xs r : List Lexeme) → x ∷ xs ≡ t ∷ r → x ≡ t
head_is x t xs r e = cc

tail_is : (x t : Lexeme) (xs r : List Lexeme) → x ∷ xs ≡ t ∷ r → xs ≡ r
tail_is x t xs r e = cc

module _ (keep : Bool) where
  -- refused at once
  pub refused_here : {A : Type 0} (read : Reader A) (stops : TokenKind → Bool) (s : HeldScopes) (ts : List Lexeme)
      (f : FaultKind) →
      ((k : List Lexeme) → first_kind k ≡ first_kind ts → read s k ≡ refuses f k) → Good keep read stops s ts
  refused_here {A} read stops s ts f is = subst (Outcome keep read stops s ts) (sym (is ts refl)) answer
    where
      answer : Refused keep read stops s ts (f, number_at ts)
      answer = record { before = []; rest = ts; parts = refl; place = refl; ending = λ h. h; same = is; opened = tt }

  -- nothing is taken
  pub ends_good : {A : Type 0} (a : A) (stops : TokenKind → Bool) (s : HeldScopes) (ts : List Lexeme)
      → Good keep (ends a) stops s ts
  ends_good a stops s ts = record {
    before = [];
    parts = refl;
    ending = λ h. h;
    keeps = kept_refl keep s;
    same = λ k h. refl;
    ended = λ k h. refl;
  }

  -- one token is taken, whatever follows
  pub take_good : (stops : TokenKind → Bool) (s : HeldScopes) (ts : List Lexeme) → is_end (kind_at ts) ≡ false
      → Good keep take_one stops s ts
  take_good stops s [] h = absurd cc
  take_good stops s (t ∷ ts) h = record {
    before = t ∷ [];
    parts = refl;
    ending = λ e. subst (λ (b : Bool). (if b then true else has_end ts) ≡ true) h e;
    keeps = kept_refl keep s;
    same = λ k e. refl;
    ended = λ k e. refl;
  }

  pub token_good : (test : TokenKind → Bool) (stops : TokenKind → Bool) (s : HeldScopes) (ts : List Lexeme)
      → ((kind : TokenKind) → test kind ≡ true → is_end kind ≡ false) → Good keep (token_at test) stops s ts
  token_good test stops s [] h = refused_here (token_at test) stops s [] Unexpected is
    where
      is : (k : List Lexeme) → first_kind k ≡ None → token_at test s k ≡ refuses Unexpected k
      is [] e = refl
      is (t ∷ ts) e = absurd cc
  token_good test stops s (t ∷ ts) h = by_test (test t.kind) refl
    where
      by_test : (b : Bool) → test t.kind ≡ b → Good keep (token_at test) stops s (t ∷ ts)
      by_test true is = subst (Outcome keep (token_at test) stops s (t ∷ ts)) (sym now) answer
        where
          now : token_at test s (t ∷ ts) ≡ done (found t.at s ts)
          now = rw is refl

          answer : Answered keep (token_at test) stops s (t ∷ ts) (found t.at s ts)
          answer = record {
            before = t ∷ [];
            parts = refl;
            ending = λ e. subst (λ (b : Bool). (if b then true else has_end ts) ≡ true) (h t.kind is) e;
            keeps = kept_refl keep s;
            same = λ k e. rw is refl;
            ended = λ k e. rw is refl;
          }
      by_test false is = refused_here (token_at test) stops s (t ∷ ts) Unexpected other
        where
          other : (k : List Lexeme) → first_kind k ≡ Some t.kind → token_at test s k ≡ refuses Unexpected k
          other [] e = absurd cc
          other (u ∷ us) e = let same : u.kind ≡ t.kind = cc in rw (same, is) refl

  -- the same reader, written otherwise: where it takes a token or stops alike, the same holds of it
  pub good_as : {A : Type 0} (read other : Reader A) (stops : TokenKind → Bool) (s : HeldScopes) (ts : List Lexeme) →
      ((k : List Lexeme) → first_kind k ≡ first_kind ts → other s k ≡ read s k) →
      (((x : Found A) → read s ts ≡ done x → length x.rest < length ts)
      ⊎ ((k : List Lexeme) → stops (kind_at k) ≡ true → other s k ≡ read s k)) →
      Good keep read stops s ts → Good keep other stops s ts
  good_as {A} read other stops s ts same takes g = by_read (read s ts) refl (same ts refl) g
    where
      like_behind : (t : Lexeme) (b k : List Lexeme) (r : List Lexeme) → ts ≡ (t ∷ b) ++ r
          → other s ((t ∷ b) ++ k) ≡ read s ((t ∷ b) ++ k)
      like_behind t b k r parts = same ((t ∷ b) ++ k) (ap first_kind (sym parts))

      open_as : (b r : List Lexeme) → ts ≡ b ++ r → Opened keep read stops s b → Opened keep other stops s b
      open_as [] r parts o = tt
      open_as (t ∷ b) r parts o = λ at.
          let c = o at in
          record {
            more = c.more;
            tree = c.tree;
            scopes = c.scopes;
            keeps = c.keeps;
            reads = λ k h. like_behind t b (numbered_from at c.more ++ k) r parts ∙ c.reads k h;
          }

      like : (b r k : List Lexeme) → ts ≡ b ++ r → first_kind k ≡ first_kind r → other s (b ++ k) ≡ read s (b ++ k)
      like b r k parts h = same (b ++ k) (first_append b k r h ∙ ap first_kind (sym parts))

      ended_as : (b k : List Lexeme) (x : Found A) → read s ts ≡ done x → ts ≡ b ++ x.rest → stops (kind_at k) ≡ true
          → other s (b ++ k) ≡ read s (b ++ k)
      ended_as [] k x is parts h = by_takes takes
        where
          by_takes : ((x : Found A) → read s ts ≡ done x → length x.rest < length ts)
              ⊎ ((k : List Lexeme) → stops (kind_at k) ≡ true → other s k ≡ read s k)
              → other s k ≡ read s k
          by_takes (inl less) =
              let lower = less x is in
              let whole = ap length parts in
              absurd (omega (arith, lower, whole))
          by_takes (inr alike) = alike k h
      ended_as (t ∷ b) k x is parts h = like_behind t b k x.rest parts

      by_read : (r : Read A) → read s ts ≡ r → other s ts ≡ read s ts → Outcome keep read stops s ts r
          → Outcome keep other stops s ts (other s ts)
      by_read (Ok x) is now o = subst (Outcome keep other stops s ts) (sym (now ∙ is)) answer
        where
          answer : Answered keep other stops s ts x
          answer = record {
            before = o.before;
            parts = o.parts;
            ending = o.ending;
            keeps = o.keeps;
            same = λ k h. like o.before x.rest k o.parts h ∙ o.same k h;
            ended = λ k h. ended_as o.before k x is o.parts h ∙ o.ended k h;
          }
      by_read (Err e) is now o = subst (Outcome keep other stops s ts) (sym (now ∙ is)) answer
        where
          answer : Refused keep other stops s ts e
          answer = record {
            before = o.before;
            rest = o.rest;
            parts = o.parts;
            place = o.place;
            ending = o.ending;
            same = λ k h. like o.before o.rest k o.parts h ∙ o.same k h;
            opened = open_as o.before o.rest o.parts o.opened;
          }

  -- by a test of the first token, and of the scopes
  pub if_good : {A : Type 0} (test : HeldScopes → TokenKind → Bool) (one two : Reader A) (stops : TokenKind → Bool)
      (s : HeldScopes) (ts : List Lexeme) →
      (test s (kind_at ts) ≡ true → Good keep one stops s ts)
      → (test s (kind_at ts) ≡ false → Good keep two stops s ts) →
      (test s (kind_at ts) ≡ true → ((x : Found A) → one s ts ≡ done x → length x.rest < length ts)
      ⊎ ((kind : TokenKind) → stops kind ≡ true → test s kind ≡ true)) →
      (test s (kind_at ts) ≡ false → ((x : Found A) → two s ts ≡ done x → length x.rest < length ts)
      ⊎ ((kind : TokenKind) → stops kind ≡ true → test s kind ≡ false)) →
      Good keep (λ s ts. if test s (kind_at ts) then one s ts else two s ts) stops s ts
  if_good {A} test one two stops s ts g h one_takes two_takes = by_test (test s (kind_at ts)) refl
    where
      by_test : (b : Bool) → test s (kind_at ts) ≡ b
          → Good keep (λ s ts. if test s (kind_at ts) then one s ts else two s ts) stops s ts
      by_test true is =
          good_as one (λ s ts. if test s (kind_at ts) then one s ts else two s ts) stops s ts
          (λ k e. rw (kind_same k ts e, is) refl) (takes (one_takes is)) (g is)
        where
          takes : ((x : Found A) → one s ts ≡ done x → length x.rest < length ts)
              ⊎ ((kind : TokenKind) → stops kind ≡ true → test s kind ≡ true) →
              ((x : Found A) → one s ts ≡ done x → length x.rest < length ts) ⊎ ((k : List Lexeme)
              → stops (kind_at k) ≡ true → (if test s (kind_at k) then one s k else two s k) ≡ one s k)
          takes (inl less) = inl less
          takes (inr alike) = inr (λ k e. rw (alike (kind_at k) e) refl)
      by_test false is =
          good_as two (λ s ts. if test s (kind_at ts) then one s ts else two s ts) stops s ts
          (λ k e. rw (kind_same k ts e, is) refl) (takes (two_takes is)) (h is)
        where
          takes : ((x : Found A) → two s ts ≡ done x → length x.rest < length ts)
              ⊎ ((kind : TokenKind) → stops kind ≡ true → test s kind ≡ false) →
              ((x : Found A) → two s ts ≡ done x → length x.rest < length ts) ⊎ ((k : List Lexeme)
              → stops (kind_at k) ≡ true → (if test s (kind_at k) then one s k else two s k) ≡ two s k)
          takes (inl less) = inl less
          takes (inr alike) = inr (λ k e. rw (alike (kind_at k) e) refl)

  -- where there is room; else the first token is refused
  pub fits_good : {A : Type 0} (least room : ℕ) (read : Reader A) (stops : TokenKind → Bool) (s : HeldScopes)
      (ts : List Lexeme) →
      (least ≤ room → Good keep read stops s ts) → Good keep (λ s ts. fits least room ts (read s ts)) stops s ts
  unfolding fits
  fits_good {A} least room read stops s ts g = by_room (nat_le least room) refl
    where
      by_room : (b : Bool) → nat_le least room ≡ b → Good keep (λ s ts. fits least room ts (read s ts)) stops s ts
      by_room true is =
          good_as read (λ s ts. fits least room ts (read s ts)) stops s ts (λ k e. rw is refl) (inr (λ k e. rw is refl))
          (g (leb-true least room is))
      by_room false is = refused_here (λ s ts. fits least room ts (read s ts)) stops s ts TooDeep (λ k e. rw is refl)

  pub ready_fits : {A : Type 0} (least room : ℕ) (read : Reader A) (front stops : TokenKind → Bool)
      (s : HeldScopes) (at : ℕ)
      → least ≤ room → Ready keep read front stops s at →
      Ready keep (λ s ts. fits least room ts (read s ts)) front stops s at
  ready_fits least room read front stops s at h r = record {
    more = r.more;
    tree = r.tree;
    scopes = r.scopes;
    keeps = r.keeps;
    begins = r.begins;
    reads = λ k e. fits_is least room (numbered_from at r.more ++ k) (read s (numbered_from at r.more ++ k)) h
        ∙ r.reads k e;
  }

  pub ready_ends : {A : Type 0} (a : A) (front stops : TokenKind → Bool) (s : HeldScopes) (at : ℕ)
      → ((kind : TokenKind) → stops kind ≡ true → front kind ≡ true) → Ready keep (ends a) front stops s at
  ready_ends a front stops s at h = record {
    more = [];
    tree = a;
    scopes = s;
    keeps = kept_refl keep s;
    begins = λ k e. h (kind_at k) e;
    reads = λ k e. refl;
  }

  pub ready_take : (kind : TokenKind) (front stops : TokenKind → Bool) (s : HeldScopes) (at : ℕ) → front kind ≡ true
      → Ready keep take_one front stops s at
  ready_take kind front stops s at h = record {
    more = kind ∷ [];
    tree = at;
    scopes = s;
    keeps = kept_refl keep s;
    begins = λ k e. h;
    reads = λ k e. refl;
  }

  pub ready_token : (test : TokenKind → Bool) (kind : TokenKind) (front stops : TokenKind → Bool)
      (s : HeldScopes) (at : ℕ)
      → test kind ≡ true → front kind ≡ true → Ready keep (token_at test) front stops s at
  ready_token test kind front stops s at is h = record {
    more = kind ∷ [];
    tree = at;
    scopes = s;
    keeps = kept_refl keep s;
    begins = λ k e. h;
    reads = λ k e. rw is refl;
  }

  -- the same reader, written otherwise, where it begins so
  pub ready_as : {A : Type 0} (read other : Reader A) (front stops : TokenKind → Bool) (s : HeldScopes) (at : ℕ) →
      ((k : List Lexeme) → front (kind_at k) ≡ true → other s k ≡ read s k) → Ready keep read front stops s at
      → Ready keep other front stops s at
  ready_as read other front stops s at same r = record {
    more = r.more;
    tree = r.tree;
    scopes = r.scopes;
    keeps = r.keeps;
    begins = r.begins;
    reads = λ k e. same (numbered_from at r.more ++ k) (r.begins k e) ∙ r.reads k e;
  }

  -- from nothing
  pub ready_bind : {A B : Type 0} (a : Reader A) (f : A → Reader B) (front middle stops : TokenKind → Bool)
      (s : HeldScopes) (at : ℕ)
      → Ready keep a front middle s at →
      ((tree : A) (scopes : HeldScopes) → Ends keep a middle s tree scopes → (at : ℕ)
      → Ready keep (f tree) middle stops scopes at)
      → Ready keep (behind a f) front stops s at
  unfolding and_then
  ready_bind {A} {B} a f front middle stops s at r next = record {
    more = r.more ++ q.more;
    tree = q.tree;
    scopes = q.scopes;
    keeps = kept_trans keep s r.scopes q.scopes r.keeps q.keeps;
    begins = λ k h.
        rw (numbered_append at r.more q.more, append_assoc (numbered_from at r.more) (numbered_from at2 q.more) k)
        (r.begins (numbered_from at2 q.more ++ k) (q.begins k h));
    reads = λ k h. rw (
      numbered_append at r.more q.more,
      append_assoc (numbered_from at r.more) (numbered_from at2 q.more) k,
      r.reads (numbered_from at2 q.more ++ k) (q.begins k h),
    ) (q.reads k h);
  }
    where
      at2 : ℕ
      at2 = at + length r.more

      q : Ready keep (f r.tree) middle stops r.scopes at2
      q = next r.tree r.scopes
          (record { keeps = r.keeps; reads = λ k h. (numbered_from at r.more ++ k, r.reads k h) }) at2

  -- What an answer before a token of one test says of an answer before a token of another test, which may go by the
  -- answer.
  abbrev pub Widens : {A : Type 0} → Reader A → (TokenKind → Bool) → (A → TokenKind → Bool) → HeldScopes → Type 0
  Widens {A} a middle front s =
      (tree : A) (scopes : HeldScopes) (b : List Lexeme)
      → ((k : List Lexeme) → middle (kind_at k) ≡ true → a s (b ++ k) ≡ ends tree scopes k) → (k : List Lexeme)
      → front tree (kind_at k) ≡ true →
      a s (b ++ k) ≡ ends tree scopes k

  -- from nothing, where the second begins as the first one's answer says
  pub ready_bind_by : {A B : Type 0} (a : Reader A) (f : A → Reader B) (begin middle stops : TokenKind → Bool)
      (front : A → TokenKind → Bool) (s : HeldScopes) (at : ℕ)
      → Widens a middle front s →
      (r : Ready keep a begin middle s at)
      → ((k : List Lexeme) → front r.tree (kind_at k) ≡ true → begin (kind_at (numbered_from at r.more ++ k)) ≡ true) →
      ((tree : A) (scopes : HeldScopes) → Ends keep a middle s tree scopes → (at : ℕ)
      → Ready keep (f tree) (front tree) stops scopes at)
      → Ready keep (behind a f) begin stops s at
  unfolding and_then
  ready_bind_by {A} {B} a f begin middle stops front s at widens r begins next = record {
    more = r.more ++ q.more;
    tree = q.tree;
    scopes = q.scopes;
    keeps = kept_trans keep s r.scopes q.scopes r.keeps q.keeps;
    begins = λ k h.
        rw (numbered_append at r.more q.more, append_assoc (numbered_from at r.more) (numbered_from at2 q.more) k)
        (begins (numbered_from at2 q.more ++ k) (q.begins k h));
    reads = λ k h.
        rw (
          numbered_append at r.more q.more,
          append_assoc (numbered_from at r.more) (numbered_from at2 q.more) k,
          widens r.tree r.scopes (numbered_from at r.more) r.reads (numbered_from at2 q.more ++ k) (q.begins k h),
        )
        (q.reads k h);
  }
    where
      at2 : ℕ
      at2 = at + length r.more

      q : Ready keep (f r.tree) (front r.tree) stops r.scopes at2
      q = next r.tree r.scopes
          (record { keeps = r.keeps; reads = λ k h. (numbered_from at r.more ++ k, r.reads k h) }) at2

  opened_at : {A : Type 0} (read : Reader A) (stops : TokenKind → Bool) (s : HeldScopes) (b : List Lexeme)
      → ((at : ℕ) → Completes keep read stops s b at) → Opened keep read stops s b
  opened_at read stops s [] c = tt
  opened_at read stops s (t ∷ b) c = c

  module _ {A B : Type 0} (a : Reader A) (f : A → Reader B) (middle stops : TokenKind → Bool)
      (front : A → TokenKind → Bool) (s : HeldScopes) (ts : List Lexeme) (widens : Widens a middle front s)
      (ready : (tree : A) (scopes : HeldScopes) → Gives keep a middle s tree scopes → (at : ℕ)
      → Ready keep (f tree) (front tree) stops scopes at) where
    -- where the first is refused
    first_opened : (b : List Lexeme) → Opened keep a middle s b → Opened keep (behind a f) stops s b
    unfolding and_then
    first_opened [] o = tt
    first_opened (t ∷ b) o = λ at.
        let c = o at in
        let at2 : ℕ = at + length c.more in
        let r = ready c.tree c.scopes (record {
          keeps = c.keeps;
          reads = λ k h.
              ((t ∷ b) ++ (numbered_from at c.more ++ k), c.reads k h, longer_behind t b (numbered_from at c.more) k);
        }) at2 in
        let taken : List Lexeme = (t ∷ b) ++ numbered_from at c.more in
        let reads : (k : List Lexeme) → middle (kind_at k) ≡ true → a s (taken ++ k) ≡ ends c.tree c.scopes k =
        λ k h. rw (append_assoc (t ∷ b) (numbered_from at c.more) k) (c.reads k h) in
        record {
          more = c.more ++ r.more;
          tree = r.tree;
          scopes = r.scopes;
          keeps = kept_trans keep s c.scopes r.scopes c.keeps r.keeps;
          reads = λ k h.
              rw (
                numbered_append at c.more r.more,
                append_assoc (numbered_from at c.more) (numbered_from at2 r.more) k,
                sym (append_assoc (t ∷ b) (numbered_from at c.more) (numbered_from at2 r.more ++ k)),
                widens c.tree c.scopes taken reads (numbered_from at2 r.more ++ k) (r.begins k h),
              ) (r.reads k h);
        }

    -- where the second is, at its first token: nothing is owed where the first took nothing
    first_only : (x : Found A) → Kept keep s x.scopes → (b : List Lexeme)
        → ((k : List Lexeme) → middle (kind_at k) ≡ true → a s (b ++ k) ≡ done (found x.tree x.scopes k))
        → Opened keep (behind a f) stops s (b ++ [])
    unfolding and_then
    first_only x h [] ended = tt
    first_only x h (t ∷ b) ended = λ at.
        let r = ready x.tree x.scopes
        (record { keeps = h; reads = λ k h. ((t ∷ b) ++ k, ended k h, (let l = longer b k in omega (arith, l))) }) at in
        record {
          more = r.more;
          tree = r.tree;
          scopes = r.scopes;
          keeps = kept_trans keep s x.scopes r.scopes h r.keeps;
          reads = λ k h.
              rw (append-nil b, widens x.tree x.scopes (t ∷ b) ended (numbered_from at r.more ++ k) (r.begins k h))
              (r.reads k h);
        }

    -- where the second is
    second_opened : (x : Found A) (o : Answered keep a middle s ts x) (b r : List Lexeme) → x.rest ≡ b ++ r
        → Opened keep (f x.tree) stops x.scopes b → Opened keep (behind a f) stops s (o.before ++ b)
    unfolding and_then
    second_opened x o [] r parts p = first_only x o.keeps o.before o.ended
    second_opened x o (t ∷ b) r parts p = opened_at (behind a f) stops s (o.before ++ (t ∷ b)) (λ at.
        let c = p at in
        record {
          more = c.more;
          tree = c.tree;
          scopes = c.scopes;
          keeps = kept_trans keep s x.scopes c.scopes o.keeps c.keeps;
          reads = λ k h.
              rw (
                append_assoc o.before (t ∷ b) (numbered_from at c.more ++ k),
                o.same ((t ∷ b) ++ (numbered_from at c.more ++ k)) (ap first_kind (sym parts)),
              ) (c.reads k h);
        })

    pub bind_good_by : Good keep a middle s ts
        → ((x : Found A) → a s ts ≡ done x → Good keep (f x.tree) stops x.scopes x.rest) →
        (((x : Found A) (y : Found B) → a s ts ≡ done x → f x.tree x.scopes x.rest ≡ done y
        → length y.rest < length x.rest) ⊎ ((kind : TokenKind) → stops kind ≡ true → middle kind ≡ true)) →
        Good keep (behind a f) stops s ts
    unfolding and_then
    bind_good_by ga gf passes = by_a (a s ts) refl ga
      where
        by_a : (r : Read A) → a s ts ≡ r → Outcome keep a middle s ts r → Good keep (behind a f) stops s ts
        by_a (Err e) is o = subst (Outcome keep (behind a f) stops s ts) (sym now) answer
          where
            now : behind a f s ts ≡ Err e
            now = rw is refl

            answer : Refused keep (behind a f) stops s ts e
            answer = record {
              before = o.before;
              rest = o.rest;
              parts = o.parts;
              place = o.place;
              ending = o.ending;
              same = λ k h. rw (o.same k h) refl;
              opened = first_opened o.before o.opened;
            }
        by_a (Ok x) is o = by_f (f x.tree x.scopes x.rest) refl (gf x is)
          where
            by_f : (r : Read B) → f x.tree x.scopes x.rest ≡ r → Outcome keep (f x.tree) stops x.scopes x.rest r
                → Good keep (behind a f) stops s ts
            by_f (Err e) then_is p = subst (Outcome keep (behind a f) stops s ts) (sym now) answer
              where
                now : behind a f s ts ≡ Err e
                now = rw is then_is

                answer : Refused keep (behind a f) stops s ts e
                answer = record {
                  before = o.before ++ p.before;
                  rest = p.rest;
                  parts = o.parts ∙ ap (λ (k : List Lexeme). o.before ++ k) p.parts
                      ∙ sym (append_assoc o.before p.before p.rest);
                  place = p.place;
                  ending = λ h. p.ending (o.ending h);
                  same = λ k h. rw (
                    append_assoc o.before p.before k,
                    o.same (p.before ++ k) (first_append p.before k p.rest h ∙ ap first_kind (sym p.parts)),
                  ) (p.same k h);
                  opened = second_opened x o p.before p.rest p.parts p.opened;
                }
            by_f (Ok y) then_is p = subst (Outcome keep (behind a f) stops s ts) (sym now) answer
              where
                now : behind a f s ts ≡ done y
                now = rw is then_is

                ended_by : (b k : List Lexeme) → x.rest ≡ b ++ y.rest → stops (kind_at k) ≡ true
                    → a s (o.before ++ (b ++ k)) ≡ done (found x.tree x.scopes (b ++ k))
                ended_by (t ∷ b) k parts h = o.same ((t ∷ b) ++ k) (ap first_kind (sym parts))
                ended_by [] k parts h = by_passes passes
                  where
                    by_passes : (((x : Found A) (y : Found B) → a s ts ≡ done x → f x.tree x.scopes x.rest ≡ done y
                        → length y.rest < length x.rest)
                        ⊎ ((kind : TokenKind) → stops kind ≡ true → middle kind ≡ true)) →
                        a s (o.before ++ k) ≡ done (found x.tree x.scopes k)
                    by_passes (inl less) =
                        let lower = less x y is then_is in
                        let whole = ap length parts in
                        absurd (omega (arith, lower, whole))
                    by_passes (inr pass) = o.ended k (pass (kind_at k) h)

                answer : Answered keep (behind a f) stops s ts y
                answer = record {
                  before = o.before ++ p.before;
                  parts = o.parts ∙ ap (λ (k : List Lexeme). o.before ++ k) p.parts
                      ∙ sym (append_assoc o.before p.before y.rest);
                  ending = λ h. p.ending (o.ending h);
                  keeps = kept_trans keep s x.scopes y.scopes o.keeps p.keeps;
                  same = λ k h. rw (
                    append_assoc o.before p.before k,
                    o.same (p.before ++ k) (first_append p.before k y.rest h ∙ ap first_kind (sym p.parts)),
                  ) (p.same k h);
                  ended = λ k h. rw (append_assoc o.before p.before k, ended_by p.before k p.parts h) (p.ended k h);
                }

  -- where the second begins with what ends the first
  module _ {A B : Type 0} (a : Reader A) (f : A → Reader B) (middle stops : TokenKind → Bool) (s : HeldScopes)
      (ts : List Lexeme)
      (ready : (tree : A) (scopes : HeldScopes) → Gives keep a middle s tree scopes → (at : ℕ)
      → Ready keep (f tree) middle stops scopes at) where
    pub bind_good : Good keep a middle s ts
        → ((x : Found A) → a s ts ≡ done x → Good keep (f x.tree) stops x.scopes x.rest) →
        (((x : Found A) (y : Found B) → a s ts ≡ done x → f x.tree x.scopes x.rest ≡ done y
        → length y.rest < length x.rest) ⊎ ((kind : TokenKind) → stops kind ≡ true → middle kind ≡ true)) →
        Good keep (behind a f) stops s ts
    bind_good = bind_good_by a f middle stops (λ tree. middle) s ts (λ tree scopes b ended k h. ended k h) ready

  -- a turn: the first token says whether the loop ends, and if not, the turn is a reader that stops where the loop does
  abbrev pub GoodTurn : {S : Type 0} → Turn S → (TokenKind → Bool) → S → HeldScopes → List Lexeme → Type 0
  GoodTurn {S} turn stops a s ts =
      ((k : List Lexeme) → first_kind k ≡ first_kind ts → turn a s k ≡ None)
      ⊎ ((read : Reader S) × ((k : List Lexeme) → first_kind k ≡ first_kind ts → turn a s k ≡ Some (read s k))
      × Good keep read stops s ts)

  module _ {S : Type 0} (turn : Turn S) (shrinks : TurnShrinks turn) (stops : TokenKind → Bool)
      (none : (a : S) (s : HeldScopes) (k : List Lexeme) → stops (kind_at k) ≡ true → turn a s k ≡ None) where
    pub run_stops : (a : S) (s : HeldScopes) (k : List Lexeme) → stops (kind_at k) ≡ true
        → run turn a s k ≡ done (found a s k)
    run_stops a s k h = run_is turn shrinks a s k ∙ rw (none a s k h) refl

  module _ {S : Type 0} (turn : Turn S) (shrinks : TurnShrinks turn) (stops : TokenKind → Bool)
      (none : (a : S) (s : HeldScopes) (k : List Lexeme) → stops (kind_at k) ≡ true → turn a s k ≡ None)
      (step : (a : S) (s : HeldScopes) (ts : List Lexeme) → GoodTurn turn stops a s ts) where
    turns_good : (n : ℕ) (a : S) (s : HeldScopes) (ts : List Lexeme) → length ts < n → Good keep (run turn a) stops s ts
    unfolding and_then
    turns_good zero a s ts less = absurd (omega (arith, less))
    turns_good (suc n) a s ts less = by_turn (λ a s ts. turns_good n a s ts) (step a s ts)
      where
        by_turn : ((a : S) (s : HeldScopes) (ts : List Lexeme) → length ts < n → Good keep (run turn a) stops s ts)
            → GoodTurn turn stops a s ts → Good keep (run turn a) stops s ts
        by_turn again (inl off) =
            good_as (ends a) (run turn a) stops s ts (λ k h. run_is turn shrinks a s k ∙ rw (off k h) refl)
            (inr (λ k h. run_stops turn shrinks stops none a s k h)) (ends_good a stops s ts)
        by_turn again (inr g) =
            good_as (behind g.0 (run turn)) (run turn a) stops s ts
            (λ k h. run_is turn shrinks a s k ∙ rw (g.1 k h) refl) (inl takes)
            (bind_good g.0 (run turn) stops stops s ts (λ tree scopes gives at. record {
              more = [];
              tree = tree;
              scopes = scopes;
              keeps = kept_refl keep scopes;
              begins = λ k h. h;
              reads = λ k h. run_stops turn shrinks stops none tree scopes k h;
            }) g.2 (λ x is. let fewer : length x.rest < length ts = shrinks a s ts x (g.1 ts refl ∙ ap Some is) in
            again x.tree x.scopes x.rest (omega (arith, fewer, less))) (inr (λ kind h. h)))
          where
            takes : (x : Found S) → behind g.0 (run turn) s ts ≡ done x → length x.rest < length ts
            takes x e =
                let b = bind_ok e in
                let fewer : length b.0.rest < length ts = shrinks a s ts b.0 (g.1 ts refl ∙ ap Some b.1) in
                let rest : length x.rest ≤ length b.0.rest =
                run_falls turn shrinks b.0.tree b.0.scopes b.0.rest x b.2 in
                omega (arith, fewer, rest)

    pub run_good : (a : S) (s : HeldScopes) (ts : List Lexeme) → Good keep (run turn a) stops s ts
    run_good a s ts = turns_good (suc (length ts)) a s ts (omega arith)

  -- a second reader takes a token, or both stop alike
  abbrev pub Passes : {A B : Type 0} → (A → Reader B) → (TokenKind → Bool) → (TokenKind → Bool) → Type 0
  Passes {A} {B} f middle stops =
      ((a : A) (s : HeldScopes) (ts : List Lexeme) (y : Found B) → f a s ts ≡ done y → length y.rest < length ts)
      ⊎ ((kind : TokenKind) → stops kind ≡ true → middle kind ≡ true)

  pub passes_at : {A B : Type 0} (f : A → Reader B) (middle stops : TokenKind → Bool) (r : Read A)
      → Passes f middle stops →
      (((x : Found A) (y : Found B) → r ≡ done x → f x.tree x.scopes x.rest ≡ done y → length y.rest < length x.rest)
      ⊎ ((kind : TokenKind) → stops kind ≡ true → middle kind ≡ true))
  passes_at f middle stops r (inl less) = inl (λ x y is e. less x.tree x.scopes x.rest y e)
  passes_at f middle stops r (inr pass) = inr pass

  pub bind_law : {A B : Type 0} (a : Reader A) (f : A → Reader B) (front middle stops : TokenKind → Bool)
      → Law keep a front middle → ((x : A) → Law keep (f x) middle stops) → Passes f middle stops →
      Law keep (behind a f) front stops
  bind_law a f front middle stops la lf passes = record {
    good = λ s ts.
        bind_good a f middle stops s ts (λ tree scopes gives at. (lf tree).ready scopes at) (la.good s ts)
        (λ x is. (lf x.tree).good x.scopes x.rest) (passes_at f middle stops (a s ts) passes);
    ready = λ s at.
        ready_bind a f front middle stops s at (la.ready s at) (λ tree scopes gives at. (lf tree).ready scopes at);
  }

  -- behind a first token that is known
  pub take_behind : {B : Type 0} (f : ℕ → Reader B) (stops : TokenKind → Bool) → ((x : ℕ) → Law keep (f x) any stops)
      → (s : HeldScopes) (ts : List Lexeme) → is_end (kind_at ts) ≡ false → Good keep (behind take_one f) stops s ts
  take_behind f stops lf s ts known =
      bind_good take_one f any stops s ts (λ tree scopes gives at. (lf tree).ready scopes at) (take_good any s ts known)
      (λ x is. (lf x.tree).good x.scopes x.rest) (inr (λ kind h. refl))

  pub ends_law : {A : Type 0} (a : A) (front stops : TokenKind → Bool)
      → ((kind : TokenKind) → stops kind ≡ true → front kind ≡ true) → Law keep (ends a) front stops
  ends_law a front stops h =
      record { good = λ s ts. ends_good a stops s ts; ready = λ s at. ready_ends a front stops s at h }

  pub token_law : (test : TokenKind → Bool) (kind : TokenKind) (front : TokenKind → Bool)
      → ((kind : TokenKind) → test kind ≡ true → is_end kind ≡ false) → test kind ≡ true → front kind ≡ true
      → Law keep (token_at test) front any
  token_law test kind front no_end is h = record {
    good = λ s ts. token_good test any s ts no_end;
    ready = λ s at. ready_token test kind front any s at is h;
  }

  -- before fewer tokens
  pub good_before : {A : Type 0} (read : Reader A) (stops fewer : TokenKind → Bool) (s : HeldScopes) (ts : List Lexeme)
      → ((kind : TokenKind) → fewer kind ≡ true → stops kind ≡ true) → Good keep read stops s ts
      → Good keep read fewer s ts
  good_before {A} read stops fewer s ts h g = by_read (read s ts) g
    where
      open_before : (b : List Lexeme) → Opened keep read stops s b → Opened keep read fewer s b
      open_before [] o = tt
      open_before (t ∷ b) o = λ at. let c = o at in record {
        more = c.more;
        tree = c.tree;
        scopes = c.scopes;
        keeps = c.keeps;
        reads = λ k e. c.reads k (h (kind_at k) e);
      }

      by_read : (r : Read A) → Outcome keep read stops s ts r → Outcome keep read fewer s ts r
      by_read (Ok x) o = record {
        before = o.before;
        parts = o.parts;
        ending = o.ending;
        keeps = o.keeps;
        same = o.same;
        ended = λ k e. o.ended k (h (kind_at k) e);
      }
      by_read (Err e) o = record {
        before = o.before;
        rest = o.rest;
        parts = o.parts;
        place = o.place;
        ending = o.ending;
        same = o.same;
        opened = open_before o.before o.opened;
      }

  pub ready_before : {A : Type 0} (read : Reader A) (front wider stops fewer : TokenKind → Bool)
      (s : HeldScopes) (at : ℕ)
      → ((kind : TokenKind) → fewer kind ≡ true → stops kind ≡ true) →
      ((kind : TokenKind) → front kind ≡ true → wider kind ≡ true) → Ready keep read front stops s at
      → Ready keep read wider fewer s at
  ready_before read front wider stops fewer s at h w r = record {
    more = r.more;
    tree = r.tree;
    scopes = r.scopes;
    keeps = r.keeps;
    begins = λ k e. w (kind_at (numbered_from at r.more ++ k)) (r.begins k (h (kind_at k) e));
    reads = λ k e. r.reads k (h (kind_at k) e);
  }

  pub law_before : {A : Type 0} (read : Reader A) (front wider stops fewer : TokenKind → Bool)
      → ((kind : TokenKind) → fewer kind ≡ true → stops kind ≡ true) →
      ((kind : TokenKind) → front kind ≡ true → wider kind ≡ true) → Law keep read front stops
      → Law keep read wider fewer
  law_before read front wider stops fewer h w l = record {
    good = λ s ts. good_before read stops fewer s ts h (l.good s ts);
    ready = λ s at. ready_before read front wider stops fewer s at h w (l.ready s at);
  }

  -- a loop that goes on as long as its next token passes a test
  pub guarded_law : {S : Type 0} (test : TokenKind → Bool) (read : S → Reader S)
      → TurnShrinks (λ a s ts. if test (kind_at ts) then Some (read a s ts) else None)
      → (front stops : TokenKind → Bool) →
      ((kind : TokenKind) → stops kind ≡ true → front kind ≡ true)
      → ((kind : TokenKind) → stops kind ≡ true → test kind ≡ false) →
      ((a : S) (s : HeldScopes) (ts : List Lexeme) → test (kind_at ts) ≡ true → Good keep (read a) stops s ts) → (a : S)
      → Law keep (run (λ a s ts. if test (kind_at ts) then Some (read a s ts) else None) a) front stops
  guarded_law {S} test read shrinks front stops fronts off g a = record {
    good = run_good turn shrinks stops none step a;
    ready = λ s at. record {
      more = [];
      tree = a;
      scopes = s;
      keeps = kept_refl keep s;
      begins = λ k h. fronts (kind_at k) h;
      reads = λ k h. run_stops turn shrinks stops none a s k h;
    };
  }
    where
      turn : Turn S
      turn a s ts = if test (kind_at ts) then Some (read a s ts) else None

      none : (a : S) (s : HeldScopes) (k : List Lexeme) → stops (kind_at k) ≡ true → turn a s k ≡ None
      none a s k h = rw (off (kind_at k) h) refl

      step : (a : S) (s : HeldScopes) (ts : List Lexeme) → GoodTurn turn stops a s ts
      step a s ts = by_test (test (kind_at ts)) refl
        where
          by_test : (b : Bool) → test (kind_at ts) ≡ b → GoodTurn turn stops a s ts
          by_test true is = inr (read a, (λ k e. rw (kind_same k ts e, is) refl), g a s ts is)
          by_test false is = inl (λ k e. rw (kind_same k ts e, is) refl)

  -- A loop whose end depends on what was read: together with what stands behind it, it can be read from nothing from
  -- each state that keeps an invariant.
  module _ {S B : Type 0} (turn : Turn S) (shrinks : TurnShrinks turn) (finish : S → Reader B)
      (finish_falls : (a : S) (s : HeldScopes) (ts : List Lexeme) (y : Found B) → finish a s ts ≡ done y
      → length y.rest ≤ length ts)
      (P : S → HeldScopes → Type 0) (goes stops : TokenKind → Bool) (some_kind : TokenKind)
      (some_goes : goes some_kind ≡ true) (stop_goes : (kind : TokenKind) → stops kind ≡ true → goes kind ≡ true)
      (ready : (a : S) (s : HeldScopes) → P a s → (at : ℕ) → Ready keep (behind (run turn a) finish) goes stops s at)
      (step : (a : S) (s : HeldScopes) (ts : List Lexeme) → P a s →
      (((k : List Lexeme) → first_kind k ≡ first_kind ts ⊎ (stops (kind_at k) ≡ true) → turn a s k ≡ None)
      × Good keep (finish a) stops s ts)
      ⊎ ((read : Reader S) × ((k : List Lexeme) → first_kind k ≡ first_kind ts → turn a s k ≡ Some (read s k))
      × Good keep read goes s ts × ((us : List Lexeme) (x : Found S) → read s us ≡ done x → P x.tree x.scopes))) where
    loop_good : (n : ℕ) (a : S) (s : HeldScopes) (ts : List Lexeme) → length ts < n → P a s
        → Good keep (behind (run turn a) finish) stops s ts
    unfolding and_then
    loop_good zero a s ts less p = absurd (omega (arith, less))
    loop_good (suc n) a s ts less p = by_turn (λ a s ts less p. loop_good n a s ts less p) (step a s ts p)
      where
        by_turn : ((a : S) (s : HeldScopes) (ts : List Lexeme) → length ts < n → P a s
            → Good keep (behind (run turn a) finish) stops s ts) →
            (((k : List Lexeme) → first_kind k ≡ first_kind ts ⊎ (stops (kind_at k) ≡ true) → turn a s k ≡ None)
            × Good keep (finish a) stops s ts)
            ⊎ ((read : Reader S) × ((k : List Lexeme) → first_kind k ≡ first_kind ts → turn a s k ≡ Some (read s k))
            × Good keep read goes s ts × ((us : List Lexeme) (x : Found S) → read s us ≡ done x → P x.tree x.scopes)) →
            Good keep (behind (run turn a) finish) stops s ts
        by_turn again (inl off) =
            good_as (finish a) (behind (run turn a) finish) stops s ts
            (λ k h. rw (run_is turn shrinks a s k, off.0 k (inl h)) refl)
            (inr (λ k h. rw (run_is turn shrinks a s k, off.0 k (inr h)) refl)) off.1
        by_turn again (inr g) =
            good_as (behind g.0 (λ x. behind (run turn x) finish)) (behind (run turn a) finish) stops s ts
            (λ k h. rw (run_is turn shrinks a s k, g.1 k h)
            (and_then_twice (g.0 s k) (λ x. run turn x.tree x.scopes x.rest) (λ x. finish x.tree x.scopes x.rest)))
            (inl takes) (bind_good g.0 (λ x. behind (run turn x) finish) goes stops s ts
            (λ tree scopes gives at. ready tree scopes (kept_by tree scopes gives) at) g.2
            (λ x is. let fewer : length x.rest < length ts = shrinks a s ts x (g.1 ts refl ∙ ap Some is) in
            again x.tree x.scopes x.rest (omega (arith, fewer, less)) (g.3 ts x is)) (inr stop_goes))
          where
            kept_by : (tree : S) (scopes : HeldScopes) → Gives keep g.0 goes s tree scopes → P tree scopes
            kept_by tree scopes gives =
                let h = gives.reads (record { kind = some_kind; at = 0 } ∷ []) some_goes in
                g.3 h.0 (found tree scopes (record { kind = some_kind; at = 0 } ∷ [])) h.1

            takes : (x : Found B) → behind g.0 (λ x. behind (run turn x) finish) s ts ≡ done x
                → length x.rest < length ts
            takes x e =
                let b = bind_ok e in
                let c = bind_ok b.2 in
                let fewer : length b.0.rest < length ts = shrinks a s ts b.0 (g.1 ts refl ∙ ap Some b.1) in
                let rest : length c.0.rest ≤ length b.0.rest =
                run_falls turn shrinks b.0.tree b.0.scopes b.0.rest c.0 c.1 in
                let last : length x.rest ≤ length c.0.rest = finish_falls c.0.tree c.0.scopes c.0.rest x c.2 in
                omega (arith, fewer, rest, last)

    pub loop_law_good : (a : S) (s : HeldScopes) (ts : List Lexeme) → P a s
        → Good keep (behind (run turn a) finish) stops s ts
    loop_law_good a s ts p = loop_good (suc (length ts)) a s ts (omega arith) p

  -- What a reader does behind a first token that it does not refuse. With `if_good` this is a choice by two tokens.
  pub tail_good : {A : Type 0} (read : Reader A) (stops : TokenKind → Bool) (s : HeldScopes) (t : Lexeme)
      (ts k0 : List Lexeme) (y : Found A)
      → read s (t ∷ k0) ≡ done y →
      ((x : Found A) → read s (t ∷ ts) ≡ done x → length x.rest < suc (length ts)) → Good keep read stops s (t ∷ ts)
      → Good keep (λ s k. read s (t ∷ k)) stops s ts
  tail_good {A} read stops s t ts k0 y goes takes g = by_read (read s (t ∷ ts)) refl g
    where
      end_behind : has_end ts ≡ true → has_end (t ∷ ts) ≡ true
      end_behind h = by_end (is_end t.kind)
        where
          by_end : (b : Bool) → (if b then true else has_end ts) ≡ true
          by_end true = refl
          by_end false = h

      open_behind : (u : Lexeme) (b : List Lexeme) → u ≡ t → Opened keep read stops s (u ∷ b)
          → Opened keep (λ s k. read s (t ∷ k)) stops s b
      open_behind u [] is o = tt
      open_behind u (v ∷ b) is o = λ at.
          let c = o at in
          record {
            more = c.more;
            tree = c.tree;
            scopes = c.scopes;
            keeps = c.keeps;
            reads = λ k h. ap (λ (u : Lexeme). read s (u ∷ ((v ∷ b) ++ (numbered_from at c.more ++ k)))) (sym is)
                ∙ c.reads k h;
          }

      by_read : (r : Read A) → read s (t ∷ ts) ≡ r → Outcome keep read stops s (t ∷ ts) r
          → Outcome keep (λ s k. read s (t ∷ k)) stops s ts r
      by_read (Ok x) is o = by_before o.before o.parts o.same o.ended
        where
          by_before : (b : List Lexeme) → t ∷ ts ≡ b ++ x.rest
              → ((k : List Lexeme) → first_kind k ≡ first_kind x.rest
              → read s (b ++ k) ≡ done (found x.tree x.scopes k)) →
              ((k : List Lexeme) → stops (kind_at k) ≡ true → read s (b ++ k) ≡ done (found x.tree x.scopes k))
              → Answered keep (λ s k. read s (t ∷ k)) stops s ts x
          by_before [] parts same ended =
              let less = takes x is in
              let whole = ap length parts in
              absurd (omega (arith, less, whole))
          by_before (u ∷ b) parts same ended =
              let first = head_is t u ts (b ++ x.rest) parts in
              record {
                before = b;
                parts = tail_is t u ts (b ++ x.rest) parts;
                ending = λ h. o.ending (end_behind h);
                keeps = o.keeps;
                same = λ k h. ap (λ (u : Lexeme). read s (u ∷ (b ++ k))) first ∙ same k h;
                ended = λ k h. ap (λ (u : Lexeme). read s (u ∷ (b ++ k))) first ∙ ended k h;
              }
      by_read (Err e) is o = by_before o.before o.parts o.same o.opened
        where
          by_before : (b : List Lexeme) → t ∷ ts ≡ b ++ o.rest
              → ((k : List Lexeme) → first_kind k ≡ first_kind o.rest → read s (b ++ k) ≡ Err (e.0, number_at k))
              → Opened keep read stops s b →
              Refused keep (λ s k. read s (t ∷ k)) stops s ts e
          by_before [] parts same opened =
              let now : read s (t ∷ k0) ≡ Err (e.0, t.at) = same (t ∷ k0) (ap first_kind parts) in
              absurd cc
          by_before (u ∷ b) parts same opened =
              let first = head_is t u ts (b ++ o.rest) parts in
              record {
                before = b;
                rest = o.rest;
                parts = tail_is t u ts (b ++ o.rest) parts;
                place = o.place;
                ending = λ h. o.ending (end_behind h);
                same = λ k h. ap (λ (u : Lexeme). read s (u ∷ (b ++ k))) first ∙ same k h;
                opened = open_behind u b (sym first) opened;
              }

-- What is kept inside an expression is kept by a declaration too.
module _ (keep : Bool) where
  pub good_weaker : {A : Type 0} (read : Reader A) (stops : TokenKind → Bool) (s : HeldScopes) (ts : List Lexeme)
      → Good true read stops s ts → Good keep read stops s ts
  good_weaker {A} read stops s ts g = by_read (read s ts) g
    where
      open_weaker : (b : List Lexeme) → Opened true read stops s b → Opened keep read stops s b
      open_weaker [] o = tt
      open_weaker (t ∷ b) o = λ at. let c = o at in record {
        more = c.more;
        tree = c.tree;
        scopes = c.scopes;
        keeps = kept_weaker keep s c.scopes c.keeps;
        reads = c.reads;
      }

      by_read : (r : Read A) → Outcome true read stops s ts r → Outcome keep read stops s ts r
      by_read (Ok x) o = record {
        before = o.before;
        parts = o.parts;
        ending = o.ending;
        keeps = kept_weaker keep s x.scopes o.keeps;
        same = o.same;
        ended = o.ended;
      }
      by_read (Err e) o = record {
        before = o.before;
        rest = o.rest;
        parts = o.parts;
        place = o.place;
        ending = o.ending;
        same = o.same;
        opened = open_weaker o.before o.opened;
      }

  pub ready_weaker : {A : Type 0} (read : Reader A) (front stops : TokenKind → Bool) (s : HeldScopes) (at : ℕ)
      → Ready true read front stops s at → Ready keep read front stops s at
  ready_weaker read front stops s at r = record {
    more = r.more;
    tree = r.tree;
    scopes = r.scopes;
    keeps = kept_weaker keep s r.scopes r.keeps;
    begins = r.begins;
    reads = r.reads;
  }

  pub law_weaker : {A : Type 0} (read : Reader A) (front stops : TokenKind → Bool) → Law true read front stops
      → Law keep read front stops
  law_weaker read front stops l = record {
    good = λ s ts. good_weaker read stops s ts (l.good s ts);
    ready = λ s at. ready_weaker read front stops s at (l.ready s at);
  }

  -- A reader that begins with other scopes.
  pub good_from : {A : Type 0} (read : Reader A) (change : HeldScopes → HeldScopes) (stops : TokenKind → Bool)
      (s : HeldScopes) (ts : List Lexeme)
      → Kept keep s (change s) → Good keep read stops (change s) ts →
      Good keep (λ s ts. read (change s) ts) stops s ts
  good_from {A} read change stops s ts first g = by_read (read (change s) ts) g
    where
      open_from : (b : List Lexeme) → Opened keep read stops (change s) b
          → Opened keep (λ s ts. read (change s) ts) stops s b
      open_from [] o = tt
      open_from (t ∷ b) o = λ at. let c = o at in record {
        more = c.more;
        tree = c.tree;
        scopes = c.scopes;
        keeps = kept_trans keep s (change s) c.scopes first c.keeps;
        reads = c.reads;
      }

      by_read : (r : Read A) → Outcome keep read stops (change s) ts r
          → Outcome keep (λ s ts. read (change s) ts) stops s ts r
      by_read (Ok x) o = record {
        before = o.before;
        parts = o.parts;
        ending = o.ending;
        keeps = kept_trans keep s (change s) x.scopes first o.keeps;
        same = o.same;
        ended = o.ended;
      }
      by_read (Err e) o = record {
        before = o.before;
        rest = o.rest;
        parts = o.parts;
        place = o.place;
        ending = o.ending;
        same = o.same;
        opened = open_from o.before o.opened;
      }

  pub ready_from : {A : Type 0} (read : Reader A) (change : HeldScopes → HeldScopes) (front stops : TokenKind → Bool)
      (s : HeldScopes) (at : ℕ)
      → Kept keep s (change s) → Ready keep read front stops (change s) at →
      Ready keep (λ s ts. read (change s) ts) front stops s at
  ready_from read change front stops s at first r = record {
    more = r.more;
    tree = r.tree;
    scopes = r.scopes;
    keeps = kept_trans keep s (change s) r.scopes first r.keeps;
    begins = r.begins;
    reads = r.reads;
  }

-- A reader in a scope of its own, which is left behind it.
abbrev pub in_scope : {A B : Type 0} → (HeldScopes → HeldScope) → Reader A → (A → HeldScopes → B) → Reader B
in_scope scope read make s ts =
    and_then (read (scope s ∷ s) ts) (λ x. ends (make x.tree x.scopes) (leave x.scopes) x.rest)

pub own_good : {A B : Type 0} (scope : HeldScopes → HeldScope) (read : Reader A) (make : A → HeldScopes → B)
    (stops : TokenKind → Bool) (s : HeldScopes) (ts : List Lexeme) →
    Good false read stops (scope s ∷ s) ts → Good true (in_scope scope read make) stops s ts
unfolding and_then
own_good {A} {B} scope read make stops s ts g = by_read (read (scope s ∷ s) ts) refl g
  where
    open_own : (b : List Lexeme) → Opened false read stops (scope s ∷ s) b
        → Opened true (in_scope scope read make) stops s b
    open_own [] o = tt
    open_own (t ∷ b) o = λ at.
        let c = o at in
        record {
          more = c.more;
          tree = make c.tree c.scopes;
          scopes = leave c.scopes;
          keeps = own_kept (scope s) s c.scopes c.keeps;
          reads = λ k h. rw (c.reads k h) refl;
        }

    by_read : (r : Read A) → read (scope s ∷ s) ts ≡ r → Outcome false read stops (scope s ∷ s) ts r
        → Good true (in_scope scope read make) stops s ts
    by_read (Ok x) is o = subst (Outcome true (in_scope scope read make) stops s ts) (sym now) answer
      where
        now : in_scope scope read make s ts ≡ done (found (make x.tree x.scopes) (leave x.scopes) x.rest)
        now = rw is refl

        answer : Answered true (in_scope scope read make) stops s ts
            (found (make x.tree x.scopes) (leave x.scopes) x.rest)
        answer = record {
          before = o.before;
          parts = o.parts;
          ending = o.ending;
          keeps = own_kept (scope s) s x.scopes o.keeps;
          same = λ k h. rw (o.same k h) refl;
          ended = λ k h. rw (o.ended k h) refl;
        }
    by_read (Err e) is o = subst (Outcome true (in_scope scope read make) stops s ts) (sym now) answer
      where
        now : in_scope scope read make s ts ≡ Err e
        now = rw is refl

        answer : Refused true (in_scope scope read make) stops s ts e
        answer = record {
          before = o.before;
          rest = o.rest;
          parts = o.parts;
          place = o.place;
          ending = o.ending;
          same = λ k h. rw (o.same k h) refl;
          opened = open_own o.before o.opened;
        }

pub own_ready : {A B : Type 0} (scope : HeldScopes → HeldScope) (read : Reader A) (make : A → HeldScopes → B)
    (front stops : TokenKind → Bool) (s : HeldScopes) (at : ℕ) →
    Ready false read front stops (scope s ∷ s) at → Ready true (in_scope scope read make) front stops s at
unfolding and_then
own_ready scope read make front stops s at r = record {
  more = r.more;
  tree = make r.tree r.scopes;
  scopes = leave r.scopes;
  keeps = own_kept (scope s) s r.scopes r.keeps;
  begins = r.begins;
  reads = λ k h. rw (r.reads k h) refl;
}
