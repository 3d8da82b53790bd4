-- Steps that several families take: a part behind one that is only known to be good, a choice whose sides take tokens.
use Rattle.std.proofs.Common.{◌≡◌, ℕ, suc, ◌+◌, ◌<◌, ◌≤◌, Bool, true, false, if◌then◌else◌, List, [], ◌∷◌, ◌++◌, length, inl, Option, Some, None, Ok, Err, refl, sym, ◌∙◌, ap, subst, arith, append_assoc}
use Rattle.c_words.specs.declared.kinds.TokenKind.{TokenKind}
use Rattle.c_tree.specs.declared.lexeme.Lexeme.{Lexeme}
use Rattle.c_units.specs.HeldScopes.{HeldScopes}
use Rattle.c_reading.specs.Reading.{Found, Reader, ends, fits, kind_at, take_one, token_at, run, repeated, repeated_turn, and_then}
use Rattle.c_reading.specs.Tokens.{is_end}
use Rattle.c_reading.proofs.Binding.{found, done, ok_is, bind_ok, fits_ok, take_falls, token_falls}
use Rattle.c_reading.proofs.Loops.{after, run_is}
use Rattle.c_reading.proofs.Forms.{Falls, Shrinks}
use Rattle.c_reading.proofs.Rows.{row_turn_shrinks}
use Rattle.c_words.specs.declared.kinds.TokenKind.TheVariants as kinds
use Rattle.c_syntax.specs.declared.parts.Identifier.{Identifier}
use Rattle.std.specs.Prelude.{nat_le}
use Rattle.c_reading.specs.declared.kinds.FaultKind.TheVariants.{TooDeep}
use Rattle.c_reading.specs.Reading.{Read, refuses}
use Rattle.c_reading.specs.Tokens.{spelled_name, identifier_of, tag_at}
use Rattle.reading_steps.specs.Keeping.{Kept}
use Rattle.reading_steps.specs.Steps.{first_kind, any, Outcome, Good, Ready, Law}
use Rattle.reading_steps.specs.Stops.{is_name_kind}
use Rattle.c_units.specs.Units.{numbered_from}
use Rattle.reading_steps.proofs.Keeping.{kept_trans}
use Rattle.reading_steps.proofs.Steps.{numbered_append, behind, kind_same, Passes, passes_at, good_as, bind_good, fits_good, take_behind}
use Rattle.token_places.proofs.Single.{name_end, tag_none}

-- a choice whose test is known
pub then_is : {A : Type 0} {x z : A} (b : Bool) (y : A) → b ≡ true → x ≡ z → (if b then x else y) ≡ z
then_is true y is e = e
then_is false y is e = absurd cc

pub else_is : {A : Type 0} {y z : A} (b : Bool) (x : A) → b ≡ false → y ≡ z → (if b then x else y) ≡ z
else_is true x is e = absurd cc
else_is false x is e = e

-- where there is no room the first token is refused
pub fits_not : {A : Type 0} (least room : ℕ) (ts : List Lexeme) (read : Read A) → nat_le least room ≡ false
    → fits least room ts read ≡ refuses TooDeep ts
unfolding fits
fits_not least room ts read h = rw h refl

pub left_is : {A : Type 0} {y x : Found A} → done y ≡ done x → length y.rest ≡ length x.rest
left_is {A} e = ap (λ (x : Found A). length x.rest) (ok_is e)

-- a reader of one token that passes a test, which makes something of it, takes a token
pub token_then_shrinks : {B : Type 0} (test : TokenKind → Bool) (make : ℕ → B)
    → Shrinks (behind (token_at test) (λ token. ends (make token)))
token_then_shrinks test make s ts y e =
    let a = bind_ok e in
    omega (arith, token_falls test _ _ _ a.1, left_is a.2)

-- a reader of any one token, with one behind it that adds none, takes a token
pub take_shrinks : {B : Type 0} (f : ℕ → Reader B) → ((x : ℕ) → Falls (f x)) → Shrinks (behind take_one f)
take_shrinks f falls s ts x e =
    let a = bind_ok e in
    omega (arith, take_falls s ts a.0 a.1, falls a.0.tree a.0.scopes a.0.rest x a.2)

-- an item of a row was taken, so there was room for it
pub repeated_room : {T : Type 0} (begins : TokenKind → Bool) (least room : ℕ) (read : Reader T) → Shrinks read
    → (s : HeldScopes) (ts : List Lexeme) (x : Found (List T)) →
    repeated begins (λ s ts. fits least room ts (read s ts)) s ts ≡ done x → length x.rest < length ts → least ≤ room
unfolding repeated
repeated_room {T} begins least room read shrinks s ts x e less =
    by_test (begins (kind_at ts))
    (sym (run_is (repeated_turn begins item) (row_turn_shrinks begins item item_shrinks) [] s ts) ∙ e)
  where
    item : Reader T
    item s ts = fits least room ts (read s ts)

    item_shrinks : Shrinks item
    item_shrinks s ts x e = shrinks s ts x (fits_ok least room ts e).1

    by_test : (b : Bool)
        → after (if b then Some (and_then (item s ts) (λ x. ends ([] ++ x.tree ∷ []) x.scopes x.rest)) else None)
        [] s ts (run (repeated_turn begins item)) ≡ done x
        → least ≤ room
    by_test true e = let a = bind_ok e in let b = bind_ok a.1 in (fits_ok least room ts b.1).0
    by_test false e = let same : length ts ≡ length x.rest = left_is e in absurd (omega (arith, same, less))

module _ (keep : Bool) where
  -- a part behind one that is good
  pub behind_good : {A B : Type 0} (a : Reader A) (f : A → Reader B) (middle stops : TokenKind → Bool) (s : HeldScopes)
      (ts : List Lexeme)
      → Good keep a middle s ts → ((x : A) → Law keep (f x) middle stops) →
      Passes keep f middle stops → Good keep (behind a f) stops s ts
  behind_good a f middle stops s ts g lf passes =
      bind_good keep a f middle stops s ts (λ tree scopes gives at. (lf tree).ready scopes at) g
      (λ x is. (lf x.tree).good x.scopes x.rest) (passes_at keep f middle stops (a s ts) passes)

  -- nothing stands behind a part that never answers
  pub never_behind : {A B : Type 0} (a : Reader A) (f : A → Reader B) (middle stops : TokenKind → Bool)
      (some_kind : TokenKind)
      → middle some_kind ≡ true → (s : HeldScopes) (ts : List Lexeme) →
      ((k : List Lexeme) (x : Found A) → a s k ≡ done x → ⊥) → Good keep a middle s ts
      → Good keep (behind a f) stops s ts
  never_behind a f middle stops some_kind goes s ts never g =
      bind_good keep a f middle stops s ts
      (λ tree scopes gives at. let h = gives.reads (record { kind = some_kind; at = 0 } ∷ []) goes in
      absurd (never h.0 (found tree scopes (record { kind = some_kind; at = 0 } ∷ [])) h.1)) g
      (λ x is. absurd (never ts x is)) (inl (λ x y is e. absurd (never ts x is)))

  -- a node that begins with a token that is known
  pub node_good : {B : Type 0} (least room : ℕ) (f : ℕ → Reader B) (stops : TokenKind → Bool)
      → (least ≤ room → (x : ℕ) → Law keep (f x) any stops) → (s : HeldScopes) (ts : List Lexeme) →
      is_end (kind_at ts) ≡ false → Good keep (λ s ts. fits least room ts (behind take_one f s ts)) stops s ts
  node_good least room f stops lf s ts known =
      fits_good keep least room (behind take_one f) stops s ts (λ fit. take_behind keep f stops (lf fit) s ts known)

  -- from nothing, where more is known of the first part
  pub ready_behind : {A B : Type 0} (a : Reader A) (f : A → Reader B) (front middle stops : TokenKind → Bool)
      (s : HeldScopes) (at : ℕ) (r : Ready keep a front middle s at) →
      Ready keep (f r.tree) middle stops r.scopes (at + length r.more) → Ready keep (behind a f) front stops s at
  unfolding and_then
  ready_behind a f front middle stops s at r q = record {
    more = r.more ++ q.more;
    tree = q.tree;
    scopes = q.scopes;
    keeps = kept_trans keep s r.scopes q.scopes r.keeps q.keeps;
    begins = λ k h. rw (
      numbered_append at r.more q.more,
      append_assoc (numbered_from at r.more) (numbered_from (at + length r.more) q.more) k,
    ) (r.begins (numbered_from (at + length r.more) q.more ++ k) (q.begins k h));
    reads = λ k h.
        rw (
          numbered_append at r.more q.more,
          append_assoc (numbered_from at r.more) (numbered_from (at + length r.more) q.more) k,
          r.reads (numbered_from (at + length r.more) q.more ++ k) (q.begins k h),
        ) (q.reads k h);
  }

  -- what an answer keeps of the scopes
  pub answer_keeps : {A : Type 0} (read : Reader A) (stops : TokenKind → Bool) (s : HeldScopes)
      (ts : List Lexeme) (x : Found A)
      → Good keep read stops s ts → read s ts ≡ done x → Kept keep s x.scopes
  answer_keeps {A} read stops s ts x g is = by_read (read s ts) g is
    where
      by_read : (r : Read A) → Outcome keep read stops s ts r → r ≡ done x → Kept keep s x.scopes
      by_read (Ok y) o is = subst (λ (y : Found A). Kept keep s y.scopes) (ok_is is) o.keeps
      by_read (Err e) o is = absurd cc

-- A tag or none, and what stands behind it: where no tag stands, something is taken there.
module _ (keep : Bool) {B : Type 0} (part : Option Identifier → Reader B) (stops : TokenKind → Bool)
    (falls : (tag : Option Identifier) → Falls (part tag)) (takes : Shrinks (part None)) where
  pub tagged_shrinks : Shrinks (behind tag_at part)
  tagged_shrinks s ts x e = by_tokens ts e
    where
      by_name : (t : Lexeme) (us : List Lexeme) (o : Option ℕ) → spelled_name t.kind ≡ o
          → behind tag_at part s (t ∷ us) ≡ done x → length x.rest < length (t ∷ us)
      by_name t us None is e = let a = bind_ok e in
          let same : done (found None s (t ∷ us)) ≡ done a.0 = sym (tag_none keep s (t ∷ us) is) ∙ a.1 in
          subst (λ (y : Found (Option Identifier)). part y.tree y.scopes y.rest ≡ done x
          → length x.rest < length (t ∷ us)) (ok_is same) (λ e. takes s (t ∷ us) x e) a.2
      by_name t us (Some name) is e = let a = bind_ok e in
          let now : tag_at s (t ∷ us) ≡ done (found (Some (identifier_of t.at name)) s us) = rw is refl in
          let same : done (found (Some (identifier_of t.at name)) s us) ≡ done a.0 = sym now ∙ a.1 in
          let less = ap (λ (y : Found (Option Identifier)). length y.rest) (ok_is same) in
          omega (arith, less, falls a.0.tree a.0.scopes a.0.rest x a.2)

      by_tokens : (ts : List Lexeme) → behind tag_at part s ts ≡ done x → length x.rest < length ts
      by_tokens [] e = let a = bind_ok e in
          let same : done (found None s []) ≡ done a.0 = a.1 in
          subst (λ (y : Found (Option Identifier)). part y.tree y.scopes y.rest ≡ done x
          → length x.rest < 0) (ok_is same) (λ e. takes s [] x e) a.2
      by_tokens (t ∷ us) e = by_name t us (spelled_name t.kind) refl e

  module _ (good : (tag : Option Identifier) (s : HeldScopes) (ts : List Lexeme) → Good keep (part tag) stops s ts)
      (ready : (tag : Identifier) (s : HeldScopes) (at : ℕ) → Ready keep (part (Some tag)) any stops s at) where
    pub tagged_good : (s : HeldScopes) (ts : List Lexeme) → Good keep (behind tag_at part) stops s ts
    unfolding and_then
    tagged_good s ts = by_tokens ts (spelled_name (kind_at ts)) refl
      where
        none_is : (ts : List Lexeme) → spelled_name (kind_at ts) ≡ None → (k : List Lexeme)
            → first_kind k ≡ first_kind ts → behind tag_at part s k ≡ part None s k
        none_is ts is k e = rw (tag_none keep s k (ap spelled_name (kind_same k ts e) ∙ is)) refl

        by_tokens : (ts : List Lexeme) (o : Option ℕ) → spelled_name (kind_at ts) ≡ o
            → Good keep (behind tag_at part) stops s ts
        by_tokens ts None is =
            good_as keep (part None) (behind tag_at part) stops s ts (none_is ts is) (inl (λ x e. takes s ts x e))
            (good None s ts)
        by_tokens [] (Some name) is = absurd cc
        by_tokens (t ∷ ts) (Some name) is =
            good_as keep (behind take_one named) (behind tag_at part) stops s (t ∷ ts) same
            (inl (λ x e. take_shrinks named (λ token. falls (Some (identifier_of token name))) s (t ∷ ts) x e))
            (take_behind keep named stops (λ token. record {
              good = λ s ts. good (Some (identifier_of token name)) s ts;
              ready = λ s at. ready (identifier_of token name) s at;
            }) s (t ∷ ts) (name_end t.kind name is))
          where
            named : ℕ → Reader B
            named token = part (Some (identifier_of token name))

            same : (k : List Lexeme) → first_kind k ≡ Some t.kind → behind tag_at part s k ≡ behind take_one named s k
            same [] e = absurd cc
            same (u ∷ us) e =
                let is2 : spelled_name u.kind ≡ Some name =
                (let kinds_same : u.kind ≡ t.kind = cc in ap spelled_name kinds_same ∙ is) in
                rw is2 refl

    -- a name is a tag
    pub tagged_ready : (s : HeldScopes) (at : ℕ) → Ready keep (behind tag_at part) is_name_kind stops s at
    unfolding and_then
    tagged_ready s at =
        let r = ready (identifier_of at 0) s (suc at) in
        record {
          more = kinds.Name 0 ∷ r.more;
          tree = r.tree;
          scopes = r.scopes;
          keeps = r.keeps;
          begins = λ k h. refl;
          reads = λ k h. r.reads k h;
        }

    pub tagged_law : Law keep (behind tag_at part) is_name_kind stops
    tagged_law = record { good = tagged_good; ready = tagged_ready }

-- tokens that were put before a token of another kind
pub put_before : (front : TokenKind → Bool) (at : ℕ) (more : List TokenKind) (t : Lexeme) → front t.kind ≡ false
    → front (kind_at (numbered_from at more ++ t ∷ [])) ≡ true
    → length (t ∷ []) < length (numbered_from at more ++ t ∷ [])
put_before front at [] t h is = absurd cc
put_before front at (kind ∷ more) t h is = let some = longer (suc at) more in omega (arith, some)
  where
    longer : (at : ℕ) (more : List TokenKind) → 1 ≤ length (numbered_from at more ++ t ∷ [])
    longer at [] = omega arith
    longer at (kind ∷ more) = let some = longer (suc at) more in omega (arith, some)

-- Lists of tokens, of which one is behind another.
length_behind : (b k : List Lexeme) → length (b ++ k) ≡ length b + length k
length_behind [] k = omega arith
length_behind (t ∷ b) k = let same = length_behind b k in omega (arith, same)

pub none_before : (b k : List Lexeme) → b ++ k ≡ k → b ≡ []
none_before [] k h = refl
none_before (t ∷ b) k h = let one = ap length h in let two = length_behind b k in absurd (omega (arith, one, two))

-- lists of tokens that are equal before the same tail are equal
pub append_same : (b c k : List Lexeme) → b ++ k ≡ c ++ k → b ≡ c
append_same [] c k h = sym (none_before c k (sym h))
append_same (t ∷ b) [] k h = none_before (t ∷ b) k h
append_same (t ∷ b) (u ∷ c) k h =
    let first : t ≡ u = cc in
    let later : b ++ k ≡ c ++ k = cc in
    let same = append_same b c k later in
    rw (first, same) refl

-- where fewer tokens are left than were given before a tail, the part left before that tail is shorter than the part
-- given
pub fewer_tokens : (b c p rest k : List Lexeme) (m : ℕ) → b ≡ c → rest ≡ p ++ k → length rest < length (c ++ k)
    → length b < suc m → length p < m
fewer_tokens b c p rest k m same parts fewer less =
    let one = ap length same in
    let two = ap length parts in
    let three = length_behind p k in
    let four = length_behind c k in
    omega (arith, one, two, three, four, fewer, less)
