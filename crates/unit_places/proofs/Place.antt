-- Where the reader of units of any height refuses a token, units that it reads begin with those before it, and none
-- with those up to it.
use Rattle.std.proofs.Common.{◌≡◌, ℕ, zero, suc, ◌+◌, ◌<◌, Bool, true, false, if◌then◌else◌, List, [], ◌∷◌, ◌++◌, length, take, slice_get, Some, Ok, Err, refl, sym, ◌∙◌, ap, subst, arith, append_assoc}
use Rattle.std.specs.Prelude.{◌-◌}
use Rattle.c_words.specs.declared.kinds.TokenKind.{TokenKind}
use Rattle.c_words.specs.declared.kinds.TokenKind.TheVariants as kinds
use Rattle.c_tree.specs.declared.lexeme.Lexeme.{Lexeme}
use Rattle.c_tree.specs.Unit.{Item}
use Rattle.c_units.specs.HeldScopes.{HeldScopes, file_scope}
use Rattle.c_units.specs.Units.{numbered_from, numbered}
use Rattle.c_reading.specs.declared.kinds.FaultKind.{FaultKind}
use Rattle.c_reading.specs.declared.kinds.FaultKind.TheVariants.{Unexpected}
use Rattle.c_reading.specs.Reading.{Refusal, Found, Read, IsNumbered, and_then, number_at, kind_at, token_at}
use Rattle.c_reading.specs.Tokens.{is_end}
use Rattle.c_reading.specs.Items.{items_with}
use Rattle.c_reading.specs.Knot.{knot, alone}
use Rattle.c_reading.proofs.Binding.{found, done}
use Rattle.reading_steps.specs.Steps.{first_kind, has_end, any, Answered, Refused, Opened, Outcome, Law}
use Rattle.reading_steps.proofs.Steps.{numbered_append}
use Rattle.room_laws.specs.Rooms.{unit_of}
use Rattle.unit_places.specs.Laws.{IsEnded}

-- Numbered tokens.

-- a numbered token has the number of the first and its position
numbered_at : (at : ℕ) (tokens : List TokenKind) (n : ℕ) (t : Lexeme) → slice_get (numbered_from at tokens) n ≡ Some t
    → t.at ≡ at + n
numbered_at at [] n t e = absurd cc
numbered_at at (kind ∷ tokens) zero t e =
    let is : record { kind = kind; at = at } ≡ t = cc in
    ap (λ (t : Lexeme). t.at) (sym is) ∙ omega arith
numbered_at at (kind ∷ tokens) (suc n) t e = numbered_at (suc at) tokens n t e ∙ omega arith

pub are_numbered : (tokens : List TokenKind) → IsNumbered (numbered tokens)
are_numbered tokens n t e = numbered_at 0 tokens n t e ∙ omega arith

-- numbered tokens, cut before one of them
record Cut (n : ℕ) (tokens : List TokenKind) (b : List Lexeme) (t : Lexeme) : Type 0 where
  there : t.at ≡ n + length b
  less : length b < length tokens
  front : (more : List TokenKind)
      → numbered_from n (take (length b) tokens ++ more) ≡ b ++ numbered_from (n + length b) more
  next : (more : List TokenKind)
      → (k : List Lexeme) × (numbered_from n (take (suc (length b)) tokens ++ more) ≡ b ++ k)
      × (first_kind k ≡ Some t.kind)

head_is : (x t : Lexeme) (xs r : List Lexeme) → x ∷ xs ≡ t ∷ r → x ≡ t
head_is x t xs r e = cc

tail_is : (x t : Lexeme) (xs r : List Lexeme) → x ∷ xs ≡ t ∷ r → xs ≡ r
tail_is x t xs r e = cc

-- numbered tokens are cut before one of them: those before it and its kind do not depend on what follows
cut : (n : ℕ) (tokens : List TokenKind) (b : List Lexeme) (t : Lexeme) (r : List Lexeme)
    → numbered_from n tokens ≡ b ++ (t ∷ r) → Cut n tokens b t
cut n [] [] t r e = absurd cc
cut n [] (u ∷ b) t r e = absurd cc
cut n (kind ∷ tokens) [] t r e =
    let is = head_is (record { kind = kind; at = n }) t (numbered_from (suc n) tokens) r e in
    record {
      there = sym (ap (λ (t : Lexeme). t.at) is) ∙ omega arith;
      less = omega arith;
      front = λ more. ap (λ (m : ℕ). numbered_from m more) (omega arith);
      next = λ more.
          (record { kind = kind; at = n } ∷ numbered_from (suc n) more, refl, ap (λ (t : Lexeme). Some t.kind) is);
    }
cut n (kind ∷ tokens) (u ∷ b) t r e =
    let is = head_is (record { kind = kind; at = n }) u (numbered_from (suc n) tokens) (b ++ (t ∷ r)) e in
    let c = cut (suc n) tokens b t r
    (tail_is (record { kind = kind; at = n }) u (numbered_from (suc n) tokens) (b ++ (t ∷ r)) e) in
    record {
      there = c.there ∙ omega arith;
      less = let l = c.less in omega (arith, l);
      front = λ more.
          ap (λ (k : List Lexeme). record { kind = kind; at = n } ∷ k)
          (c.front more ∙ ap (λ (m : ℕ). b ++ numbered_from m more) (omega arith))
          ∙ ap (λ (u : Lexeme). u ∷ (b ++ numbered_from (n + length (u ∷ b)) more)) is;
      next = λ more. let d = c.next more in (
        d.0,
        ap (λ (k : List Lexeme). record { kind = kind; at = n } ∷ k) d.1 ∙ ap (λ (u : Lexeme). u ∷ (b ++ d.0)) is,
        d.2,
      );
    }

-- What a refusal of the items, or of what stands behind them, is.

abbrev refused : Refusal → Read (List Item)
refused d = Err d

same_code : (a b : Refusal) → refused a ≡ refused b → a.0 ≡ b.0
same_code a b e = cc

code_is : (a b : Refusal) (r : Read (List Item)) → r ≡ Err a → r ≡ Err b → a.0 ≡ b.0
code_is a b r e d = cc

same_place : (a b : Refusal) (r : Read (List Item)) → r ≡ Err a → r ≡ Err b → b.1 ≡ a.1
same_place a b r e d = cc

-- tokens with the end behind them hold an end, from whatever number on
has_end_last : (n : ℕ) (body : List TokenKind) → has_end (numbered_from n (body ++ kinds.End ∷ [])) ≡ true
has_end_last n [] = refl
has_end_last n (kind ∷ body) = by_end (is_end kind) (has_end_last (suc n) body)
  where
    by_end : (b : Bool) → has_end (numbered_from (suc n) (body ++ kinds.End ∷ [])) ≡ true
        → (if b then true else has_end (numbered_from (suc n) (body ++ kinds.End ∷ []))) ≡ true
    by_end true h = refl
    by_end false h = h

-- Units begin with the tokens before this one, and whatever stands behind those up to it, the same is refused.
pub record Placed (wide : Bool) (room : ℕ) (tokens : List TokenKind) (fault : FaultKind) (at : ℕ) : Type 0 where
  pub there : at < length tokens
  pub begun : (more : List TokenKind) × (y : Found (List Item))
      × (unit_of room wide (numbered (take at tokens ++ more)) ≡ done y)
  pub alike : (more : List TokenKind)
      → (n : ℕ) × (unit_of room wide (numbered (take (at + 1) tokens ++ more)) ≡ Err (fault, n))

-- Over the law of the items of a unit.
module _ (wide : Bool) (room : ℕ) (items_law : Law false (items_with (knot room) (room - 1)) any is_end) where
  -- The tokens before this one are begun by a unit, and with one of its kind behind them none is read.
  first_bad : (tokens : List TokenKind) (fault : FaultKind) (at : ℕ) (b : List Lexeme) (t : Lexeme) (r : List Lexeme)
      → numbered tokens ≡ b ++ (t ∷ r) → at ≡ t.at →
      ((k : List Lexeme) → first_kind k ≡ Some t.kind → unit_of room wide (b ++ k) ≡ Err (fault, number_at k)) →
      ((n : ℕ) → (more : List TokenKind) × (y : Found (List Item))
      × (unit_of room wide (b ++ numbered_from n more) ≡ done y))
      → Placed wide room tokens fault at
  first_bad tokens fault at b t r e place none begun =
      let c = cut 0 tokens b t r e in
      let here : at ≡ length b = place ∙ c.there ∙ omega arith in
      let more_is : length b + 1 ≡ suc (length b) = omega arith in
      let next_is =
      λ (more : List TokenKind). ap (λ (m : ℕ). numbered_from 0 (take m tokens ++ more)) more_is ∙ (c.next more).1 in
      subst (Placed wide room tokens fault) (sym here) (record {
        there = c.less;
        begun = let g = begun (0 + length b) in (g.0, g.1, ap (unit_of room wide) (c.front g.0) ∙ g.2);
        alike = λ more. let d = c.next more in (number_at d.0, ap (unit_of room wide) (next_is more) ∙ none d.0 d.2);
      })

  -- a unit, of what the reader of items does
  read_ends : (all : List Lexeme) (items : List Item) (scopes : HeldScopes) (n : ℕ)
      → items_with (knot room) (room - 1) (file_scope wide) all
      ≡ done (found items scopes (record { kind = kinds.End; at = n } ∷ [])) →
      unit_of room wide all ≡ done (found items (file_scope wide) [])
  unfolding and_then
  read_ends all items scopes n e = rw e refl

  -- what completes the items, with an end behind it
  completed : (b : List Lexeme) (n : ℕ) (more : List TokenKind) (items : List Item) (scopes : HeldScopes) →
      ((k : List Lexeme) → is_end (kind_at k) ≡ true → items_with (knot room) (room - 1) (file_scope wide)
      (b ++ (numbered_from n more ++ k)) ≡ done (found items scopes k)) →
      (more : List TokenKind) × (y : Found (List Item)) × (unit_of room wide (b ++ numbered_from n more) ≡ done y)
  completed b n more items scopes reads = (
    more ++ kinds.End ∷ [],
    found items (file_scope wide) [],
    ap (λ (k : List Lexeme). unit_of room wide (b ++ k)) (numbered_append n more (kinds.End ∷ [])) ∙
        read_ends (b ++ (numbered_from n more ++ (record { kind = kinds.End; at = n + length more } ∷ []))) items scopes
        (n + length more) (reads (record { kind = kinds.End; at = n + length more } ∷ []) refl),
  )

  begun_by : (b : List Lexeme) → Opened false (items_with (knot room) (room - 1)) is_end (file_scope wide) b → (n : ℕ)
      → (more : List TokenKind) × (y : Found (List Item)) × (unit_of room wide (b ++ numbered_from n more) ≡ done y)
  begun_by [] o n = let r = items_law.ready (file_scope wide) n in completed [] n r.more r.tree r.scopes r.reads
  begun_by (t ∷ b) o n = let c = o n in completed (t ∷ b) n c.more c.tree c.scopes c.reads

  module _ (tokens : List TokenKind) (has : has_end (numbered tokens) ≡ true) (fault : FaultKind) (at : ℕ) where
    -- the items are refused
    items_refused : (d : Refusal)
        → Refused false (items_with (knot room) (room - 1)) is_end (file_scope wide) (numbered tokens) d
        → refused d ≡ refused (fault, at) → Placed wide room tokens fault at
    unfolding and_then
    items_refused d o e = by_rest o.rest refl
      where
        by_rest : (rest : List Lexeme) → o.rest ≡ rest → Placed wide room tokens fault at
        by_rest [] is =
            let never : has_end [] ≡ true = subst (λ (ts : List Lexeme). has_end ts ≡ true) is (o.ending has) in
            absurd cc
        by_rest (t ∷ r) is =
            first_bad tokens fault at o.before t r (o.parts ∙ ap (λ (k : List Lexeme). o.before ++ k) is)
            (same_place d (fault, at) (Err d) refl e ∙ o.place ∙ ap number_at is)
            (λ k h. rw (o.same k (h ∙ ap first_kind (sym is)))
            (ap (λ (c : FaultKind). refused (c, number_at k)) (same_code d (fault, at) e))) (begun_by o.before o.opened)

    not_end : (x : Found (List Item)) (k : List Lexeme) (t : Lexeme) → first_kind k ≡ Some t.kind
        → is_end t.kind ≡ false
        → and_then (token_at is_end x.scopes k) (λ last. alone wide x.tree last.rest) ≡ Err (Unexpected, number_at k)
    unfolding and_then
    not_end x [] t h other = absurd cc
    not_end x (u ∷ us) t h other = let same : u.kind ≡ t.kind = cc in rw (same, other) refl

    not_alone : (x : Found (List Item)) (k : List Lexeme) (t : Lexeme) → first_kind k ≡ Some t.kind
        → alone wide x.tree k ≡ Err (Unexpected, number_at k)
    not_alone x [] t h = absurd cc
    not_alone x (u ∷ us) t h = refl

    -- the items are read, and what stands behind them is refused
    end_refused : (x : Found (List Item))
        → Answered false (items_with (knot room) (room - 1)) is_end (file_scope wide) (numbered tokens) x →
        and_then (token_at is_end x.scopes x.rest) (λ last. alone wide x.tree last.rest) ≡ Err (fault, at)
        → Placed wide room tokens fault at
    unfolding and_then
    end_refused x o e = by_rest x.rest refl
      where
        by_rest : (rest : List Lexeme) → x.rest ≡ rest → Placed wide room tokens fault at
        by_rest [] is =
            let never : has_end [] ≡ true = subst (λ (ts : List Lexeme). has_end ts ≡ true) is (o.ending has) in
            absurd cc
        by_rest (t ∷ r) is = by_end (is_end t.kind) refl
          where
            by_end : (b : Bool) → is_end t.kind ≡ b → Placed wide room tokens fault at
            by_end false other =
                let now : and_then (token_at is_end x.scopes x.rest) (λ last. alone wide x.tree last.rest)
                ≡ Err (Unexpected, t.at) = rw (is, other) refl in
                first_bad tokens fault at o.before t r (o.parts ∙ ap (λ (k : List Lexeme). o.before ++ k) is)
                (same_place (Unexpected, t.at) (fault, at) _ now e)
                (λ k h. rw (o.same k (h ∙ ap first_kind (sym is))) (not_end x k t h other
                ∙ ap (λ (c : FaultKind). refused (c, number_at k)) (code_is (Unexpected, t.at) (fault, at) _ now e)))
                (λ n. (
                  kinds.End ∷ [],
                  found x.tree (file_scope wide) [],
                  read_ends (o.before ++ (record { kind = kinds.End; at = n } ∷ [])) x.tree x.scopes n
                      (o.ended (record { kind = kinds.End; at = n } ∷ []) refl),
                ))
            by_end true last = behind_end r is
              where
                behind_end : (r : List Lexeme) → x.rest ≡ t ∷ r → Placed wide room tokens fault at
                behind_end [] is =
                    let now : and_then (token_at is_end x.scopes x.rest) (λ last. alone wide x.tree last.rest)
                    ≡ done (found x.tree (file_scope wide) []) = rw (is, last) refl in
                    absurd cc
                behind_end (u ∷ us) is =
                    let now : and_then (token_at is_end x.scopes x.rest) (λ last. alone wide x.tree last.rest)
                    ≡ Err (Unexpected, u.at) = rw (is, last) refl in
                    first_bad tokens fault at (o.before ++ (t ∷ [])) u us (o.parts
                    ∙ ap (λ (k : List Lexeme). o.before ++ k) is ∙ sym (append_assoc o.before (t ∷ []) (u ∷ us)))
                    (same_place (Unexpected, u.at) (fault, at) _ now e)
                    (λ k h. rw (append_assoc o.before (t ∷ []) k, o.same (t ∷ k) (ap first_kind (sym is)), last)
                    (not_alone x k u h ∙ ap (λ (c : FaultKind). refused (c, number_at k))
                    (code_is (Unexpected, u.at) (fault, at) _ now e)))
                    (λ n. (
                      [],
                      found x.tree (file_scope wide) [],
                      rw (append_assoc o.before (t ∷ []) [], o.same (t ∷ []) (ap first_kind (sym is)), last) refl,
                    ))

  place_of : (body : List TokenKind) (fault : FaultKind) (at : ℕ)
      → unit_of room wide (numbered (body ++ kinds.End ∷ [])) ≡ Err (fault, at)
      → Placed wide room (body ++ kinds.End ∷ []) fault at
  unfolding and_then
  place_of body fault at e =
      by_items (items_with (knot room) (room - 1) (file_scope wide) all) refl (items_law.good (file_scope wide) all) e
    where
      all : List Lexeme
      all = numbered (body ++ kinds.End ∷ [])

      at_items : (r : Read (List Item)) → items_with (knot room) (room - 1) (file_scope wide) all ≡ r
          → unit_of room wide all ≡ and_then r
          (λ items. and_then (token_at is_end items.scopes items.rest) (λ last. alone wide items.tree last.rest))
      at_items r is =
          ap (λ (r : Read (List Item)). and_then r
          (λ items. and_then (token_at is_end items.scopes items.rest) (λ last. alone wide items.tree last.rest))) is

      by_items : (r : Read (List Item)) → items_with (knot room) (room - 1) (file_scope wide) all ≡ r
          → Outcome false (items_with (knot room) (room - 1)) is_end (file_scope wide) all r
          → unit_of room wide all ≡ Err (fault, at) → Placed wide room (body ++ kinds.End ∷ []) fault at
      by_items (Err d) is o e =
          items_refused (body ++ kinds.End ∷ []) (has_end_last 0 body) fault at d o (sym (at_items (Err d) is) ∙ e)
      by_items (Ok x) is o e =
          end_refused (body ++ kinds.End ∷ []) (has_end_last 0 body) fault at x o (sym (at_items (Ok x) is) ∙ e)

  pub placed : (tokens : List TokenKind) (fault : FaultKind) (at : ℕ) → IsEnded tokens
      → unit_of room wide (numbered tokens) ≡ Err (fault, at) → Placed wide room tokens fault at
  placed tokens fault at ended e =
      subst (λ (tokens : List TokenKind). Placed wide room tokens fault at) (sym ended.1) (place_of ended.0 fault at
      (subst (λ (tokens : List TokenKind). unit_of room wide (numbered tokens) ≡ Err (fault, at)) ended.1 e))
