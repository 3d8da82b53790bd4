-- A refusal for the height: a tree begins with the tokens up to it, and there are many.
use Rattle.std.proofs.Common.{◌≡◌, ℕ, zero, suc, ◌+◌, ◌*◌, ◌<◌, ◌≤◌, Bool, List, [], ◌∷◌, ◌++◌, length, take, slice_get, inl, inr, Some, Ok, Err, refl, sym, ◌∙◌, ap, subst, arith, append_assoc}
use Rattle.std.specs.Prelude.{◌-◌, drop, slice_index_or}
use Rattle.std.proofs.Math.Seq.{take-add}
use Rattle.c_words.specs.declared.kinds.TokenKind.{TokenKind}
use Rattle.c_tree.specs.declared.lexeme.Lexeme.{Lexeme}
use Rattle.c_tree.specs.Unit.{Item}
use Rattle.c_specs.specs.Laws.{WholeAreMixes, MixesGoOn}
use Rattle.c_units.specs.Units.{numbered}
use Rattle.c_reading.specs.declared.kinds.FaultKind.{FaultKind}
use Rattle.c_reading.specs.declared.kinds.FaultKind.TheVariants.{TooDeep}
use Rattle.c_reading.specs.Reading.{Refusal, Found, Read, IsNumbered, number_at, behind_first}
use Rattle.c_reading.specs.Knot.{most}
use Rattle.c_reading.specs.UnitLaws.{UnitIsWellFormed, WellFormedIsRead}
use Rattle.refusal_rules.specs.Allowed.{BeginsTree}
use Rattle.refusal_rules.specs.Laws.{UnitsBeginAsTrees}
use Rattle.refusal_rules.proofs.Weaker.{item_derives}
use Rattle.room_laws.specs.Rooms.{unit_of, AnyUnitIsWellFormed}
use Rattle.wide_laws.specs.Wide.{Leaves, Late, Passes, WithMoreRoomItPasses}
use Rattle.unit_places.specs.Laws.{IsEnded, PlaceIsFirst}
use Rattle.unit_places.proofs.Place.{are_numbered, Placed, placed}
use Rattle.unit_places.proofs.Heights.{unit_is, items_of}
use Rattle.deep_places.specs.Laws.{TooDeepIsLate}
use Rattle.depth_laws.specs.Laws.{OnlyTheHeight}

abbrev refused : Refusal → Read (List Item)
refused d = Err d

-- the first kinds of tokens, as many as are taken, with those that are left behind them, are all
cut_here : (n : ℕ) (ks : List TokenKind) → take n ks ++ drop n ks ≡ ks
cut_here zero ks = refl
cut_here (suc n) [] = refl
cut_here (suc n) (k ∷ ks) = ap (λ (ks : List TokenKind). k ∷ ks) (cut_here n ks)

stands_at : (b : List Lexeme) (t : Lexeme) (r : List Lexeme) → slice_get (b ++ (t ∷ r)) (length b) ≡ Some t
stands_at [] t r = refl
stands_at (u ∷ b) t r = stands_at b t r

long : (b : List Lexeme) (t : Lexeme) (c : List Lexeme) → length (b ++ (t ∷ c)) ≡ length b + suc (length c)
long [] t c = omega arith
long (u ∷ b) t c = let e = long b t c in omega (arith, e)

-- in numbered tokens the number of one is how many stand before it
number_of : (all : List Lexeme) → IsNumbered all → (b : List Lexeme) (t : Lexeme) (r : List Lexeme) → all ≡ b ++ (t ∷ r)
    → t.at ≡ length b
number_of all is b t r e = is (length b) t (ap (λ (all : List Lexeme). slice_get all (length b)) e ∙ stands_at b t r)

-- what is among the tokens behind one has a greater number
number_behind : (all : List Lexeme) → IsNumbered all → (b : List Lexeme) (t : Lexeme) (r : List Lexeme)
    → all ≡ b ++ (t ∷ r) → (c : List Lexeme) (u : Lexeme) (v : List Lexeme) → r ≡ c ++ (u ∷ v) → t.at < u.at
number_behind all is b t r e c u v f =
    let here = number_of all is b t r e in
    let there = number_of all is (b ++ (t ∷ c)) u v
    (e ∙ ap (λ (r : List Lexeme). b ++ (t ∷ r)) f ∙ sym (append_assoc b (t ∷ c) (u ∷ v))) in
    let far = long b t c in
    omega (arith, here, there, far)

place_is : (a b : ℕ) → ◌≡◌ {A = Refusal} (TooDeep, a) (TooDeep, b) → a ≡ b
place_is a b e = ap (λ (d : Refusal). d.1) e

pair_is : (d : Refusal) → d.0 ≡ TooDeep → d ≡ (TooDeep, d.1)
pair_is (fault, at) is = ap (λ (fault : FaultKind). (fault, at)) is

not_both : (r : Read (List Item)) (e : Refusal) (x : Found (List Item)) → r ≡ Err e → r ≡ Ok x → ⊥
not_both r e x is also = absurd cc

module _ (formed : UnitIsWellFormed) (read_back : WellFormedIsRead) (whole_are : WholeAreMixes) (goes : MixesGoOn)
    (first : PlaceIsFirst) (trees : UnitsBeginAsTrees) (late : TooDeepIsLate) (passes : WithMoreRoomItPasses)
    (sound : AnyUnitIsWellFormed) where
  -- what is read with some room begins with its first tokens
  begins : (dialect : Bool) (room : ℕ) → 1 ≤ room → (front more : List TokenKind) (y : Found (List Item))
      → unit_of room dialect (numbered (front ++ more)) ≡ Ok y → BeginsTree front
  begins dialect room one front more y is =
      let w = sound dialect (numbered (front ++ more)) (are_numbered (front ++ more)) room y one is in (
        y.tree,
        record {
          behind = more;
          spelled = w.tokens;
          derived = λ k d below.
              item_derives whole_are goes (numbered (front ++ more)) (slice_index_or y.tree k d) (w.parts k d below);
        },
      )

  module _ (dialect : Bool) (tokens : List TokenKind) (at : ℕ) (ended : IsEnded tokens)
      (e : unit_of most dialect (numbered tokens) ≡ Err (TooDeep, at)) where
    abbrev all : List Lexeme
    all = numbered tokens

    abbrev wide : ℕ
    wide = 8 * length tokens + 522

    fifty : 50 ≤ at
    fifty = let l = late dialect most all (are_numbered tokens) at e in omega (arith, l)

    place : Placed dialect most tokens TooDeep at
    place = placed dialect most (items_of formed read_back whole_are goes most (omega arith)) tokens TooDeep at ended e

    wide_place : (fault : FaultKind) (n : ℕ) → unit_of wide dialect all ≡ Err (fault, n)
        → Placed dialect wide tokens fault n
    wide_place fault n is =
        placed dialect wide (items_of formed read_back whole_are goes wide (omega arith)) tokens fault n ended is

    -- with so much room nothing is too deep
    none_deep : (n : ℕ) → unit_of wide dialect all ≡ Err (TooDeep, n) → ⊥
    none_deep n is =
        let l = late dialect wide all (are_numbered tokens) n is in
        let there = (wide_place TooDeep n is).there in
        absurd (omega (arith, l, there))

    -- the first token is not refused, since something begins with it
    not_first : (fault : FaultKind) → unit_of wide dialect all ≡ Err (fault, 0) → ⊥
    not_first fault is =
        let p = wide_place fault 0 is in
        let b = place.begun in
        let rest : List TokenKind = take (at - 1) (drop 1 tokens) in
        let whole : at ≡ 1 + (at - 1) = (let f = fifty in omega (arith, f)) in
        let parts : take at tokens ≡ take 1 tokens ++ rest =
        ap (λ (n : ℕ). take n tokens) whole ∙ take-add 1 (at - 1) tokens in
        let same : take at tokens ++ b.0 ≡ take 1 tokens ++ (rest ++ b.0) =
        ap (λ (ks : List TokenKind). ks ++ b.0) parts ∙ append_assoc (take 1 tokens) rest b.0 in
        let read = subst (λ (r : Read (List Item)). Passes (numbered (take at tokens ++ b.0)) r
        (unit_of wide dialect (numbered (take at tokens ++ b.0)))) b.2
        (passes most wide (omega arith) (omega arith) dialect (numbered (take at tokens ++ b.0))) in
        let a = p.alike (rest ++ b.0) in
        not_both (unit_of wide dialect (numbered (take 1 tokens ++ (rest ++ b.0)))) (fault, a.0) b.1 a.1
        (sym (ap (λ (ks : List TokenKind). unit_of wide dialect (numbered ks)) same) ∙ read)

    -- units begin with what stands before a token behind it
    behind_it : (d : Refusal) → unit_of wide dialect all ≡ refused d → at < d.1 → BeginsTree (take (at + 1) tokens)
    behind_it d is more =
        let p = wide_place d.0 d.1 is in
        let b = p.begun in
        let m : ℕ = d.1 - (at + 1) in
        let whole : d.1 ≡ (at + 1) + m = omega (arith, more) in
        let parts : take d.1 tokens ≡ take (at + 1) tokens ++ take m (drop (at + 1) tokens) =
        ap (λ (n : ℕ). take n tokens) whole ∙ take-add (at + 1) m tokens in
        let same = ap (λ (ks : List TokenKind). ks ++ b.0) parts
        ∙ append_assoc (take (at + 1) tokens) (take m (drop (at + 1) tokens)) b.0 in
        begins dialect wide (omega arith) (take (at + 1) tokens) (take m (drop (at + 1) tokens) ++ b.0) b.1
        (sym (ap (λ (ks : List TokenKind). unit_of wide dialect (numbered ks)) same) ∙ b.2)

    among : (d : Refusal) → unit_of wide dialect all ≡ refused d → (here : List Lexeme) → Leaves all here
        → at ≡ number_at here → (us : List Lexeme) → Leaves (behind_first here) us → d.1 ≡ number_at us
        → BeginsTree (take (at + 1) tokens)
    among d is [] left there us inside place_of = let f = fifty in absurd (omega (arith, f, there))
    among d is (t ∷ r) left there [] inside none = absurd (not_first d.0 (is ∙ ap (λ (n : ℕ). refused (d.0, n)) none))
    among d is (t ∷ r) left there (u ∷ us) inside place_of =
        let far = number_behind all (are_numbered tokens) left.0 t r left.1 inside.0 u us inside.1 in
        behind_it d is (omega (arith, far, there, place_of))

    tree : BeginsTree (take (at + 1) tokens)
    tree = by_wide (unit_of wide dialect all) refl
        (subst (λ (r : Read (List Item)). Passes all r (unit_of wide dialect all)) e
        (passes most wide (omega arith) (omega arith) dialect all))
      where
        by_wide : (r : Read (List Item)) → unit_of wide dialect all ≡ r → Passes all (refused (TooDeep, at)) r
            → BeginsTree (take (at + 1) tokens)
        by_wide (Ok y) is p =
            begins dialect wide (omega arith) (take (at + 1) tokens) (drop (at + 1) tokens) y
            (ap (λ (ks : List TokenKind). unit_of wide dialect (numbered ks)) (cut_here (at + 1) tokens) ∙ is)
        by_wide (Err d) is (inl same) = absurd (none_deep at (is ∙ same))
        by_wide (Err d) is (inr deep) = by_late deep.late
          where
            by_late : Late (behind_first deep.at) (refused d) → BeginsTree (take (at + 1) tokens)
            by_late (inl again) = absurd (none_deep d.1 (is ∙ ap refused (pair_is d again)))
            by_late (inr inside) =
                among d is deep.at deep.left (place_is at (number_at deep.at) deep.is) inside.0 inside.1.0 inside.1.1

  pub only_the_height : OnlyTheHeight
  only_the_height dialect tokens at ended e =
      let bad = first dialect tokens TooDeep at ended e in
      let is = unit_is dialect (numbered tokens) ∙ e in
      record {
        there = bad.there;
        none = bad.none;
        before = trees dialect (take at tokens) bad.before;
        height = tt;
        may_be = (fifty dialect tokens at ended is, tree dialect tokens at ended is);
      }
