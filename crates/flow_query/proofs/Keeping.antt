-- Walks that are kept: what one more walk changes, and what is done of variables and constants in order.
use Rattle.std.proofs.Common.{◌≡◌, ◌≢◌, ◌⊎◌, ℕ, zero, suc, ◌+◌, ◌<◌, ◌≤◌, ◌++◌, ◌∷◌, [], List, length, length-append, get_or, slice_get, take, Some, None, inl, inr, refl, sym, ◌∙◌, ap, subst, arith}
use Rattle.std.proofs.Math.Seq.{take-suc}
use Rattle.std.proofs.lemmas.List.{take_all}
use Rattle.std.proofs.lemmas.Bool.Decides.{eqb_tells}
use Rattle.std.proofs.lemmas.Option.{slice_get_within}
use Rattle.std.specs.List.{Contains}
use Rattle.std.proofs.lemmas.List.Elements.{Contains-append_cases}
use Rattle.flow_graph.specs.System.{System}
use Rattle.flow_graph.specs.declared.proof.Walk.{Walk}
use Rattle.flow_query.specs.declared.walks.Walks.{Walks}
use Rattle.flow_query.specs.declared.ends.Constant.{Constant}
use Rattle.flow_query.specs.Ends.{AreStartsBelow}
use Rattle.flow_query.specs.Answers.{IsFrom}
use Rattle.flow_query.specs.Walks.{walk_in, AllDone, AllWalks, AreSound, AreWalks, IsDone, IsKept, IsPut, IsShown, StartsDone, StaysDone}

walk_is : {x y : Walk} → Some x ≡ Some y → x ≡ y
walk_is e = cc

-- a pair is this one, or another
one_or_other : (a b u v : ℕ) → ((a ≡ u) × (b ≡ v)) ⊎ (a ≡ u → b ≢ v)
one_or_other a b u v = elim (eqb_tells a u) [
  | inr apart ↦ inr (λ same. absurd (apart.1 same))
  | inl first ↦ elim (eqb_tells b v) [
    | inr apart ↦ inr (λ same. apart.1)
    | inl second ↦ inl (first.1, second.1)
  ]
]

module _ (sys : System) (lattice : ℕ) (old new : Walks) (u v : ℕ) (walk : Walk) (put : IsPut old new u v walk) where
  pub sound_put : IsShown sys lattice u v walk → AreSound sys lattice old → AreSound sys lattice new
  sound_put holds sound = λ a b other is. elim (one_or_other a b u v) [
    | inr apart ↦ sound a b other (sym (put.others a b apart) ∙ is)
    | inl same ↦
        let At : ℕ → ℕ → Type 0 = λ x y. walk_in new.map x y ≡ Some other in
        let there : walk_in new.map u v ≡ Some other = subst (λ y. At u y) same.1 (subst (λ x. At x b) same.0 is) in
        let one : walk ≡ other = walk_is (sym put.here ∙ there) in
        subst (λ x. IsShown sys lattice x b other) (sym same.0) (subst (λ y. IsShown sys lattice u y other) (sym same.1)
        (subst (λ (w : Walk). IsShown sys lattice u v w) one holds))
  ]

  some_here : walk_in new.map u v ≡ None → ⊥
  some_here none = let both : Some walk ≡ None = sym put.here ∙ none in absurd cc

  pub done_put : IsDone sys lattice new u v
  done_put = λ none leads. some_here none

  pub stays_put : StaysDone sys lattice old new
  stays_put = λ a b done none. elim (one_or_other a b u v) [
    | inr apart ↦ done (sym (put.others a b apart) ∙ none)
    | inl same ↦
        let At : ℕ → ℕ → Type 0 = λ x y. walk_in new.map x y ≡ None in
        absurd (some_here (subst (λ y. At u y) same.1 (subst (λ x. At x b) same.0 none)))
  ]

-- ---- what is done in order

none_in : {X : Type 0} (x : X) → Contains [] x → ⊥
none_in x (i, within, is) = omega (arith, within)

pub in_one : {X : Type 0} (x y : X) → Contains (x ∷ []) y → x ≡ y
in_one x y (zero, within, is) = is
in_one x y (suc i, within, is) = absurd (omega (arith, within))

pub one_in : {X : Type 0} (x : X) → Contains (x ∷ []) x
one_in x = (0, omega arith, refl)

pub all_none : {X : Type 0} (P : X → Type 0) (x : X) → Contains [] x → P x
all_none P x there = absurd (none_in x there)

-- what holds of the first so many, and of the next, holds of one more
pub all_next : {X : Type 0} (P : X → Type 0) (xs : List X) (n : ℕ) (next : X) → n < length xs
    → next ≡ get_or xs n next →
    ((x : X) → Contains (take n xs) x → P x) → P next → (x : X) → Contains (take (n + 1) xs) x → P x
all_next {X} P xs n next within is each own x there =
    let step : suc n ≡ n + 1 = omega arith in
    let taken : take (n + 1) xs ≡ take n xs ++ next ∷ [] =
    ap (λ k. take k xs) (sym step) ∙ take-suc xs n next within ∙ ap (λ (y : X). take n xs ++ y ∷ []) (sym is) in
    elim (Contains-append_cases (take n xs) (next ∷ []) x (subst (λ (ys : List X). Contains ys x) taken there)) [
      | inl before ↦ each x before
      | inr last ↦ subst P (in_one next x last) own
    ]

-- an element of a list, by its place
pub at_index : {X : Type 0} (xs : List X) (n : ℕ) (x : X) → n < length xs → x ≡ get_or xs n x → Contains xs x
at_index xs n x within is = (n, within, sym is)

-- ---- walks of some variables

-- those of all are those of one
pub for_one : (sys : System) (count : ℕ) (vars : List ℕ) (all : List Walks) (n var : ℕ) → n < length vars
    → var ≡ get_or vars n var →
    AllWalks sys count vars all → AllWalks sys count (var ∷ []) all
for_one sys count vars all n var within is walks = record {
  count = walks.count;
  each = λ m own there.
      let of = walks.each m own there in
      record {
        sound = of.sound;
        done = λ k elem u stands v one.
            of.done k elem u stands v (subst (λ x. Contains vars x) (in_one var v one) (at_index vars n var within is));
      };
}

-- of a lattice and a variable, which are named otherwise
pub walks_at : (sys other : System) (count lattice named var called : ℕ) (all : List Walks) (walks : Walks)
    → other ≡ sys → named ≡ lattice → called ≡ var →
    slice_get all lattice ≡ Some walks → AllWalks sys count (var ∷ []) all → AreWalks other named (called ∷ []) walks
walks_at sys other count lattice named var called all walks graph is same there each =
    let Of : System → Type 0 = λ s. AreWalks s named (called ∷ []) walks in
    let In : ℕ → Type 0 = λ l. AreWalks sys l (called ∷ []) walks in
    let At : ℕ → Type 0 = λ v. AreWalks sys lattice (v ∷ []) walks in
    subst Of (sym graph) (subst In (sym is) (subst At (sym same) (each.each lattice walks there)))

walks_is : {x y : Walks} → Some x ≡ Some y → x ≡ y
walks_is e = cc

-- an entry of walks in a list with one more at its end was in the list, or is that one at its length
before_or_at : (xs : List Walks) (x : Walks) (n : ℕ) (y : Walks) → slice_get (xs ++ x ∷ []) n ≡ Some y
    → (slice_get xs n ≡ Some y) ⊎ ((n ≡ length xs) × (x ≡ y))
before_or_at [] x zero y is = inr (refl, walks_is is)
before_or_at [] x (suc n) y is = absurd cc
before_or_at (z ∷ xs) x zero y is = inl is
before_or_at (z ∷ xs) x (suc n) y is = elim (before_or_at xs x n y is) [
  | inl before ↦ inl before
  | inr last ↦ inr (ap (λ (k : ℕ). suc k) last.0, last.1)
]

-- those of one lattice more
pub next_walks : (sys : System) (count lattice : ℕ) (vars : List ℕ) (old new : List Walks) (x : Walks) → lattice ≡ count
    → new ≡ old ++ x ∷ [] →
    AreWalks sys lattice vars x → AllWalks sys count vars old → AllWalks sys (count + 1) vars new
next_walks sys count lattice vars old new x named more own first = record {
  count =
      let longer = length-append old (x ∷ []) in
      let same : length new ≡ length (old ++ x ∷ []) = ap (λ (xs : List Walks). length xs) more in
      let were = first.count in omega (arith, longer, same, were);
  each = λ n walks is.
      let there : slice_get (old ++ x ∷ []) n ≡ Some walks =
      subst (λ (xs : List Walks). slice_get xs n ≡ Some walks) more is in
      elim (before_or_at old x n walks there) [
        | inl before ↦ first.each n walks before
        | inr last ↦
            let At : ℕ → Type 0 = λ k. AreWalks sys k vars x in
            let Of : Walks → Type 0 = λ w. AreWalks sys n vars w in
            subst Of last.1 (subst At (named ∙ sym first.count ∙ sym last.0) own)
      ];
}

-- ---- of all variables and constants

-- where the first so many are all
pub all_taken : {X : Type 0} (P : X → Type 0) (xs : List X) (n : ℕ) → ((x : X) → Contains (take n xs) x → P x)
    → length xs ≤ n → (x : X) → Contains xs x → P x
all_taken {X} P xs n each most x there =
    let all = take_all n xs most in
    each x (subst (λ (ys : List X). Contains ys x) (sym all) there)

pub kept_on : (sys : System) (lattice : ℕ) (old new : List ℕ) (v : ℕ) → ((u : ℕ) → Contains old u → Contains new u)
    → IsKept sys lattice old v → IsKept sys lattice new v
kept_on sys lattice old new v on (inl there) = inl (on v there)
kept_on sys lattice old new v on (inr never) = inr never

-- where no constant leads to a variable, none does to an equal one, in an equal graph and lattice
pub unreached_as : (one sys : System) (lattice named var called : ℕ) → one ≡ sys → lattice ≡ named → var ≡ called →
    ((number : ℕ) → IsFrom one lattice var number → ⊥) → (number : ℕ) → IsFrom sys named called number → ⊥
unreached_as one sys lattice named var called graph is same never number from =
    let Of : System → Type 0 = λ s. IsFrom s named called number in
    let In : ℕ → Type 0 = λ l. IsFrom one l called number in
    let At : ℕ → Type 0 = λ v. IsFrom one lattice v number in
    never number (subst At (sym same) (subst In (sym is) (subst Of (sym graph) from)))

-- what is done of all that are listed by their variables is done of all constants
pub starts_done : (sys : System) (lattice : ℕ) (walks : Walks) (vars : List ℕ) (starts : List Constant)
    → AreStartsBelow sys lattice (length sys.constraints) starts →
    ((start : Constant) → Contains starts start → AllDone sys lattice walks start.at vars)
    → StartsDone sys lattice walks vars
starts_done sys lattice walks vars starts are each n elem u stands =
    let there = are.all n elem u (slice_get_within sys.constraints n stands.constraint stands.there) stands in
    let Of : ℕ → Type 0 = λ a. AllDone sys lattice walks a vars in
    subst Of there.2 (each there.0 there.1)

-- no constant leads to the variables that are not kept
pub done_for_all : (sys : System) (lattice : ℕ) (walks : Walks) (vars kept : List ℕ)
    → ((v : ℕ) → Contains vars v → IsKept sys lattice kept v) →
    StartsDone sys lattice walks kept → StartsDone sys lattice walks vars
done_for_all sys lattice walks vars kept are done n elem u stands v there = elim (are v there) [
  | inl in_it ↦ done n elem u stands v in_it
  | inr never ↦ λ none leads. never n (record { elem = elem; at = u; constant = stands; leads = leads })
]

-- what holds of a system and a lattice holds of what is the same
pub moved : (P : System → ℕ → Type 0) (s t : System) (l m : ℕ) → s ≡ t → l ≡ m → P s l → P t m
moved P s t l m graph is own = subst (λ (k : ℕ). P t k) is (subst (λ (r : System). P r l) graph own)
