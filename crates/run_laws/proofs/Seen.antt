-- A run of the program of the example: what was marked in the cell of `a` is written to that of `b`.
use Rattle.std.proofs.Common.{◌≡◌, ℕ, zero, suc, ◌<◌, Bool, true, false, nat_eq, slice_get, Option, None, Some, refl, inl, inr, subst, sym, ap, ◌∙◌, arith}
use Rattle.std.specs.Int.{bit_at}
use Rattle.std.proofs.lemmas.Nat.Bits.{bit_at-zero, bit_at_above}
use Rattle.std.proofs.lemmas.Option.{none-some}
use Rattle.qual_base.specs.declared.places.Owner.{Owner}
use Rattle.qual_base.specs.declared.places.Owner.TheVariants.{Nobody, Function}
use Rattle.lattice_core.specs.Order.{leq, IsOrder}
use Rattle.flow_graph.specs.declared.constraint.Link.{Link}
use Rattle.flow_graph.specs.declared.constraint.Link.TheVariants.{Le, Const, Bound, Enter, Leave}
use Rattle.flow_graph.specs.declared.constraint.Constraint.{Constraint}
use Rattle.flow_graph.specs.System.{owner_of, Stands}
use Rattle.flow_graph.specs.Unfolding.{IsAcceptedIn}
use Rattle.qual_types.specs.declared.look.Kind.TheVariants.{Base, Void}
use Rattle.qual_types.specs.Skel.{flat, no_skels}
use Rattle.run_laws.specs.Shapes.{Belongs}
use Rattle.run_laws.specs.Programs.{IsSystemOf, Instr, shared, load, move, store, IsDeclared, Asks, IsAmong}
use Rattle.run_laws.specs.Runs.{num, ptr, plain, labelled, State, puts_reg, puts_cell, Run, begins, steps, marks_cell}
use Rattle.run_laws.specs.Example.{order, constraint, sys, skel, code, program, world}
use Rattle.run_laws.specs.Laws.{SomeRunIsViolated, SomeRunIsAccepted}
use Rattle.run_laws.proofs.Keeping.{false_not}

-- the order as a table
abbrev below : ℕ → ℕ → Bool
below zero zero = true
below zero (suc zero) = true
below zero (suc (suc b)) = false
below (suc zero) zero = false
below (suc zero) (suc zero) = true
below (suc zero) (suc (suc b)) = false
below (suc (suc a)) b = false

no_bit : (n b : ℕ) → bit_at n b ≡ 0 → nat_eq (bit_at n b) 1 ≡ false
no_bit n b h = ap (λ x. nat_eq x 1) h

-- the order of the example is its table
is_table : (a b : ℕ) → leq order a b ≡ below a b
is_table zero zero = refl
is_table zero (suc zero) = refl
is_table zero (suc (suc b)) = no_bit 3 (suc (suc b)) (bit_at_above 3 2 (suc (suc b)) (omega arith) (omega arith))
is_table (suc zero) zero = refl
is_table (suc zero) (suc zero) = refl
is_table (suc zero) (suc (suc b)) = no_bit 2 (suc (suc b)) (bit_at_above 2 2 (suc (suc b)) (omega arith) (omega arith))
is_table (suc (suc a)) b = no_bit 0 b (bit_at-zero b)

-- only 0 and 1 are related in the table
below_inside : (a b : ℕ) → below a b ≡ true → (a < 2) × (b < 2)
below_inside zero zero h = (omega arith, omega arith)
below_inside zero (suc zero) h = (omega arith, omega arith)
below_inside zero (suc (suc b)) h = absurd (false_not h)
below_inside (suc zero) zero h = absurd (false_not h)
below_inside (suc zero) (suc zero) h = (omega arith, omega arith)
below_inside (suc zero) (suc (suc b)) h = absurd (false_not h)
below_inside (suc (suc a)) b h = absurd (false_not h)

-- each of 0 and 1 is below itself in the table
below_same : (a : ℕ) → a < 2 → below a a ≡ true
below_same zero h = refl
below_same (suc zero) h = refl
below_same (suc (suc a)) h = absurd (omega arith)

-- what is below a second that is below a third is below the third in the table
below_through : (a b c : ℕ) → below a b ≡ true → below b c ≡ true → below a c ≡ true
below_through zero zero c h k = k
below_through zero (suc zero) zero h k = refl
below_through zero (suc zero) (suc zero) h k = refl
below_through zero (suc zero) (suc (suc c)) h k = absurd (false_not k)
below_through zero (suc (suc b)) c h k = absurd (false_not h)
below_through (suc zero) zero c h k = absurd (false_not h)
below_through (suc zero) (suc zero) c h k = k
below_through (suc zero) (suc (suc b)) c h k = absurd (false_not h)
below_through (suc (suc a)) b c h k = absurd (false_not h)

-- two that are below each other in the table are one
below_apart : (a b : ℕ) → below a b ≡ true → below b a ≡ true → a ≡ b
below_apart zero zero h k = refl
below_apart zero (suc zero) h k = absurd (false_not k)
below_apart zero (suc (suc b)) h k = absurd (false_not h)
below_apart (suc zero) zero h k = absurd (false_not h)
below_apart (suc zero) (suc zero) h k = refl
below_apart (suc zero) (suc (suc b)) h k = absurd (false_not h)
below_apart (suc (suc a)) b h k = absurd (false_not h)

told : (a b : ℕ) → leq order a b ≡ true → below a b ≡ true
told a b h = sym (is_table a b) ∙ h

-- the order of the example is an order
is_order : IsOrder order
is_order = record {
  inside = λ a b h. below_inside a b (told a b h);
  same = λ a h. is_table a a ∙ below_same a h;
  through = λ a b c h k. is_table a c ∙ below_through a b c (told a b h) (told b c k);
  apart = λ a b h k. below_apart a b (told a b h) (told b a k);
}

-- the one function of the example is declared without parameters, and gives nothing
declared : (g : ℕ) → IsDeclared program g
declared g = record {
  at = record { var = 4; node = 5; params = no_skels; result = flat 6 Void; ellipsis = None; is = refl };
  param_is = λ k s is. absurd (none-some s is);
  result_is = refl;
}

-- the states of the run
abbrev blank : State
blank = record { regs = λ i r. plain (num 0); cells = λ o k. plain (num 0) }

abbrev named : State
named = puts_reg blank 0 0 (plain (ptr 0 0))

abbrev marked : State
marked = puts_cell named 0 0 (labelled 1 (named.cells 0 0))

abbrev loaded : State
loaded = puts_reg marked 0 1 (marked.cells 0 0)

abbrev moved : State
moved = puts_reg loaded 0 3 (record { labels = (loaded.regs 0 1).labels; raw = num 0 })

abbrev placed : State
placed = puts_reg moved 0 2 (plain (ptr 1 0))

abbrev stored : State
stored = puts_cell placed 1 0 (placed.regs 0 3)

-- whatever the bound of `b`
module _ (limit : ℕ) where
  -- what the steps ask
  abbrev asked : Instr → Type 0
  asked instr = Asks (sys limit) 0 program (Function 0) instr

  asks : (owner : Owner) (instr : Instr) → IsAmong instr (code owner) → Asks (sys limit) 0 program owner instr
  asks Nobody instr among = absurd among
  asks (Function zero) instr (inl is) =
      subst (λ x. asked x) (sym is) (record { var = 0; inside = flat 1 Base; is = refl }, inr refl)
  asks (Function zero) instr (inr (inl is)) = subst (λ x. asked x) (sym is) (0, refl)
  asks (Function zero) instr (inr (inr (inl is))) = subst (λ x. asked x) (sym is)
      (inr (record {
        there = (
          (
            (1, record { constraint = constraint (Le 1 3); there = refl; link_is = refl; carried = refl }),
            (inr refl, inr refl),
          ),
          tt,
        );
        even = inl tt;
      }))
  asks (Function zero) instr (inr (inr (inr (inl is)))) =
      subst (λ x. asked x) (sym is) (record { var = 2; inside = flat 3 Base; is = refl }, inr refl)
  asks (Function zero) instr (inr (inr (inr (inr (inl is))))) = subst (λ x. asked x) (sym is) (2, refl)
  asks (Function zero) instr (inr (inr (inr (inr (inr later))))) = absurd later
  asks (Function (suc g)) instr among = absurd among

  belongs : (owner : Owner) (r : ℕ) → Belongs (owner_of (sys limit)) owner (skel r)
  belongs owner zero = (inr refl, inr refl)
  belongs owner (suc zero) = inr refl
  belongs owner (suc (suc zero)) = (inr refl, inr refl)
  belongs owner (suc (suc (suc zero))) = inr refl
  belongs owner (suc (suc (suc (suc r)))) = inr refl

  is_system : IsSystemOf (sys limit) 0 program
  is_system = record { asks = asks; belongs = belongs; declared = declared }

  is_run : Run (sys limit) 0 program world stored
  is_run =
      let one : Run (sys limit) 0 program world named =
      steps blank named 0 (shared 0) (begins blank ((λ i r. refl), (λ o k. refl)))
      (inl refl) (0, 0, record { var = 0; inside = flat 1 Base; is = refl }, refl, refl) in
      let two : Run (sys limit) 0 program world marked =
      marks_cell named marked 0 0 0 0 0 1 (flat 1 Base) one (0, 0, refl, inl (refl, refl, refl))
      (record { constraint = constraint (Const 0 1 1); there = refl; link_is = refl; carried = refl }) refl in
      let three : Run (sys limit) 0 program world loaded =
      steps marked loaded 0 (load 1 0) two (inr (inl refl)) (0, 0, refl, tt, refl) in
      let four : Run (sys limit) 0 program world moved =
      steps loaded moved 0 (move 3 1) three (inr (inr (inl refl))) (num 0, (0, refl), refl) in
      let five : Run (sys limit) 0 program world placed =
      steps moved placed 0 (shared 2) four (inr (inr (inr (inl refl))))
      (1, 0, record { var = 2; inside = flat 3 Base; is = refl }, refl, refl) in
      steps placed stored 0 (store 2 3) five (inr (inr (inr (inr (inl refl))))) (1, 0, refl, refl)

-- the program of the example has a run that comes to a state with a violation
pub some_run_is_violated : SomeRunIsViolated
some_run_is_violated = (
  is_order,
  is_system 0,
  (λ i. tt),
  (
    stored,
    is_run 0,
    inr (record {
      frame = 0;
      reg = 2;
      object = 1;
      offset = 0;
      part = flat 3 Base;
      there = (1, 0, refl, inl (refl, refl, refl));
      n = 2;
      e = 0;
      bound = record { constraint = constraint (Bound 3 0 0); there = refl; link_is = refl; carried = refl };
      over = (1, inl refl, refl);
    }),
  ),
)

-- the element of a constant or a bound
abbrev level : Link → ℕ
level (Le u v) = 1
level (Const l e v) = e
level (Bound v l e) = e
level (Enter s u v) = 1
level (Leave s u v) = 1

abbrev level_at : Option Constraint → ℕ
level_at None = 1
level_at (Some c) = level c.link

-- each constant and bound of the example with the higher limit is of element 1
levels : (n : ℕ) → level_at (slice_get (sys 1).constraints n) ≡ 1
levels zero = refl
levels (suc zero) = refl
levels (suc (suc zero)) = refl
levels (suc (suc (suc n))) = refl

is_level : (n : ℕ) (link : Link) → Stands (sys 1) 0 n link → level link ≡ 1
is_level n link st = sym (ap (λ o. level_at o) st.there ∙ ap (λ l. level l) st.link_is) ∙ levels n

-- all is tainted
accepted : IsAcceptedIn (sys 1) 0 order
accepted depth = (
  λ v sites. 1,
  record {
    rises = record {
      elements = λ v sites. omega arith;
      le = λ n u v sites st copy. refl;
      const = λ n e v sites st copy. ap (λ x. leq order x 1) (is_level n (Const 0 e v) st);
      enter = λ n s u v site sites st there copy room. refl;
      leave = λ n s u v site sites st there copy room. refl;
    };
    bound = λ n e v sites st copy. ap (λ x. leq order 1 x) (is_level n (Bound v 0 e) st);
  },
)

pub some_run_is_accepted : SomeRunIsAccepted
some_run_is_accepted = (accepted, is_system 1, (λ i. tt), (stored, is_run 1, inl refl))
