-- The tape of a unit that is read item by item is the tape of the unit that is read.
use Rattle.std.proofs.Common.{arith, ◌≡◌, ℕ, zero, suc, ◌+◌, ◌-◌, ◌<◌, Bool, true, false, List, [], ◌∷◌, ◌++◌, length, map, drop, slice_index_or, Option, Some, None, Result, Ok, Err, refl, sym, ◌∙◌, ap, subst, append_assoc, append-nil, if◌then◌else◌}
use Rattle.tape_ops.specs.declared.op.Op.{Op}
use Rattle.c_syntax.specs.declared.declaration.Item as rust_item
use Rattle.c_tree.specs.declared.lexeme.Lexeme.{Lexeme}
use Rattle.c_tree.specs.Unit.{Item, item_of}
use Rattle.c_tape.specs.declared.list.Node.{Node}
use Rattle.c_tape.specs.Nodes.{op_of}
use Rattle.c_tape.specs.Tape.{item_tape, tape_of}
use Rattle.c_units.specs.HeldScopes.{HeldScopes, file_scope}
use Rattle.c_reading.specs.Items.{item_with, items_with}
use Rattle.c_reading.specs.Knot.{knot, most, alone, unit_at}
use Rattle.c_reading.specs.Reading.{Found, Read, Refusal, Turn, and_then, ends, turns, run, repeated, repeated_turn, kind_at, token_at}
use Rattle.c_reading.specs.Tokens.{is_end}
use Rattle.c_reading.specs.Turns.{no_end, TakesToken}
use Rattle.reader_base.specs.declared.fault.ReadError.{ReadError}
use Rattle.reader_base.specs.declared.fault.ReadError.TheVariants as errors
use Rattle.reader_base.specs.Gives.{Fails}
use Rattle.c_parser.specs.Taping.{tape_turn, tapes_at, tape_alone, tape_at, tape_found}
use Rattle.c_parser.specs.Whole.{unit_found}

-- the tape of one item
pub of_one_item : (x : rust_item.Item) → tape_of (map item_of (x ∷ [])) ≡ item_tape (item_of x)
of_one_item x = append-nil (item_tape (item_of x))

-- the op of the node at a position, then those of the nodes behind it, are the ops from the position on
dropped : (xs : List Node) (i : ℕ) (x : Node) → i < length xs → x ≡ slice_index_or xs i x
    → op_of x ∷ map op_of (drop (i + 1) xs) ≡ map op_of (drop i xs)
dropped [] i x lt is = absurd (omega arith)
dropped (y ∷ xs) zero x lt is = ap (λ (z : Node). op_of z ∷ map op_of xs) is
dropped (y ∷ xs) (suc i) x lt is =
    let e : suc i + 1 ≡ suc (i + 1) = omega arith in
    rw e (dropped xs i x (omega arith) is)

-- the op of one node more
pub mapped_on : (xs : List Node) (i : ℕ) (x : Node) (ys : List Op) → i < length xs → x ≡ slice_index_or xs i x
    → (ys ++ op_of x ∷ []) ++ map op_of (drop (i + 1) xs) ≡ ys ++ map op_of (drop i xs)
mapped_on xs i x ys lt is =
    append_assoc ys (op_of x ∷ []) (map op_of (drop (i + 1) xs))
    ∙ ap (λ (zs : List Op). ys ++ zs) (dropped xs i x lt is)

-- the tape of items and one more
tape_more : (xs : List Item) (x : Item) → tape_of (xs ++ x ∷ []) ≡ tape_of xs ++ item_tape x
tape_more [] x = append-nil (item_tape x)
tape_more (y ∷ xs) x =
    ap (λ (ops : List Op). item_tape y ++ ops) (tape_more xs x)
    ∙ sym (append_assoc (item_tape y) (tape_of xs) (item_tape x))

-- what was read, with its tape in the place of its trees
abbrev pub taped : Read (List Item) → Read (List Op)
taped (Ok x) = Ok (record { tree = tape_of x.tree; scopes = x.scopes; rest = x.rest })
taped (Err e) = Err e

-- a turn of the tape takes a token where one of the trees does
pub tape_takes : (depth room : ℕ) → TakesToken (repeated_turn no_end (item_with (knot depth) room))
    → TakesToken (tape_turn depth room)
unfolding and_then
tape_takes depth room takes ops s ts x is =
    by_test (no_end (kind_at ts)) refl (item_with (knot depth) room s ts) refl is
  where
    by_test : (b : Bool) → no_end (kind_at ts) ≡ b → (r : Read Item) → item_with (knot depth) room s ts ≡ r →
        (if b then Some (and_then r (λ x. ends (ops ++ item_tape x.tree) x.scopes x.rest)) else None) ≡ Some (Ok x)
        → length x.rest < length ts
    by_test false test r read is = absurd cc
    by_test true test (Err e) read is = absurd cc
    by_test true test (Ok y) read is =
        let same : ◌≡◌ {A = Found (List Op)}
        (record { tree = ops ++ item_tape y.tree; scopes = y.scopes; rest = y.rest }) x = cc in
        let one : repeated_turn no_end (item_with (knot depth) room) [] s ts
        ≡ Some (Ok (record { tree = y.tree ∷ []; scopes = y.scopes; rest = y.rest })) = rw (test, read) refl in
        subst (λ (z : Found (List Op)). length z.rest < length ts) same
        (takes [] s ts (record { tree = y.tree ∷ []; scopes = y.scopes; rest = y.rest }) one)

module _ (depth room : ℕ) where
  abbrev trees : Turn (List Item)
  trees = repeated_turn no_end (item_with (knot depth) room)

  taped_turns : (n : ℕ) (xs : List Item) (s : HeldScopes) (ts : List Lexeme) →
      turns (tape_turn depth room) n (tape_of xs) s ts ≡ taped (turns trees n xs s ts)
  unfolding turns and_then
  taped_turns zero xs s ts = refl
  taped_turns (suc n) xs s ts =
      by_test (λ xs s ts. taped_turns n xs s ts) (no_end (kind_at ts)) (item_with (knot depth) room s ts)
    where
      by_test : ((xs : List Item) (s : HeldScopes) (ts : List Lexeme)
          → turns (tape_turn depth room) n (tape_of xs) s ts ≡ taped (turns trees n xs s ts)) →
          (b : Bool) (r : Read Item) →
          (elim (if b then Some (and_then r (λ x. ends (tape_of xs ++ item_tape x.tree) x.scopes x.rest)) else None) [
            | None ↦ ends (tape_of xs) s ts
            | Some read ↦ and_then read (λ x. turns (tape_turn depth room) n x.tree x.scopes x.rest)
          ])
          ≡ taped (elim (if b then Some (and_then r (λ x. ends (xs ++ x.tree ∷ []) x.scopes x.rest)) else None) [
            | None ↦ ends xs s ts
            | Some read ↦ and_then read (λ x. turns trees n x.tree x.scopes x.rest)
          ])
      by_test again false r = refl
      by_test again true (Err e) = refl
      by_test again true (Ok x) = rw (sym (tape_more xs x.tree)) (again (xs ++ x.tree ∷ []) x.scopes x.rest)

  -- all items of a unit
  taped_run : (s : HeldScopes) (ts : List Lexeme) → tapes_at depth room s ts ≡ taped (items_with (knot depth) room s ts)
  unfolding tapes_at items_with repeated run
  taped_run s ts = taped_turns (suc (length ts)) [] s ts

taped_alone : (wide : Bool) (items : List Item) (rest : List Lexeme)
    → tape_alone wide (tape_of items) rest ≡ taped (alone wide items rest)
taped_alone wide items [] = refl
taped_alone wide items (t ∷ ts) = refl

-- a unit that is read
pub taped_unit : (wide : Bool) (all : List Lexeme) → tape_at wide all ≡ taped (unit_at wide all)
unfolding tape_at unit_at and_then
taped_unit wide all =
    rw (taped_run most (most - 1) (file_scope wide) all)
    (by_items (items_with (knot most) (most - 1) (file_scope wide) all))
  where
    by_end : (x : Found (List Item)) (last : Read ℕ) →
        and_then last (λ last. tape_alone wide (tape_of x.tree) last.rest)
        ≡ taped (and_then last (λ last. alone wide x.tree last.rest))
    by_end x (Err e) = refl
    by_end x (Ok last) = taped_alone wide x.tree last.rest

    by_items : (r : Read (List Item)) →
        and_then (taped r)
        (λ ops. and_then (token_at is_end ops.scopes ops.rest) (λ last. tape_alone wide ops.tree last.rest))
        ≡ taped (and_then r (λ items.
        and_then (token_at is_end items.scopes items.rest) (λ last. alone wide items.tree last.rest)))
    by_items (Err e) = refl
    by_items (Ok x) = by_end x (token_at is_end x.scopes x.rest)

-- where the tape of a whole unit was read, so were its trees
pub whole : (wide : Bool) (read : Read (List Item)) (ops : List Op) → taped read ≡ Ok (tape_found wide ops) →
    (items : List Item) × (read ≡ Ok (unit_found wide items)) × (ops ≡ tape_of items)
whole wide (Err e) ops is = absurd cc
whole wide (Ok x) ops is =
    let same : ◌≡◌ {A = Found (List Op)} (record { tree = tape_of x.tree; scopes = x.scopes; rest = x.rest })
    (tape_found wide ops) = cc in (
      x.tree,
      ap (λ (z : Found (List Op)). let f : Found (List Item) =
          record { tree = x.tree; scopes = z.scopes; rest = z.rest } in let r : Read (List Item) = Ok f in r) same,
      sym (ap (λ (z : Found (List Op)). z.tree) same),
    )

-- and where it was refused, so were they
pub refused_alike : (read : Read (List Item)) (e : Refusal) → taped read ≡ Err e → read ≡ Err e
refused_alike (Err f) e is = cc
refused_alike (Ok x) e is = absurd cc

-- an error of the reader of tapes is one of the reader of trees
pub fails_alike : (wide : Bool) (error : ReadError) (all : List Lexeme) → Fails error (tape_at wide all)
    → Fails error (unit_at wide all)
fails_alike wide (errors.Fault fault token) all is =
    refused_alike (unit_at wide all) (fault, token) (sym (taped_unit wide all) ∙ is)
fails_alike wide errors.NoMemory all is = tt
