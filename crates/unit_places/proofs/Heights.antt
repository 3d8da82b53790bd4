-- The laws of the place at the top: over the readers of all numbers, and over what more room does.
use Rattle.std.proofs.Common.{◌≡◌, ℕ, suc, ◌≤◌, Bool, false, List, [], ◌++◌, take, inl, inr, Ok, Err, refl, sym, ◌∙◌, arith}
use Rattle.std.specs.Prelude.{◌+◌, ◌-◌, max}
use Rattle.c_words.specs.declared.kinds.TokenKind.{TokenKind}
use Rattle.c_tree.specs.declared.lexeme.Lexeme.{Lexeme}
use Rattle.c_tree.specs.Unit.{Item, unit_height}
use Rattle.c_specs.specs.Laws.{WholeAreMixes, MixesGoOn}
use Rattle.c_units.specs.HeldScopes.{file_scope}
use Rattle.c_units.specs.Units.{numbered}
use Rattle.c_reading.specs.declared.kinds.FaultKind.{FaultKind}
use Rattle.c_reading.specs.declared.kinds.FaultKind.TheVariants.{Unexpected}
use Rattle.c_reading.specs.Reading.{Refusal, Found, Read}
use Rattle.c_reading.specs.Tokens.{is_end}
use Rattle.c_reading.specs.Items.{items_with}
use Rattle.c_reading.specs.Knot.{knot, most, unit_at}
use Rattle.c_reading.specs.UnitLaws.{UnitIsWellFormed, WellFormedIsRead}
use Rattle.c_reading.proofs.Binding.{found, done}
use Rattle.c_reading.proofs.KnotLaws.{knot_laws}
use Rattle.refusal_rules.specs.Laws.{FirstBadIsAllowed}
use Rattle.room_laws.specs.Rooms.{More, unit_of, MoreRoomIsMore, AnyHeightIsRead}
use Rattle.reading_steps.specs.Steps.{any, Law}
use Rattle.stmt_places.proofs.Items.{items_law}
use Rattle.unit_places.specs.Laws.{IsEnded, Refuses, PlaceIsFirst, HeightAlone, SyntaxIsAllowed}
use Rattle.unit_places.proofs.Place.{are_numbered, Placed, placed}
use Rattle.unit_places.proofs.Knot.{knot_places}

abbrev refused : Refusal → Read (List Item)
refused d = Err d

not_both : (r : Read (List Item)) (e : Refusal) (x : Found (List Item)) → r ≡ Err e → r ≡ done x → ⊥
not_both r e x is also = absurd cc

-- the reader of units is that with a room of 500
pub unit_is : (wide : Bool) (all : List Lexeme) → unit_of most wide all ≡ unit_at wide all
unfolding unit_at
unit_is wide all = refl

module _ (formed : UnitIsWellFormed) (read_back : WellFormedIsRead) (whole_are : WholeAreMixes) (goes : MixesGoOn) where
  -- units of any height up to one
  pub items_of : (room : ℕ) → 5 ≤ room → Law false (items_with (knot room) (room - 1)) any is_end
  items_of room five =
      items_law (suc room) (knot room) (knot_laws whole_are goes room) (knot_places whole_are goes room) (room - 1)
      (omega (arith, five)) (omega (arith, five))

  the_items : Law false (items_with (knot most) (most - 1)) any is_end
  the_items =
      items_law 501 (knot most) (knot_laws whole_are goes most) (knot_places whole_are goes most) (most - 1)
      (omega arith) (omega arith)

  -- what the reader of units refuses
  refused_at : (wide : Bool) (tokens : List TokenKind) (fault : FaultKind) (at : ℕ) → IsEnded tokens
      → Refuses wide tokens fault at → Placed wide most tokens fault at
  refused_at wide tokens fault at ended e =
      placed wide most the_items tokens fault at ended (unit_is wide (numbered tokens) ∙ e)

  pub place_is_first : PlaceIsFirst
  place_is_first wide tokens fault at ended e =
      let p = refused_at wide tokens fault at ended e in
      record {
        there = p.there;
        before = let g = p.begun in
            record {
              behind = g.0;
              items = g.1.tree;
              formed = formed wide (numbered (take at tokens ++ g.0)) (are_numbered (take at tokens ++ g.0)) g.1
                  (sym (unit_is wide (numbered (take at tokens ++ g.0))) ∙ g.2);
            };
        none = λ u.
            let a = p.alike u.behind in
            not_both (unit_at wide (numbered (take (at + 1) tokens ++ u.behind))) (fault, a.0)
            (found u.items (file_scope wide) [])
            (sym (unit_is wide (numbered (take (at + 1) tokens ++ u.behind))) ∙ a.1)
            (read_back wide (numbered (take (at + 1) tokens ++ u.behind))
            (are_numbered (take (at + 1) tokens ++ u.behind)) u.items u.formed);
      }

  -- With more room the same token is refused with the same fault, and a unit of any height would be read with room for
  -- it.
  pub height_alone : AnyHeightIsRead → MoreRoomIsMore → HeightAlone
  height_alone any_height more wide tokens fault at ended e other u =
      let a = (refused_at wide tokens fault at ended e).alike u.behind in
      by_more a.0 a.1 (more most height (omega arith) (omega arith) wide all)
    where
      all : List Lexeme
      all = numbered (take (at + 1) tokens ++ u.behind)

      height : ℕ
      height = max most (unit_height u.items)

      read : unit_of height wide all ≡ done (found u.items (file_scope wide) [])
      read = any_height wide all (are_numbered (take (at + 1) tokens ++ u.behind)) height u.items
          (omega arith) u.formed (omega arith)

      by_result : (n : ℕ) (r : Read (List Item)) → r ≡ refused (fault, n) → More r (unit_of height wide all) → ⊥
      by_result n (Ok x) is m = absurd cc
      by_result n (Err d) is (inl deep) = other (sym (fault_is d (fault, n) is) ∙ deep)
        where
          fault_is : (a b : Refusal) → refused a ≡ refused b → a.0 ≡ b.0
          fault_is a b e = cc
      by_result n (Err d) is (inr same) =
          not_both (unit_of height wide all) d (found u.items (file_scope wide) []) same read

      by_more : (n : ℕ) → unit_of most wide all ≡ refused (fault, n)
          → More (unit_of most wide all) (unit_of height wide all) → ⊥
      by_more n is m = by_result n (unit_of most wide all) is m

-- the law: a refusal because no form of the grammar goes on so is allowed for its syntax
pub syntax_is_allowed : PlaceIsFirst → HeightAlone → FirstBadIsAllowed → SyntaxIsAllowed
syntax_is_allowed first alone allowed wide tokens at ended e =
    allowed wide tokens at (first wide tokens Unexpected at ended e)
    (alone wide tokens Unexpected at ended e (λ same. absurd cc))
