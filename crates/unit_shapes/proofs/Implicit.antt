-- The types that no declaration writes, while their table grows.
use Rattle.std.proofs.Common.{◌≡◌, ℕ, ◌<◌, inl, inr, sym, arith, true, List, [], map, length, refl, ◌∙◌, ap}
use Rattle.type_table.specs.declared.row.TypeRow.{TypeRow}
use Rattle.type_table.specs.Types.{Words, CType, base, void, pointer}
use Rattle.type_table.specs.Rows.{type_of}
use Rattle.name_rules.specs.Pieces.{with_words, piece_of, to_function, types_in}
use Rattle.name_rules.specs.NameSteps.Steps.{ellipsis_where}
use Rattle.name_state.specs.NameTypes.Known.{Knows, Is, Grows}
use Rattle.std.proofs.lemmas.Bool.{cases_lt}
use Rattle.name_state.proofs.NameTypes.Bare.{past_is}
use Rattle.name_rules.specs.Uses.{text_type}
use Rattle.name_rules.specs.Values.{undeclared_function}
use Rattle.unit_shapes.specs.declared.uses.ImplicitTypes.{ImplicitTypes}
use Rattle.unit_shapes.specs.Views.{AreImplicit}

-- types that a table knows are known by each table that it grew from
knows_before : (old new : List TypeRow) (t : ℕ → CType) → Grows old new → Knows t new → Knows t old
knows_before old new t grown knows n lt =
    let longer = grown.longer in
    let within : n < length new = omega arith in
    knows n within ∙ grown.keeps n lt

-- a base type, a `void`, a text and a function type, each pushed to a table that grew, are the implicit types of the
-- last table
pub implicit : (first second third fourth : List TypeRow) (number nothing text function : ℕ)
    (ws vs us : Words) (ps : List ℕ)
    → Grows first second → Grows second third → Grows third fourth → ws ≡ [] → vs ≡ [] → us ≡ [] → ps ≡ []
    → number < length first → Is first number (λ t. base []) → Is second nothing (λ t. with_words ws (void []))
    → Is third text (λ t. pointer vs (t number))
    → Is fourth function (λ t. piece_of (to_function (types_in (map t ps)) (ellipsis_where true us)) (t number))
    → AreImplicit fourth
    (record { plain = record { base = number; void = nothing; text = text }; function = function })
implicit first second third fourth number nothing text function ws vs us ps g h i w v u p number_low number_is
    nothing_is text_is function_is =
    let t : ℕ → CType = type_of fourth in
    let in_fourth : Knows t fourth = λ n lt. refl in
    let in_third : Knows t third = knows_before third fourth t i in_fourth in
    let in_second : Knows t second = knows_before second third t h in_third in
    let a_number = number_is t (knows_before first second t g in_second) in
    record {
      plain = record {
        base = a_number;
        void = nothing_is t in_second ∙ ap (λ (ws : Words). with_words ws (void [])) w;
        text = text_is t in_third ∙ ap (λ (ws : Words). pointer ws (t number)) v ∙ ap (pointer []) a_number;
      };
      function =
          function_is t in_fourth
          ∙ ap (λ (ps : List ℕ). piece_of (to_function (types_in (map t ps)) (ellipsis_where true us)) (t number)) p
          ∙ ap (λ (us : Words). piece_of (to_function (types_in []) (ellipsis_where true us)) (t number)) u
          ∙ ap (λ (x : CType). piece_of (to_function (types_in []) (ellipsis_where true [])) x) a_number;
      low = let l = g.longer in let m = h.longer in let n = i.longer in omega arith;
    }

-- a type other than the base type that a number has stays its type while the table grows
kept : (old new : List TypeRow) (n : ℕ) (t : CType) → Grows old new → type_of old n ≡ t → (t ≡ base [] → ⊥)
    → type_of new n ≡ t
kept old new n t grows is other = elim (cases_lt n (length old)) [
  | inl lt ↦ grows.keeps n lt ∙ is
  | inr past ↦ absurd (other (sym is ∙ past_is old n past))
]

-- they stay while their table grows
pub implicit_grows : (old new : List TypeRow) (it : ImplicitTypes) → Grows old new → AreImplicit old it
    → AreImplicit new it
implicit_grows old new it grows h = record {
  plain = record {
    base = grows.keeps it.plain.base h.low ∙ h.plain.base;
    void = kept old new it.plain.void (void []) grows h.plain.void (λ e. absurd cc);
    text = kept old new it.plain.text text_type grows h.plain.text (λ e. absurd cc);
  };
  function = kept old new it.function undeclared_function grows h.function (λ e. absurd cc);
  low = let l = grows.longer in let m = h.low in omega arith;
}
