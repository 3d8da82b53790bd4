-- What is said of each source of wider C, from its trees.
use Rattle.std.specs.Prelude.{take}
use Rattle.std.proofs.lemmas.Bool.{leb-true}
use Rattle.std.proofs.Common.{ℕ, true, false, List, refl}
use Rattle.c_words.specs.declared.kinds.TokenKind.{TokenKind}
use Rattle.c_specs.specs.Laws.{WholeAreMixes, MixesGoOn}
use Rattle.c_units.specs.FirstBad.{BeginsUnit}
use Rattle.refusal_rules.specs.Allowed.{Code, syntax, other_kind, no_mix, no_unary_left, MayBe}
use Rattle.refusal_rules.specs.Laws.{UnitsAreTrees, UnitsBeginAsTrees, NoneIsEarlier}
use Rattle.definition_examples.specs.RefusalExamples.Wider.{IsWideRefusedAt, WiderHold, identifiers_declared, two_autos, nothing_in_typeof, labels_behind_statement, goto_nothing, semicolon_among_parameters, typedef_as_identifier, range_without_end, two_designators, typeof_behind_int, int_behind_atomic, two_complexes, auto_named_as_enumerator, enumerator_named_as_parameter, begin_of_range_assigned, end_of_range_assigned, identifiers_in_narrow_c}
use Rattle.definition_examples.proofs.RefusalExamples.WiderTrees.{identifiers_declared_front, two_autos_front, nothing_in_typeof_front, labels_behind_statement_front, goto_nothing_front, semicolon_among_parameters_front, typedef_as_identifier_front, range_without_end_front, two_designators_front, typeof_behind_int_front, int_behind_atomic_front, two_complexes_front, auto_named_as_enumerator_front, enumerator_named_as_parameter_front, begin_of_range_assigned_front, end_of_range_assigned_front, identifiers_in_narrow_c_front, typeof_behind_int_bad, int_behind_atomic_bad, two_complexes_bad, auto_named_as_enumerator_bad, enumerator_named_as_parameter_bad, begin_of_range_assigned_bad, end_of_range_assigned_bad}

module _ (trees : UnitsBeginAsTrees) (none : NoneIsEarlier) where
  from : (tokens : List TokenKind) (at : ℕ) (code : Code) → BeginsUnit true (take at tokens) → MayBe true code tokens at
      → IsWideRefusedAt tokens at code
  from tokens at code unit may_be = record {
    unit = unit;
    tree = trees true (take at tokens) unit;
    may_be = may_be;
    earlier = λ n other allowed. none true tokens at n other unit allowed;
  }

-- each refused source of wider C is refused first at the token, and for the reason, that was worked out
pub wider_hold : WholeAreMixes → MixesGoOn → UnitsAreTrees → UnitsBeginAsTrees → NoneIsEarlier → WiderHold
wider_hold whole_are goes are trees none = (
  (
    from trees none identifiers_declared 5 syntax (identifiers_declared_front whole_are) tt,
    from trees none two_autos 10 syntax (two_autos_front whole_are) tt,
    from trees none nothing_in_typeof 2 syntax (nothing_in_typeof_front whole_are) tt,
    from trees none labels_behind_statement 7 syntax (labels_behind_statement_front whole_are) tt,
    from trees none goto_nothing 8 syntax (goto_nothing_front whole_are) tt,
    from trees none semicolon_among_parameters 8 syntax (semicolon_among_parameters_front whole_are) tt,
    from trees none typedef_as_identifier 9 syntax (typedef_as_identifier_front whole_are) tt,
    from trees none range_without_end 9 syntax (range_without_end_front whole_are) tt,
    from trees none two_designators 12 syntax (two_designators_front whole_are) tt,
  ),
  (
    from trees none typeof_behind_int 4 no_mix (typeof_behind_int_front whole_are)
        (typeof_behind_int_bad whole_are goes are),
    from trees none int_behind_atomic 4 no_mix (int_behind_atomic_front whole_are)
        (int_behind_atomic_bad whole_are goes are),
    from trees none two_complexes 2 no_mix (two_complexes_front whole_are) (two_complexes_bad whole_are goes are),
  ),
  (
    from trees none auto_named_as_enumerator 12 other_kind (auto_named_as_enumerator_front whole_are)
        (auto_named_as_enumerator_bad whole_are goes are),
    from trees none enumerator_named_as_parameter 10 other_kind (enumerator_named_as_parameter_front whole_are)
        (enumerator_named_as_parameter_bad whole_are goes are),
  ),
  (
    from trees none begin_of_range_assigned 13 no_unary_left (begin_of_range_assigned_front whole_are)
        (begin_of_range_assigned_bad whole_are goes are),
    from trees none end_of_range_assigned 15 no_unary_left (end_of_range_assigned_front whole_are)
        (end_of_range_assigned_bad whole_are goes are),
  ),
  (
    record {
      unit = identifiers_in_narrow_c_front whole_are;
      tree = trees false (take 3 identifiers_in_narrow_c) (identifiers_in_narrow_c_front whole_are);
      may_be = tt;
      earlier = λ n other allowed.
          none false identifiers_in_narrow_c 3 n other (identifiers_in_narrow_c_front whole_are) allowed;
    },
    (λ allowed.
        none true identifiers_declared 5 3 syntax (identifiers_declared_front whole_are) allowed (leb-true 4 5 refl)),
  ),
)
