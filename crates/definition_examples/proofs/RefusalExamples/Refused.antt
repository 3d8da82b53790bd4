-- What is said of each source, from its trees.
use Rattle.std.specs.Prelude.{◌++◌, take, None, Some}
use Rattle.std.proofs.lemmas.Bool.{leb-true}
use Rattle.std.proofs.lemmas.List.Elements.{All-nil, All-cons}
use Rattle.std.proofs.Common.{◌≡◌, ◌≤◌, ◌<◌, ℕ, zero, suc, true, false, List, [], ◌∷◌, arith, refl}
use Rattle.c_words.specs.declared.kinds.TokenKind.{TokenKind}
use Rattle.c_words.specs.declared.kinds.TokenKind.TheVariants as kinds
use Rattle.c_words.specs.declared.kinds.Keyword.TheVariants as words
use Rattle.c_tree.specs.declared.lexeme.Lexeme.{Lexeme}
use Rattle.c_tree.specs.Tree.{Declr, pointer, declr_name, params, no_params, basic, more_words, no_words, no_init, no_init_declrs, more_init_declrs, declaration, decl_declaration}
use Rattle.c_tree.specs.Unit.{Item, decl_item}
use Rattle.c_tree.specs.WellFormed.{is_named}
use Rattle.c_specs.specs.Laws.{WholeAreMixes, MixesGoOn}
use Rattle.c_units.specs.Units.{numbered}
use Rattle.c_units.specs.FirstBad.{BeginsUnit}
use Rattle.refusal_rules.specs.Grammar.{DerivesItem, DerivesDeclr}
use Rattle.refusal_rules.specs.Allowed.{Code, syntax, too_deep, other_kind, no_mix, no_unary_left, MayBe, IsAllowed}
use Rattle.refusal_rules.specs.Laws.{UnitsAreTrees, UnitsBeginAsTrees, UnitsBeginAtAnyHeight, NoneIsEarlier}
use Rattle.definition_examples.specs.RefusalExamples.Refusals.{IsRefusedAt, RefusalsHold, many_pointers, float_behind_long, int_behind_typedef_name, object_named_as_typedef, enumerator_named_as_typedef, object_named_as_enumerator, sum_assigned, conditional_assigned, cast_assigned, held_name_enumerated, cast_incremented, sizeof_type_indexed, words_without_type, function_behind_comma, function_of_typedef, declaration_in_if, dots_behind_attribute, attribute_without_parameter, label_behind_attribute, extension_behind_attribute, declaration_behind_label, typedef_hidden_in_its_enum}
use Rattle.definition_examples.proofs.RefusalExamples.NoUnit.{no_unit}
use Rattle.definition_examples.proofs.RefusalExamples.Trees.{float_behind_long_front, int_behind_typedef_name_front, object_named_as_typedef_front, enumerator_named_as_typedef_front, object_named_as_enumerator_front, sum_assigned_front, conditional_assigned_front, cast_assigned_front, held_name_enumerated_front, cast_incremented_front, sizeof_type_indexed_front, words_without_type_front, function_behind_comma_front, function_of_typedef_front, declaration_in_if_front, dots_behind_attribute_front, attribute_without_parameter_front, label_behind_attribute_front, extension_behind_attribute_front, declaration_behind_label_front, typedef_hidden_in_its_enum_front, object_named_as_typedef_bad, enumerator_named_as_typedef_bad, object_named_as_enumerator_bad, float_behind_long_bad, int_behind_typedef_name_bad, sum_assigned_bad, conditional_assigned_bad, cast_assigned_bad}

-- so many pointers before a declarator, from a token on
pointers : ℕ → ℕ → Declr → Declr
pointers zero at d = d
pointers (suc n) at d = pointer at [] (pointers n (suc at) d)

-- a declarator with a name, and pointers before it
pointers_derive : (all : List Lexeme) (n at : ℕ) (d : Declr) → DerivesDeclr all d → is_named d ≡ true
    → DerivesDeclr all (pointers n at d) × (is_named (pointers n at d) ≡ true)
unfolding pointers
pointers_derive all zero at d h is = (h, is)
pointers_derive all (suc n) at d h is =
    let below = pointers_derive all n (suc at) d h is in ((All-nil _, below.0, below.1), refl)

-- the declaration of a declarator as an int
int_item : Declr → ℕ → Item
int_item d semi =
    decl_item
    (decl_declaration (declaration [] (more_words (basic (record { token = 0; keyword = words.Int })) no_words)
    (more_init_declrs [] d None [] no_init no_init_declrs) semi))

int_item_derives : (all : List Lexeme) (d : Declr) (semi : ℕ) → DerivesDeclr all d → is_named d ≡ true →
    DerivesItem all (int_item d semi)
unfolding int_item
int_item_derives all d semi h named =
    ((λ is. absurd cc), (refl, tt), refl, (All-nil _, h, named, tt, All-nil _, tt, tt), tt)

many_pointers_deep : MayBe false too_deep many_pointers 500
unfolding pointers int_item
many_pointers_deep =
    let d : Declr = params (declr_name 497 0) 498 no_params None 499 in
    let all : List Lexeme = numbered (take 501 many_pointers ++ kinds.End ∷ []) in
    let h = pointers_derive all 496 1 d (tt, refl, refl, tt, tt) refl in
    let item : Item = int_item (pointers 496 1 d) 500 in (
      leb-true 50 500 refl,
      (
        item ∷ [],
        record {
          behind = kinds.End ∷ [];
          spelled = record { last = 501; spelled = refl };
          derived = All-cons (DerivesItem all) item [] (int_item_derives all (pointers 496 1 d) 500 h.0 h.1)
              (All-nil (DerivesItem all));
        },
      ),
    )

some_is : {x y : TokenKind} → Some x ≡ Some y → x ≡ y
some_is e = cc

module _ (trees : UnitsBeginAsTrees) (none : NoneIsEarlier) where
  from : (tokens : List TokenKind) (at : ℕ) (code : Code) → BeginsUnit false (take at tokens)
      → MayBe false code tokens at
      → IsRefusedAt tokens at code
  from tokens at code unit may_be = record {
    unit = unit;
    tree = trees false (take at tokens) unit;
    may_be = may_be;
    earlier = λ n other allowed. none false tokens at n other unit allowed;
  }

  -- where a unit begins with the tokens up to one, this one is not refused
  goes_on : (tokens : List TokenKind) (first at : ℕ) (code : Code) → BeginsUnit false (take first tokens) → at < first
      → ¬ IsAllowed false tokens at code
  goes_on tokens first at code unit less allowed = none false tokens first at code unit allowed less

-- each refused source is refused first at the token, and for the reason, that was worked out
pub refusals_hold : WholeAreMixes → MixesGoOn → UnitsAreTrees → UnitsBeginAsTrees → UnitsBeginAtAnyHeight
    → NoneIsEarlier → RefusalsHold
refusals_hold whole_are goes are trees heights none = (
  (
    from trees none float_behind_long 1 no_mix (float_behind_long_front whole_are)
        (float_behind_long_bad whole_are goes are),
    from trees none int_behind_typedef_name 11 no_mix (int_behind_typedef_name_front whole_are)
        (int_behind_typedef_name_bad whole_are goes are),
  ),
  (
    from trees none object_named_as_typedef 5 other_kind (object_named_as_typedef_front whole_are)
        (object_named_as_typedef_bad whole_are goes are),
    from trees none enumerator_named_as_typedef 6 other_kind (enumerator_named_as_typedef_front whole_are)
        (enumerator_named_as_typedef_bad whole_are goes are),
    from trees none object_named_as_enumerator 11 other_kind (object_named_as_enumerator_front whole_are)
        (object_named_as_enumerator_bad whole_are goes are),
  ),
  (
    from trees none sum_assigned 12 no_unary_left (sum_assigned_front whole_are) (sum_assigned_bad whole_are goes are),
    from trees none conditional_assigned 8 no_unary_left (conditional_assigned_front whole_are)
        (conditional_assigned_bad whole_are goes are),
    from trees none cast_assigned 13 no_unary_left (cast_assigned_front whole_are)
        (cast_assigned_bad whole_are goes are),
  ),
  (
    from trees none held_name_enumerated 7 syntax (held_name_enumerated_front whole_are) tt,
    from trees none cast_incremented 7 syntax (cast_incremented_front whole_are) tt,
    from trees none sizeof_type_indexed 7 syntax (sizeof_type_indexed_front whole_are) tt,
    from trees none words_without_type 7 syntax (words_without_type_front whole_are) tt,
    from trees none dots_behind_attribute 11 syntax (dots_behind_attribute_front whole_are) tt,
    from trees none attribute_without_parameter 11 syntax (attribute_without_parameter_front whole_are) tt,
    from trees none function_behind_comma 6 syntax (function_behind_comma_front whole_are) tt,
    from trees none function_of_typedef 6 syntax (function_of_typedef_front whole_are) tt,
    from trees none label_behind_attribute 10 syntax (label_behind_attribute_front whole_are) tt,
    from trees none declaration_in_if 15 syntax (declaration_in_if_front whole_are) tt,
    from trees none typedef_hidden_in_its_enum 26 syntax (typedef_hidden_in_its_enum_front whole_are) tt,
    from trees none extension_behind_attribute 12 syntax (extension_behind_attribute_front whole_are) tt,
    from trees none declaration_behind_label 14 syntax (declaration_behind_label_front whole_are) tt,
  ),
  many_pointers_deep,
  (
    (λ allowed. let e : kinds.Name 0 ≡ kinds.Keyword allowed.may_be.keyword = some_is allowed.may_be.is in absurd cc),
    (λ allowed. let e : kinds.Name 0 ≡ kinds.Punct allowed.may_be.sign = some_is allowed.may_be.is in absurd cc),
    (λ allowed. let h : 50 ≤ 7 = allowed.may_be.0 in absurd (omega arith)),
    goes_on trees none held_name_enumerated 7 1 other_kind (held_name_enumerated_front whole_are) (leb-true 2 7 refl),
    goes_on trees none declaration_in_if 15 14 syntax (declaration_in_if_front whole_are) (leb-true 15 15 refl),
    goes_on trees none sum_assigned 12 10 no_unary_left (sum_assigned_front whole_are) (leb-true 11 12 refl),
    (λ allowed. let e : kinds.Keyword words.Float ≡ kinds.Punct allowed.may_be.sign =
        some_is allowed.may_be.is in absurd cc),
  ),
  record {
    there = leb-true 2 5 refl;
    none = λ begun. no_unit whole_are goes (heights false _ begun);
    before = trees false _ (float_behind_long_front whole_are);
    height = no_unit whole_are goes;
    may_be = float_behind_long_bad whole_are goes are;
  },
)
