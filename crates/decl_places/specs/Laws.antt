-- Words with which a mix begins and which are no whole type yet are one with a word more: `int`, or `double` behind
-- `long _Complex`.
use Rattle.std.specs.Prelude.{◌≡◌, ℕ, suc, true, false, is_some}
use Rattle.c_words.specs.declared.kinds.Keyword.{Keyword}
use Rattle.c_tree.specs.Tree.{SpecWords, basic}
use Rattle.c_specs.specs.Mix.{mix_of, is_whole_mix}
use Rattle.c_specs.specs.Reading.{pushed}
use Rattle.c_reading.specs.Tokens.{word_of}
use Rattle.c_reading.specs.Specifying.{specs_with}
use Rattle.c_reading.specs.Declaring.{declr_with, type_name_with}
use Rattle.c_reading.specs.Knot.{knot}
use Rattle.reading_steps.specs.InnerLaws.{InnerLaws, SpecsPlaces, DeclrPlaces, TypeNamePlaces}

-- words with which a mix begins and which are no whole type yet are one with a word more
abbrev pub WordsAreCompleted : Type 0
WordsAreCompleted =
    (ws : SpecWords) → is_some (mix_of ws) ≡ true → is_whole_mix ws ≡ false
    → (keyword : Keyword) × ((token : ℕ) → is_whole_mix (pushed ws (basic (word_of keyword token))) ≡ true)

-- what each reader inside owes, the reader of specifiers over them owes too
abbrev pub SpecsArePlaced : Type 0
SpecsArePlaced = (n : ℕ) → InnerLaws (suc n) (knot n) → SpecsPlaces (suc (suc n)) (specs_with (knot n))

-- what each reader inside owes, the reader of declarators over them owes too
abbrev pub DeclrsArePlaced : Type 0
DeclrsArePlaced = (n : ℕ) → InnerLaws (suc n) (knot n) → DeclrPlaces (suc (suc n)) (declr_with (knot n))

-- what each reader inside owes, the reader of names of types over them owes too
abbrev pub TypeNamesArePlaced : Type 0
TypeNamesArePlaced = (n : ℕ) → InnerLaws (suc n) (knot n) → TypeNamePlaces (suc (suc n)) (type_name_with (knot n))
