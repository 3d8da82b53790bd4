-- Tapes that change no stack and give no constraint, and parts of tapes that are said in two ways.
use Rattle.std.proofs.Common.{◌≡◌, ℕ, Bool, true, false, List, [], ◌∷◌, ◌++◌, Option, None, Some, refl, ap, ◌∙◌}
use Rattle.std.specs.Prelude.{if◌then◌else◌}
use Rattle.qual_base.proofs.Tests.{and_second, and_first}
use Rattle.c_syntax.specs.declared.parts.Identifier.{Identifier}
use Rattle.c_syntax.specs.declared.parts.Qual.{Qual}
use Rattle.c_syntax.specs.declared.parts.Qual.TheVariants as quals
use Rattle.c_syntax.specs.declared.parts.PointerWord.{PointerWord}
use Rattle.c_syntax.specs.declared.parts.PointerWord.TheVariants as pointer_words
use Rattle.c_syntax.specs.declared.parts.ArrayWord.{ArrayWord}
use Rattle.c_syntax.specs.declared.parts.ArrayWord.TheVariants as array_words
use Rattle.tape_ops.specs.declared.op.Op.{Op}
use Rattle.tape_ops.specs.declared.specifier.TagKind.{TagKind}
use Rattle.c_tree.specs.Tree.{SpecWords, no_words, more_words, SpecWord, storage, thread, inline_word, noreturn, qualifier, basic, struct_type, enum_type, typedef_name, attribute, Declr, pointer, declr_name, declr_paren, array, params, abs_pointer, abs_paren, abs_array, abs_params, SomeDeclr, no_declr, some_declr, Params, no_params, more_params, Dots, typeof_value, typeof_type, align, auto_word, identifiers, base_name}
use Rattle.c_tape.specs.Tests.{is_bare_word, is_bare, says_none}
use Rattle.c_tape.specs.Tape.{pointer_words_tape, array_words_tape, quals_tape, dots_tape, pieces, some_pieces, tag_tape}
use Rattle.flow_graph.specs.declared.constraint.Constraint.{Constraint}
use Rattle.qual_types.specs.Skel.{Skel}
use Rattle.row_rules.specs.Worlds.{World}
use Rattle.row_rules.specs.RowSteps.Rounds.{Rounds}
use Rattle.constraint_rules.specs.Demands.{words_demand, word_demand, params_demand}
use Rattle.row_laws.proofs.Goes.{Over, Stacks, Goes, as_is, nowhere, one, join}

abbrev pub Idle : Over → Rounds → List Op → Type 0
Idle k r tape = Goes k r tape as_is as_is []

module _ (k : Over) (r : Rounds) where
  pub both : {xs ys : List Op} → Idle k r xs → Idle k r ys → Idle k r (xs ++ ys)
  both p q = join p q

  pub either : {xs ys : List Op} {f g : Stacks → Stacks} {rows : List Constraint} (b : Bool) →
      (b ≡ true → Goes k r xs f g rows) → (b ≡ false → Goes k r ys f g rows) →
      Goes k r (if b then xs else ys) f g rows
  either true p q = p refl
  either false p q = q refl

  -- qualifiers

  quals_idle : (qs : List Qual) → Idle k r (quals_tape qs)
  quals_idle [] = nowhere
  quals_idle (q ∷ qs) = both (one [] (λ y c s. refl) (λ c s. refl)) (quals_idle qs)

  pointer_words_idle : (words : List PointerWord) → Idle k r (pointer_words_tape words)
  pointer_words_idle [] = nowhere
  pointer_words_idle (pointer_words.Qual q ∷ words) =
      both (one [] (λ y c s. refl) (λ c s. refl)) (pointer_words_idle words)
  pointer_words_idle (pointer_words.Attr attr ∷ words) = both nowhere (pointer_words_idle words)

  array_words_idle : (words : List ArrayWord) → Idle k r (array_words_tape words)
  array_words_idle [] = nowhere
  array_words_idle (array_words.Static token ∷ words) = both nowhere (array_words_idle words)
  array_words_idle (array_words.Qual q ∷ words) = both (one [] (λ y c s. refl) (λ c s. refl)) (array_words_idle words)

  dots_idle : (dots : Option Dots) → Idle k r (dots_tape dots)
  dots_idle None = nowhere
  dots_idle (Some dots) = quals_idle dots.quals

  -- what the types of declarators are made of

  mutual
    pub pieces_idle : (d : Declr) → Idle k r (pieces d)
    pieces_idle (pointer star words d) =
        both (both (pointer_words_idle words) (one [] (λ y c s. refl) (λ c s. refl))) (pieces_idle d)
    pieces_idle (declr_name token name) = nowhere
    pieces_idle (declr_paren opening attrs d closing) = pieces_idle d
    pieces_idle (array d opening words size closing) =
        both (both (array_words_idle words) (one [] (λ y c s. refl) (λ c s. refl))) (pieces_idle d)
    pieces_idle (params d opening ps dots closing) =
        both (both (dots_idle dots) (one [] (λ y c s. refl) (λ c s. refl))) (pieces_idle d)
    pieces_idle (abs_pointer star words d) =
        both (both (pointer_words_idle words) (one [] (λ y c s. refl) (λ c s. refl))) (some_pieces_idle d)
    pieces_idle (abs_paren opening attrs d closing) = pieces_idle d
    pieces_idle (abs_array d opening words size closing) =
        both (both (array_words_idle words) (one [] (λ y c s. refl) (λ c s. refl))) (some_pieces_idle d)
    pieces_idle (abs_params d opening ps dots closing) =
        both (both (dots_idle dots) (one [] (λ y c s. refl) (λ c s. refl))) (some_pieces_idle d)
    pieces_idle (identifiers d opening names closing) = both (one [] (λ y c s. refl) (λ c s. refl)) (pieces_idle d)
    pieces_idle (base_name token) = nowhere

    pub some_pieces_idle : (d : SomeDeclr) → Idle k r (some_pieces d)
    some_pieces_idle no_declr = nowhere
    some_pieces_idle (some_declr d) = pieces_idle d

  -- tags

  pub tag_idle : (alone : Bool) (kind : TagKind) (tag : Option Identifier) → Idle k r (tag_tape alone kind tag)
  tag_idle alone kind None = nowhere
  tag_idle true kind (Some tag) = one [] (λ y c s. refl) (λ c s. refl)
  tag_idle false kind (Some tag) = one [] (λ y c s. refl) (λ c s. refl)

-- tokens

-- a list of parameters that says that there are none gives nothing

module _ (w : World) where
  bare_word : (word : SpecWord) → is_bare_word word ≡ true → word_demand w word ≡ []
  bare_word (storage word) e = refl
  bare_word (thread token) e = refl
  bare_word (inline_word token) e = refl
  bare_word (noreturn token) e = refl
  bare_word (qualifier q) e = refl
  bare_word (basic word) e = refl
  bare_word (struct_type word attrs tag body) e = absurd cc
  bare_word (enum_type it) e = refl
  bare_word (typedef_name name) e = refl
  bare_word (attribute attr) e = refl
  bare_word (typeof_value keyword opening it closing) e = refl
  bare_word (typeof_type word opening ws d closing) e = absurd cc
  bare_word (align attr) e = refl
  bare_word (auto_word token) e = refl

  bare_words : (ws : SpecWords) → is_bare ws ≡ true → words_demand w ws ≡ []
  bare_words no_words e = refl
  bare_words (more_words word ws) e =
      ap (λ (rows : List Constraint). rows ++ words_demand w ws)
      (bare_word word (and_first (is_bare_word word) (is_bare ws) e))
      ∙ bare_words ws (and_second (is_bare_word word) (is_bare ws) e)

  pub none_said : (own : Option Skel) (bare : Bool) (n : ℕ) (ps : Params) → says_none ps ≡ true →
      params_demand w own bare n ps ≡ []
  none_said own bare n no_params e = refl
  none_said own bare n (more_params ws no_declr attrs no_params) e =
      ap (λ (rows : List Constraint). rows ++ []) (bare_words ws e)
  none_said own bare n (more_params ws no_declr attrs (more_params ws2 d attrs2 ps)) e = absurd cc
  none_said own bare n (more_params ws (some_declr d) attrs ps) e = absurd cc
