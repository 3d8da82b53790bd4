-- Tapes that change no stack and find no fault, and parts of tapes that are said in two ways.
use Rattle.std.proofs.Common.{◌≡◌, ℕ, suc, Bool, true, false, List, [], ◌∷◌, ◌++◌, Option, None, Some, refl, ap, arith}
use Rattle.std.specs.Prelude.{if◌then◌else◌}
use Rattle.qual_base.proofs.Tests.{and_second, and_first}
use Rattle.c_syntax.specs.declared.parts.Identifier.{Identifier}
use Rattle.c_syntax.specs.declared.parts.Qual.{Qual}
use Rattle.c_syntax.specs.declared.parts.PointerWord.{PointerWord}
use Rattle.c_syntax.specs.declared.parts.PointerWord.TheVariants as pointer_words
use Rattle.c_syntax.specs.declared.parts.ArrayWord.{ArrayWord}
use Rattle.c_syntax.specs.declared.parts.ArrayWord.TheVariants as array_words
use Rattle.tape_ops.specs.declared.op.Op.{Op}
use Rattle.tape_ops.specs.declared.specifier.TagKind.{TagKind}
use Rattle.c_tree.specs.Tree.{Exprs, no_exprs, more_exprs, SpecWords, no_words, more_words, SpecWord, storage, thread, inline_word, noreturn, qualifier, basic, struct_type, enum_type, typedef_name, attribute, Declr, pointer, declr_name, declr_paren, array, params, abs_pointer, abs_paren, abs_array, abs_params, SomeDeclr, no_declr, some_declr, Params, no_params, more_params, Dots, identifiers, base_name, typeof_value, typeof_type, align, auto_word}
use Rattle.c_tape.specs.Tests.{is_bare_word, is_bare, says_none}
use Rattle.c_tape.specs.Tape.{pointer_words_tape, pointer_word_tape, array_words_tape, array_word_tape, quals_tape, dots_tape, pieces, some_pieces, unnamed_tape, unnamed_word_tape, identifiers_tape, arguments, tag_tape, body_tape}
use Rattle.c_tape.specs.Tape as tapes
use Rattle.name_rules.specs.Faults.{Fault}
use Rattle.type_rules.specs.Judging.{words_faults, word_faults, params_faults}
use Rattle.type_rules.specs.Judging as rules
use Rattle.name_rules.specs.ShapeSteps.State.{State}
use Rattle.resolve_laws.proofs.ShapeLaws.Goes.{Over, total, total_append, Goes, as_is, nowhere, one, join, same}

abbrev pub Idle : Over → List Op → Type 0
Idle k tape = Goes k tape as_is as_is []

module _ (k : Over) where
  pub both : {xs ys : List Op} → Idle k xs → Idle k ys → Idle k (xs ++ ys)
  both p q = same (join p q) refl

  pub either : {xs ys : List Op} {f g : State → State} {fs : List Fault} (b : Bool) → (b ≡ true → Goes k xs f g fs) →
      (b ≡ false → Goes k ys f g fs) → Goes k (if b then xs else ys) f g fs
  either true p q = p refl
  either false p q = q refl

  -- qualifiers

  quals_idle : (qs : List Qual) → Idle k (quals_tape qs)
  quals_idle [] = nowhere
  quals_idle (q ∷ qs) = both (one [] (λ st. refl)) (quals_idle qs)

  pointer_words_idle : (words : List PointerWord) → Idle k (pointer_words_tape words)
  pointer_words_idle [] = nowhere
  pointer_words_idle (pointer_words.Qual q ∷ words) = both (one [] (λ st. refl)) (pointer_words_idle words)
  pointer_words_idle (pointer_words.Attr attr ∷ words) = both nowhere (pointer_words_idle words)

  array_words_idle : (words : List ArrayWord) → Idle k (array_words_tape words)
  array_words_idle [] = nowhere
  array_words_idle (array_words.Static token ∷ words) = both nowhere (array_words_idle words)
  array_words_idle (array_words.Qual q ∷ words) = both (one [] (λ st. refl)) (array_words_idle words)

  dots_idle : (dots : Option Dots) → Idle k (dots_tape dots)
  dots_idle None = nowhere
  dots_idle (Some dots) = quals_idle dots.quals

  -- what the types of declarators are made of

  mutual
    pub pieces_idle : (d : Declr) → Idle k (pieces d)
    pieces_idle (pointer star words d) = both (both (pointer_words_idle words) (one [] (λ st. refl))) (pieces_idle d)
    pieces_idle (declr_name token name) = nowhere
    pieces_idle (declr_paren opening attrs d closing) = pieces_idle d
    pieces_idle (array d opening words size closing) =
        both (both (array_words_idle words) (one [] (λ st. refl))) (pieces_idle d)
    pieces_idle (params d opening ps dots closing) = both (both (dots_idle dots) (one [] (λ st. refl))) (pieces_idle d)
    pieces_idle (abs_pointer star words d) =
        both (both (pointer_words_idle words) (one [] (λ st. refl))) (some_pieces_idle d)
    pieces_idle (abs_paren opening attrs d closing) = pieces_idle d
    pieces_idle (abs_array d opening words size closing) =
        both (both (array_words_idle words) (one [] (λ st. refl))) (some_pieces_idle d)
    pieces_idle (abs_params d opening ps dots closing) =
        both (both (dots_idle dots) (one [] (λ st. refl))) (some_pieces_idle d)
    pieces_idle (identifiers d opening names closing) = both (one [] (λ st. refl)) (pieces_idle d)
    pieces_idle (base_name token) = nowhere

    pub some_pieces_idle : (d : SomeDeclr) → Idle k (some_pieces d)
    some_pieces_idle no_declr = nowhere
    some_pieces_idle (some_declr d) = pieces_idle d

  -- tags and members without a declarator

  unnamed_word_idle : (word : SpecWord) → Idle k (unnamed_word_tape word)
  unnamed_word_idle (storage word) = nowhere
  unnamed_word_idle (thread token) = nowhere
  unnamed_word_idle (inline_word token) = nowhere
  unnamed_word_idle (noreturn token) = nowhere
  unnamed_word_idle (qualifier q) = nowhere
  unnamed_word_idle (basic word) = nowhere
  unnamed_word_idle (struct_type word attrs None body) = one [] (λ st. refl)
  unnamed_word_idle (struct_type word attrs (Some tag) body) = nowhere
  unnamed_word_idle (enum_type e) = nowhere
  unnamed_word_idle (typedef_name name) = nowhere
  unnamed_word_idle (attribute attr) = nowhere
  unnamed_word_idle (typeof_value keyword opening e closing) = nowhere
  unnamed_word_idle (typeof_type word opening ws d closing) = nowhere
  unnamed_word_idle (align attr) = nowhere
  unnamed_word_idle (auto_word token) = nowhere

  pub unnamed_idle : (ws : SpecWords) → Idle k (unnamed_tape ws)
  unnamed_idle no_words = nowhere
  unnamed_idle (more_words word ws) = both (unnamed_word_idle word) (unnamed_idle ws)

  pub identifiers_idle : (names : List Identifier) → Idle k (identifiers_tape names)
  identifiers_idle [] = nowhere
  identifiers_idle (name ∷ names) = both (one [] (λ st. refl)) (identifiers_idle names)

  pub tag_idle : (alone : Bool) (kind : TagKind) (tag : Option Identifier) → Idle k (tag_tape alone kind tag)
  tag_idle alone kind None = nowhere
  tag_idle true kind (Some tag) = one [] (λ st. refl)
  tag_idle false kind (Some tag) = one [] (λ st. refl)

  pub body_idle : (kind : TagKind) (keyword : ℕ) (tag : Option Identifier) → Idle k (body_tape kind keyword tag)
  body_idle kind keyword None = one [] (λ st. refl)
  body_idle kind keyword (Some tag) = one [] (λ st. refl)

  -- arguments, behind their values

  pub arguments_idle : (es : Exprs) → Idle k (arguments es)
  arguments_idle no_exprs = nowhere
  arguments_idle (more_exprs e es) = both (one [] (λ st. refl)) (arguments_idle es)

-- tokens and counts

pub same_count : (es : Exprs) → tapes.count es ≡ rules.count es
same_count no_exprs = refl
same_count (more_exprs e es) = ap suc (same_count es)

-- a list of parameters that says that there are none has no fault

module _ (k : Over) where
  bare_word : (word : SpecWord) → is_bare_word word ≡ true → total k.weight (word_faults k.spelling k.names word) ≡ 0
  bare_word (storage word) e = refl
  bare_word (thread token) e = refl
  bare_word (inline_word token) e = refl
  bare_word (noreturn token) e = refl
  bare_word (qualifier q) e = refl
  bare_word (basic word) e = refl
  bare_word (struct_type word attrs tag body) e = absurd cc
  bare_word (enum_type it) e = absurd cc
  bare_word (typedef_name name) e = refl
  bare_word (attribute attr) e = refl
  bare_word (typeof_value keyword opening it closing) e = absurd cc
  bare_word (typeof_type word opening ws d closing) e = absurd cc
  bare_word (align attr) e = refl
  bare_word (auto_word token) e = absurd cc

  bare_words : (ws : SpecWords) → is_bare ws ≡ true → total k.weight (words_faults k.spelling k.names ws) ≡ 0
  bare_words no_words e = refl
  bare_words (more_words word ws) e =
      let first = bare_word word (and_first (is_bare_word word) (is_bare ws) e) in let others =
      bare_words ws (and_second (is_bare_word word) (is_bare ws) e) in
      omega (arith, total_append k.weight)

  pub none_said : (ps : Params) → says_none ps ≡ true → total k.weight (params_faults k.spelling k.names ps) ≡ 0
  none_said no_params e = refl
  none_said (more_params ws no_declr attrs no_params) e = let words = bare_words ws e in
      omega (arith, total_append k.weight)
  none_said (more_params ws no_declr attrs (more_params ws2 d attrs2 ps)) e = absurd cc
  none_said (more_params ws (some_declr d) attrs ps) e = absurd cc
