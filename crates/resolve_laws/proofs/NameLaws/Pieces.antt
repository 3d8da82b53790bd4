-- Annotation words, and what declarators make of a type.
use Rattle.std.proofs.Common.{◌≡◌, ℕ, Bool, true, false, List, [], ◌∷◌, ◌++◌, Option, None, Some, refl, sym, ◌∙◌, ap, subst, append_assoc}
use Rattle.std.proofs.lemmas.List.{append-nil}
use Rattle.c_words.specs.declared.kinds.Keyword.{Keyword}
use Rattle.c_syntax.specs.declared.parts.Qual.{Qual}
use Rattle.c_syntax.specs.declared.parts.PointerWord.{PointerWord}
use Rattle.c_syntax.specs.declared.parts.PointerWord.TheVariants as pointer_words
use Rattle.c_syntax.specs.declared.parts.ArrayWord.{ArrayWord}
use Rattle.c_syntax.specs.declared.parts.ArrayWord.TheVariants as array_words
use Rattle.c_tree.specs.Tree.{Declr, pointer, declr_name, declr_paren, array, params, abs_pointer, abs_paren, abs_array, abs_params, SomeDeclr, no_declr, some_declr, Params, no_params, more_params, Dots, identifiers, base_name}
use Rattle.tape_ops.specs.declared.op.Op.{Op}
use Rattle.tape_ops.specs.declared.op.Op.TheVariants as ops
use Rattle.tape_ops.specs.declared.declarator.DeclrOp.TheVariants as declrs
use Rattle.tape_ops.specs.declared.specifier.SpecOp.TheVariants as specs
use Rattle.c_tree.specs.Firsts.{qual_token}
use Rattle.type_table.specs.Types.{Words, CType, base, function, CTypes, no_types, more_types}
use Rattle.name_rules.specs.Spellings.{Place, Spelling, Named}
use Rattle.name_rules.specs.Scopes.{Names}
use Rattle.name_rules.specs.Pieces.{types_in, decayed, Piece, to_pointer, to_function, piece_of, applied}
use Rattle.name_rules.specs.NameSteps.State.{State}
use Rattle.name_rules.specs.NameSteps.Steps.{ellipsis_where}
use Rattle.type_rules.specs.Tokens.{annotation, annotations, pointer_annotations, array_annotations}
use Rattle.type_rules.specs.Naming.{ellipsis, declr_named, some_declr_named}
use Rattle.c_tape.specs.Tests.{has_ellipsis}
use Rattle.c_tape.specs.Tape.{declr, qual_tape, quals_tape, pointer_words_tape, array_words_tape, dots_tape, pieces, some_pieces}
use Rattle.resolve_laws.proofs.NameLaws.Running.{among_words, declaring, Goes, ◌▸◌, one, stays, arriving}

-- these types behind others
abbrev pub listed_behind : List CType → CTypes → List CType
listed_behind types no_types = types
listed_behind types (more_types t ts) = listed_behind (types ++ t ∷ []) ts

-- the lists of parameters in pieces, the last one first, before others
abbrev pub lists_of : List Piece → List (List CType) → List (List CType)
lists_of [] finished = finished
lists_of (to_pointer ws ∷ ps) finished = lists_of ps finished
lists_of (to_function ts e ∷ ps) finished = lists_of ps (listed_behind [] ts ∷ finished)

abbrev types_onto : List CType → CTypes → CTypes
types_onto [] ts = ts
types_onto (x ∷ xs) ts = more_types x (types_onto xs ts)

types_push : (xs : List CType) (t : CType) (ts : CTypes)
    → types_onto (xs ++ t ∷ []) ts ≡ types_onto xs (more_types t ts)
types_push [] t ts = refl
types_push (x ∷ xs) t ts = ap (more_types x) (types_push xs t ts)

types_none : (xs : List CType) → types_onto xs no_types ≡ types_in xs
types_none [] = refl
types_none (x ∷ xs) = ap (more_types x) (types_none xs)

types_behind : (xs : List CType) (ts : CTypes) → types_in (listed_behind xs ts) ≡ types_onto xs ts
types_behind xs no_types = sym (types_none xs)
types_behind xs (more_types t ts) = types_behind (xs ++ t ∷ []) ts ∙ types_push xs t ts

pub types_back : (ts : CTypes) → types_in (listed_behind [] ts) ≡ ts
types_back ts = types_behind [] ts

pub applied_push : (ps : List Piece) (p : Piece) (t : CType) → applied (ps ++ p ∷ []) t ≡ applied ps (piece_of p t)
applied_push [] p t = refl
applied_push (q ∷ ps) p t = ap (piece_of q) (applied_push ps p t)

-- one piece more of a declarator: its parameter list comes before those of the pieces before it
pub lists_push : (ps : List Piece) (p : Piece) (finished : List (List CType))
    → lists_of (ps ++ p ∷ []) finished ≡ lists_of (p ∷ []) (lists_of ps finished)
lists_push [] p finished = refl
lists_push (to_pointer ws ∷ ps) p finished = lists_push ps p finished
lists_push (to_function ts e ∷ ps) p finished = lists_push ps p (listed_behind [] ts ∷ finished)

module _ (u : Spelling) where
  pub qual_goes : (q : Qual) (st : State) (t : CType) (w : Words) (storage : List Keyword) (b : Bool) (s : Names)
      → Goes u (qual_tape q) (among_words st t w storage b s) (among_words st t (w ++ annotation u q) storage b s)
  qual_goes q st t w storage b s =
      one u (ops.Spec (specs.Word (qual_token q))) _ (λ passed. refl)

  -- words behind others
  behind : (st : State) (t : CType) (storage : List Keyword) (b : Bool) (s : Names) {ops : List Op} {before : State}
      (w v x : Words)
      → Goes u ops before (among_words st t (w ++ v ++ x) storage b s)
      → Goes u ops before (among_words st t (w ++ (v ++ x)) storage b s)
  behind st t storage b s {ops = ops} {before = before} w v x p =
      subst (λ (y : Words). Goes u ops before (among_words st t y storage b s)) (append_assoc w v x) p

  no_more : (st : State) (t : CType) (storage : List Keyword) (b : Bool) (s : Names) (w : Words)
      → Goes u [] (among_words st t w storage b s) (among_words st t (w ++ []) storage b s)
  no_more st t storage b s w =
      arriving (stays u _) (ap (λ (y : Words). among_words st t y storage b s) (sym (append-nil w)))

  pub quals_goes : (qs : List Qual) (st : State) (t : CType) (w : Words) (storage : List Keyword) (b : Bool) (s : Names)
      → Goes u (quals_tape qs) (among_words st t w storage b s) (among_words st t (w ++ annotations u qs) storage b s)
  quals_goes [] st t w storage b s = no_more st t storage b s w
  quals_goes (q ∷ qs) st t w storage b s =
      behind st t storage b s w _ _
      (qual_goes q st t w storage b s ▸ quals_goes qs st t (w ++ annotation u q) storage b s)

  pub pointer_words_goes : (words : List PointerWord) (st : State) (t : CType) (w : Words) (storage : List Keyword)
      (b : Bool) (s : Names) → Goes u (pointer_words_tape words) (among_words st t w storage b s)
      (among_words st t (w ++ pointer_annotations u words) storage b s)
  pointer_words_goes [] st t w storage b s = no_more st t storage b s w
  pointer_words_goes (pointer_words.Qual q ∷ words) st t w storage b s =
      behind st t storage b s w _ _
      (qual_goes q st t w storage b s ▸ pointer_words_goes words st t (w ++ annotation u q) storage b s)
  pointer_words_goes (pointer_words.Attr attr ∷ words) st t w storage b s =
      pointer_words_goes words st t w storage b s

  pub array_words_goes : (words : List ArrayWord) (st : State) (t : CType) (w : Words) (storage : List Keyword)
      (b : Bool) (s : Names) → Goes u (array_words_tape words) (among_words st t w storage b s)
      (among_words st t (w ++ array_annotations u words) storage b s)
  array_words_goes [] st t w storage b s = no_more st t storage b s w
  array_words_goes (array_words.Qual q ∷ words) st t w storage b s =
      behind st t storage b s w _ _
      (qual_goes q st t w storage b s ▸ array_words_goes words st t (w ++ annotation u q) storage b s)
  array_words_goes (array_words.Static token ∷ words) st t w storage b s = array_words_goes words st t w storage b s

  -- declarators

  abbrev pub Makes : List Op → List Piece → Type 0
  Makes tape made = (st : State) (t : CType) (storage : List Keyword) (b : Bool) (name : Option Named) (m : CType)
      (finished : List (List CType)) (s : Names)
      → Goes u tape (declaring st t storage b name m (lists_of made finished) s)
      (declaring st t storage b name (applied made m) finished s)

  makes_none : Makes [] []
  makes_none st t storage b name m finished s = stays u _

  pub one_more : {first others : List Op} (made : List Piece) (p : Piece) → Makes first (p ∷ []) → Makes others made
      → Makes (first ++ others) (made ++ p ∷ [])
  one_more made p f g st t storage b name m finished s =
      rw (lists_push made p finished, applied_push made p m)
      (f st t storage b name m (lists_of made finished) s ▸ g st t storage b name (piece_of p m) finished s)

  pub pointer_makes : (words : List PointerWord)
      → Makes (pointer_words_tape words ++ declr declrs.Pointer) (to_pointer (pointer_annotations u words) ∷ [])
  pointer_makes words st t storage b name m finished s =
      pointer_words_goes words (declaring st t storage b name m finished s) (base []) [] [] false s
      ▸ one u (ops.Declr declrs.Pointer) _ (λ passed. refl)

  pub array_makes : (words : List ArrayWord)
      → Makes (array_words_tape words ++ declr declrs.Array) (to_pointer (array_annotations u words) ∷ [])
  array_makes words st t storage b name m finished s =
      array_words_goes words (declaring st t storage b name m finished s) (base []) [] [] false s
      ▸ one u (ops.Declr declrs.Array) _ (λ passed. refl)

  pub function_makes : (ps : Params) (dots : Option Dots) (ts : CTypes)
      → Makes (dots_tape dots ++ declr (declrs.Function (has_ellipsis ps dots)))
      (to_function ts (ellipsis u ps dots) ∷ [])
  function_makes ps dots ts st t storage b name m finished s = by_form ps dots
    where
      with_types : (has : Bool) (e : Option Words) (w : Words) → ellipsis_where has w ≡ e
          → Goes u (declr (declrs.Function has))
          (among_words (declaring st t storage b name m (listed_behind [] ts ∷ finished) s) (base []) w [] false s)
          (declaring st t storage b name (function [] ts (decayed m) e) finished s)
      with_types has e w is =
          arriving (one u (ops.Declr (declrs.Function has)) _ (λ passed. refl)) (rw (types_back ts, is) refl)

      by_form : (ps : Params) (dots : Option Dots)
          → Goes u (dots_tape dots ++ declr (declrs.Function (has_ellipsis ps dots)))
          (declaring st t storage b name m (listed_behind [] ts ∷ finished) s)
          (declaring st t storage b name (function [] ts (decayed m) (ellipsis u ps dots)) finished s)
      by_form ps (Some dots) =
          quals_goes dots.quals (declaring st t storage b name m (listed_behind [] ts ∷ finished) s)
          (base []) [] [] false s
          ▸ with_types true _ _ refl
      by_form no_params None = with_types true _ [] refl
      by_form (more_params ws d attrs ps) None = with_types false _ [] refl

  mutual
    pub pieces_make : (d : Declr) (own : Option Place) (s : Names) → Makes (pieces d) (declr_named u own d s).pieces
    pieces_make (pointer star words d) own s =
        one_more (declr_named u own d s).pieces _ (pointer_makes words) (pieces_make d own s)
    pieces_make (declr_name token name) own s = makes_none
    pieces_make (declr_paren opening attrs d closing) own s = pieces_make d own s
    pieces_make (array d opening words size closing) own s =
        one_more (declr_named u own d s).pieces _ (array_makes words) (pieces_make d own s)
    pieces_make (params d opening ps dots closing) own s =
        one_more (declr_named u own d s).pieces _ (function_makes ps dots _) (pieces_make d own s)
    pieces_make (abs_pointer star words d) own s =
        one_more (some_declr_named u d s).pieces _ (pointer_makes words) (some_pieces_make d s)
    pieces_make (abs_paren opening attrs d closing) own s = pieces_make d own s
    pieces_make (abs_array d opening words size closing) own s =
        one_more (some_declr_named u d s).pieces _ (array_makes words) (some_pieces_make d s)
    pieces_make (abs_params d opening ps dots closing) own s =
        one_more (some_declr_named u d s).pieces _ (function_makes ps dots _) (some_pieces_make d s)
    pieces_make (identifiers d opening names closing) own s =
        one_more (declr_named u own d s).pieces (to_function no_types None)
        (λ st t storage b name m finished s. one u (ops.Declr (declrs.Function false)) _ (λ passed. refl))
        (pieces_make d own s)
    pieces_make (base_name token) own s = makes_none

    pub some_pieces_make : (d : SomeDeclr) (s : Names) → Makes (some_pieces d) (some_declr_named u d s).pieces
    some_pieces_make no_declr s = makes_none
    some_pieces_make (some_declr d) s = pieces_make d None s
