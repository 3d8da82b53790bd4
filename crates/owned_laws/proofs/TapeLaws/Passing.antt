-- Parts of tapes, from marks to marks.
use Rattle.std.proofs.Common.{◌≡◌, ℕ, Bool, true, false, List, [], ◌∷◌, ◌++◌, Option, None, Some, refl, sym, ap, subst}
use Rattle.std.specs.Prelude.{◌||◌, if◌then◌else◌}
use Rattle.c_tree.specs.Tree.{Exprs, no_exprs, more_exprs, SpecWords, no_words, more_words, SpecWord, storage, thread, inline_word, noreturn, qualifier, basic, struct_type, enum_type, typedef_name, attribute, Declr, pointer, declr_name, declr_paren, array, params, abs_pointer, abs_paren, abs_array, abs_params, SomeDeclr, no_declr, some_declr, Init, init_value, init_braced, InitList, init_list, InitItems, no_init_items, more_init_items, Desigs, no_desigs, more_desigs, Desig, member_desig, index_desig, Operator, comma, assign, cond, binary, Dots, identifiers, base_name, range_desig, old_desig, typeof_value, typeof_type, align, auto_word, Expr}
use Rattle.c_words.specs.declared.kinds.Punct.{Punct}
use Rattle.c_words.specs.declared.kinds.Punct.TheVariants as signs
use Rattle.c_syntax.specs.declared.parts.Identifier.{Identifier}
use Rattle.c_syntax.specs.declared.parts.Qual.{Qual}
use Rattle.c_syntax.specs.declared.parts.PointerWord.{PointerWord}
use Rattle.c_syntax.specs.declared.parts.PointerWord.TheVariants as pointer_words
use Rattle.c_syntax.specs.declared.parts.ArrayWord.{ArrayWord}
use Rattle.c_syntax.specs.declared.parts.ArrayWord.TheVariants as array_words
use Rattle.tape_ops.specs.declared.op.Op.{Op}
use Rattle.tape_ops.specs.declared.op.Op.TheVariants as ops
use Rattle.tape_ops.specs.declared.specifier.SpecOp.TheVariants as specs
use Rattle.tape_ops.specs.declared.specifier.TagKind.{TagKind}
use Rattle.tape_ops.specs.declared.declarator.DeclrOp.TheVariants as declrs
use Rattle.c_tape.specs.Tape.{quals_tape, pointer_word_tape, pointer_words_tape, array_word_tape, array_words_tape, dots_tape, pieces, some_pieces, desig_tape, desigs_tape, rule, rule_of_list, rule_of_items, arguments, operator_tape, prefix_tape, tag_tape, body_tape, unnamed_word_tape, unnamed_tape, quietly, in_scope, specs_with, type_name_with, params_with}
use Rattle.owned_laws.specs.TapeLaws.Marks.{Mark, in_declaration, in_params, in_tag, in_quiet, is_open, is_token, turn, IsBracketed}
use Rattle.owned_laws.specs.TapeLaws.Marks as marks

pub record Passes (t : Option ℕ) (m : List Mark) (tape : List Op) (n : List Mark) : Type 0 where
  pub goes : IsBracketed t m tape n

joined : (t : Option ℕ) (m n o : List Mark) (xs ys : List Op) → IsBracketed t m xs n → IsBracketed t n ys o →
    IsBracketed t m (xs ++ ys) o
joined t m n o [] ys h k = subst (λ (it : List Mark). IsBracketed t it ys o) (sym h) k
joined t m n o (op ∷ xs) ys h k = (h.0, h.1, joined t h.0 n o xs ys h.2 k)

-- from a declaration to it, which has read or declared names meanwhile
pub record Declares (t n d : Option ℕ) (own : Bool) (m : List Mark) (tape : List Op) : Type 0 where
  pub name : Option ℕ
  pub last : Option ℕ
  pub goes : Passes t (in_declaration n d own ∷ m) tape (in_declaration name last own ∷ m)

-- a list of parameters begins in a declaration, an own one only in that of the item's function
begun : (t : Option ℕ) (own : Bool) (m : List Mark) (n d : Option ℕ) (o : Bool) →
    (own ≡ true → (m ≡ []) × (is_token n t ≡ true)) →
    turn t (in_declaration n d o ∷ m) (ops.Declr (declrs.ParamsBegin own))
    ≡ Some (in_params own ∷ (in_declaration n d o ∷ m))
begun t false m n d o h = refl
begun t true m n d o h =
    subst (λ (it : List Mark). turn t (in_declaration n d o ∷ it) (ops.Declr (declrs.ParamsBegin true))
    ≡ Some (in_params true ∷ (in_declaration n d o ∷ it))) (sym (h refl).0)
    (ap (λ (b : Bool). if b then Some (in_params true ∷ (in_declaration n d o ∷ [])) else None) (h refl).1)

ended : (t : Option ℕ) (own : Bool) (m : List Mark) (n d : Option ℕ) (o : Bool) →
    turn t (in_params own ∷ (in_declaration n d o ∷ m)) (ops.Declr declrs.ParamsEnd)
    ≡ Some (in_declaration n d (own || o) ∷ m)
ended t true m n d o = refl
ended t false m n d o = refl

module _ {t : Option ℕ} where
  pub none : {m : List Mark} → Passes t m [] m
  none = record { goes = refl }

  pub join : {m n o : List Mark} {xs ys : List Op} → Passes t m xs n → Passes t n ys o → Passes t m (xs ++ ys) o
  join {m} {n} {o} {xs} {ys} p q = record { goes = joined t m n o xs ys p.goes q.goes }

  pub one : {m n : List Mark} {op : Op} → turn t m op ≡ Some n → Passes t m (op ∷ []) n
  one {n = n} e = record { goes = (n, e, refl) }

  -- parts

  pub quiet_passes : {m : List Mark} {tape : List Op} → Passes t (in_quiet ∷ m) tape (in_quiet ∷ m) →
      Passes t m (quietly tape) m
  quiet_passes p = join (join (one refl) p) (one refl)

  pub scope_passes : {m : List Mark} {tape : List Op} → Passes t (marks.in_scope ∷ m) tape (marks.in_scope ∷ m) →
      Passes t m (in_scope tape) m
  scope_passes p = join (join (one refl) p) (one refl)

  pub specs_pass : {m : List Mark} {tape : List Op} → Passes t m tape m →
      Passes t m (specs_with tape) (in_declaration None None false ∷ m)
  specs_pass p = join p (one refl)

  pub type_name_passes : {m : List Mark} {words d : List Op} (first : ℕ) → Passes t m words m →
      Declares t None None false m d → Passes t m (type_name_with words d first) m
  type_name_passes first p q = join (join (specs_pass p) q.goes) (one refl)

  where_passes : {m : List Mark} {tape : List Op} (b : Bool) → Passes t m tape m →
      Passes t m (if b then [] else tape) m
  where_passes true p = none
  where_passes false p = p

  pub params_pass : {m : List Mark} {n d : Option ℕ} {o : Bool} {tape : List Op} (own says_none : Bool) →
      (own ≡ true → (m ≡ []) × (is_token n t ≡ true)) →
      Passes t (in_params own ∷ (in_declaration n d o ∷ m)) tape (in_params own ∷ (in_declaration n d o ∷ m)) →
      Passes t (in_declaration n d o ∷ m) (params_with own says_none tape) (in_declaration n d (own || o) ∷ m)
  params_pass {m} {n} {d} {o} own says_none h p =
      join (join (one (begun t own m n d o h)) (where_passes says_none p)) (one (ended t own m n d o))

  pub declared_passes : {m : List Mark} {n d : Option ℕ} {o : Bool} → is_open m ≡ true →
      Passes t (in_declaration n d o ∷ m) (ops.Declr declrs.Declare ∷ []) (in_declaration None n o ∷ m)
  declared_passes {m} {n} {d} {o} e =
      one (ap (λ (b : Bool). if b then Some (in_declaration None n o ∷ m) else None) e)

-- parts that begin and end nothing

module _ {t : Option ℕ} {m : List Mark} where
  quals_pass : (qs : List Qual) → Passes t m (quals_tape qs) m
  quals_pass [] = none
  quals_pass (q ∷ qs) = join (one refl) (quals_pass qs)

  pointer_word_passes : (word : PointerWord) → Passes t m (pointer_word_tape word) m
  pointer_word_passes (pointer_words.Qual q) = one refl
  pointer_word_passes (pointer_words.Attr attr) = none

  pointer_words_pass : (words : List PointerWord) → Passes t m (pointer_words_tape words) m
  pointer_words_pass [] = none
  pointer_words_pass (word ∷ words) = join (pointer_word_passes word) (pointer_words_pass words)

  array_word_passes : (word : ArrayWord) → Passes t m (array_word_tape word) m
  array_word_passes (array_words.Static token) = none
  array_word_passes (array_words.Qual q) = one refl

  array_words_pass : (words : List ArrayWord) → Passes t m (array_words_tape words) m
  array_words_pass [] = none
  array_words_pass (word ∷ words) = join (array_word_passes word) (array_words_pass words)

  dots_pass : (dots : Option Dots) → Passes t m (dots_tape dots) m
  dots_pass None = none
  dots_pass (Some dots) = quals_pass dots.quals

  mutual
    pub pieces_pass : (d : Declr) → Passes t m (pieces d) m
    pieces_pass (pointer star words d) = join (join (pointer_words_pass words) (one refl)) (pieces_pass d)
    pieces_pass (declr_name token name) = none
    pieces_pass (declr_paren opening attrs d closing) = pieces_pass d
    pieces_pass (array d opening words size closing) = join (join (array_words_pass words) (one refl)) (pieces_pass d)
    pieces_pass (params d opening ps dots closing) = join (join (dots_pass dots) (one refl)) (pieces_pass d)
    pieces_pass (abs_pointer star words d) = join (join (pointer_words_pass words) (one refl)) (some_pieces_pass d)
    pieces_pass (abs_paren opening attrs d closing) = pieces_pass d
    pieces_pass (abs_array d opening words size closing) =
        join (join (array_words_pass words) (one refl)) (some_pieces_pass d)
    pieces_pass (abs_params d opening ps dots closing) = join (join (dots_pass dots) (one refl)) (some_pieces_pass d)
    pieces_pass (identifiers d opening names closing) = join (one refl) (pieces_pass d)
    pieces_pass (base_name token) = none

    some_pieces_pass : (d : SomeDeclr) → Passes t m (some_pieces d) m
    some_pieces_pass no_declr = none
    some_pieces_pass (some_declr d) = pieces_pass d

  desig_passes : (d : Desig) → Passes t m (desig_tape d) m
  desig_passes (member_desig before name) = one refl
  desig_passes (index_desig opening e closing) = one refl
  desig_passes (range_desig opening e dots e2 closing) = one refl
  desig_passes (old_desig name colon) = one refl

  desigs_pass : (ds : Desigs) → Passes t m (desigs_tape ds) m
  desigs_pass no_desigs = none
  desigs_pass (more_desigs d ds) = join (desig_passes d) (desigs_pass ds)

  mutual
    pub rule_passes : (i : Init) → Passes t m (rule i) m
    rule_passes (init_value e) = one refl
    rule_passes (init_braced list) = rule_list_passes list

    pub rule_list_passes : (list : InitList) → Passes t m (rule_of_list list) m
    rule_list_passes (init_list opening items last closing) =
        join (join (one refl) (rule_items_pass items)) (one refl)

    rule_items_pass : (items : InitItems) → Passes t m (rule_of_items items) m
    rule_items_pass no_init_items = none
    rule_items_pass (more_init_items ds equal i items) =
        join (join (desigs_pass ds) (rule_passes i)) (rule_items_pass items)

  pub arguments_pass : (es : Exprs) → Passes t m (arguments es) m
  arguments_pass no_exprs = none
  arguments_pass (more_exprs e es) = join (one refl) (arguments_pass es)

  pub operator_passes : (op : Operator) (token first last : ℕ) → Passes t m (operator_tape op token first last) m
  operator_passes comma token first last = one refl
  operator_passes (assign p) token first last = one refl
  operator_passes (cond middle colon) token first last = one refl
  operator_passes (binary p) token first last = one refl

  -- an operator before its operand, from what passes the tape of the operand only addressed and that of it taken
  pub prefix_passes : (token : ℕ) (p : Punct) (e : Expr) (aims : Bool) {addressed taken : List Op}
      → Passes t m addressed m →
      Passes t m taken m → Passes t m (prefix_tape token p e aims addressed taken) m
  prefix_passes token signs.Ampersand e aims a b = join a (one refl)
  prefix_passes token p e aims a b = join b (one refl)

  pub tag_passes : (alone : Bool) (kind : TagKind) (tag : Option Identifier) → Passes t m (tag_tape alone kind tag) m
  tag_passes alone kind None = none
  tag_passes true kind (Some tag) = one refl
  tag_passes false kind (Some tag) = one refl

  pub body_passes : (kind : TagKind) (keyword : ℕ) (tag : Option Identifier) →
      Passes t m (body_tape kind keyword tag) (in_tag ∷ m)
  body_passes kind keyword None = one refl
  body_passes kind keyword (Some tag) = one refl

  unnamed_word_passes : (word : SpecWord) → Passes t m (unnamed_word_tape word) m
  unnamed_word_passes (storage word) = none
  unnamed_word_passes (thread token) = none
  unnamed_word_passes (inline_word token) = none
  unnamed_word_passes (noreturn token) = none
  unnamed_word_passes (qualifier q) = none
  unnamed_word_passes (basic word) = none
  unnamed_word_passes (struct_type word attrs None body) = one refl
  unnamed_word_passes (struct_type word attrs (Some tag) body) = none
  unnamed_word_passes (enum_type e) = none
  unnamed_word_passes (typedef_name name) = none
  unnamed_word_passes (attribute attr) = none
  unnamed_word_passes (typeof_value keyword opening e closing) = none
  unnamed_word_passes (typeof_type word opening ws d closing) = none
  unnamed_word_passes (align attr) = none
  unnamed_word_passes (auto_word token) = none

  pub unnamed_passes : (ws : SpecWords) → Passes t m (unnamed_tape ws) m
  unnamed_passes no_words = none
  unnamed_passes (more_words word ws) = join (unnamed_word_passes word) (unnamed_passes ws)

  pub void_passes : (b : Bool) → Passes t m (if b then ops.Spec specs.Void ∷ [] else []) m
  void_passes true = one refl
  void_passes false = none
