-- One unit more.
use Rattle.std.proofs.Common.{arith, ◌≡◌, ℕ, suc, ◌-◌, List, [], ◌∷◌, ◌++◌, length, map, slice_get, Some, refl, sym, ◌∙◌, ap, append_assoc, append-nil}
use Rattle.qual_base.proofs.Lists.{map_more}
use Rattle.tape_ops.specs.declared.op.Op.{Op}
use Rattle.c_lexer.specs.Tokens.{Lexed}
use Rattle.name_rules.specs.Spellings.{Spelling}
use Rattle.name_rules.specs.NameSteps.Units.{Tape}
use Rattle.resolve_laws.specs.NameLaws.NameLaws.{tape_of_source}
use Rattle.c_types.specs.SourceSpelling.Tokens.{spelling_behind}
use Rattle.type_rules.specs.Program as rules
use Rattle.unit_types.specs.declared.program.UnitTape.{UnitTape}
use Rattle.unit_types.specs.Resolved.{tape_of, tapes_of}
use Rattle.c_types.specs.Sources.{UnitRead, lexed_of, source_behind, sources_behind, sources_in}
use Rattle.c_types.specs.Units.{all_but_last, AreParts, IsTaped}

-- the sources of units and one more are those of the units, then that one behind the tokens of all of them
sources_more : (earlier : List Lexed) (units : List UnitRead) (it : UnitRead)
    → sources_behind earlier (units ++ it ∷ []) ≡ sources_behind earlier units
    ++ source_behind (earlier ++ lexed_of units) it ∷ []
sources_more earlier [] it = ap (λ (e : List Lexed). source_behind e it ∷ []) (sym (append-nil earlier))
sources_more earlier (u ∷ units) it =
    ap (λ (rest : List rules.Source). source_behind earlier u ∷ rest) (sources_more (earlier ++ u.lexed ∷ []) units it
    ∙ ap (λ (e : List Lexed). sources_behind (earlier ++ u.lexed ∷ []) units ++ source_behind e it ∷ [])
    (append_assoc earlier (u.lexed ∷ []) (lexed_of units)))

lexed_more : (units : List UnitRead) (it : UnitRead) → lexed_of (units ++ it ∷ []) ≡ lexed_of units ++ it.lexed ∷ []
lexed_more units it = map_more (λ (u : UnitRead). u.lexed) units (it ∷ [])

-- all but the last of a list and one more is the list
but_last : (units : List Lexed) (it : Lexed) → all_but_last (units ++ it ∷ []) ≡ units
but_last [] it = refl
but_last (u ∷ []) it = refl
but_last (u ∷ v ∷ units) it = ap (λ (rest : List Lexed). u ∷ rest) (but_last (v ∷ units) it)

-- the units before the last of one more are all before
pub before_last : (units : List UnitRead) (it : UnitRead) → all_but_last (lexed_of (units ++ it ∷ [])) ≡ lexed_of units
before_last units it = ap all_but_last (lexed_more units it) ∙ but_last (lexed_of units) it.lexed

-- the tokens and the tapes of one unit more
pub parts_more : (units : List UnitRead) (unit : UnitRead) (lexed : Lexed) (ops : List Op) (tokens : List Lexed)
    (tapes : List UnitTape)
    (spelling : Spelling) (tape : UnitTape) → AreParts units tokens tapes → IsTaped unit lexed ops
    → spelling ≡ spelling_behind (lexed_of units) lexed
    → tape_of tape ≡ (let t : Tape = record { spelling = spelling; ops = ops } in t)
    → AreParts (units ++ unit ∷ []) (tokens ++ lexed ∷ []) (tapes ++ tape ∷ [])
parts_more units unit lexed ops tokens tapes spelling tape are is spelled made = record {
  tokens_are =
      ap (λ (ts : List Lexed). ts ++ lexed ∷ []) are.tokens_are
      ∙ ap (λ (l : Lexed). lexed_of units ++ l ∷ []) (sym is.lexed_is) ∙ sym (lexed_more units unit);
  tapes_are =
      map_more tape_of tapes (tape ∷ [])
      ∙ ap (λ (ts : List Tape). ts ++ tape_of tape ∷ []) are.tapes_are
      ∙ ap (λ (t : Tape). map tape_of_source (sources_in units) ++ t ∷ []) (made
      ∙ ap (λ (s : Spelling). let t : Tape = record { spelling = s; ops = ops } in t)
      (spelled ∙ ap (spelling_behind (lexed_of units)) (sym is.lexed_is))
      ∙ ap (λ (os : List Op). let t : Tape =
      record { spelling = spelling_behind (lexed_of units) unit.lexed; ops = os } in t) is.taped)
      ∙ sym (map_more tape_of_source (sources_in units) (source_behind (lexed_of units) unit ∷ []))
      ∙ ap (λ (ss : List rules.Source). map tape_of_source ss) (sym (sources_more [] units unit));
}

-- the last of some units stands behind those before it
pub last_behind : (units : List Lexed) (it : Lexed) → slice_get units (length units - 1) ≡ Some it
    → all_but_last units ++ it ∷ [] ≡ units
last_behind [] it is = absurd cc
last_behind (u ∷ []) it is = let same : it ≡ u = cc in ap (λ (one : Lexed). one ∷ []) same
last_behind (u ∷ v ∷ units) it is =
    let e : length (u ∷ v ∷ units) - 1 ≡ suc (length (v ∷ units) - 1) = omega arith in
    ap (λ (rest : List Lexed). u ∷ rest)
    (last_behind (v ∷ units) it (ap (λ (n : ℕ). slice_get (u ∷ v ∷ units) n) (sym e) ∙ is))
