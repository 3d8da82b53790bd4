use Rattle.std.proofs.Common.{◌≡◌, List, [], ◌∷◌, ◌++◌, refl, sym, ◌∙◌, subst}
use Rattle.c_lexer.specs.Tokens.{Lexed}
use Rattle.c_types.specs.SourceSpelling.Keys.{AreNamesOf}
use Rattle.unit_types.specs.declared.program.UnitTape.{UnitTape}
use Rattle.c_types.specs.Sources.{lexed_of}
use Rattle.c_types.specs.Units.{all_but_last, AreParts}
use Rattle.c_types.proofs.Joined.{before_last, parts_more}
use Rattle.c_types.proofs.units.Units.push.Goals as goal

-- one unit more: its tokens and its tape join those of the others, and the names are of all units but it
pub returns : goal.returns
returns c = λ units unit are is.
    let all = units ++ unit ∷ [] in
    let old = c.args.self.now in
    let same : c.as_slice.result.now ≡ lexed_of units = c.as_slice.ensures.value ∙ are.parts.tokens_are in
    let named : AreNamesOf (lexed_of units) c.name_last.new.names =
    subst (λ (ls : List Lexed). AreNamesOf ls c.name_last.new.names) same
    (c.in_ok-name_last.ensures
    (subst (λ (ls : List Lexed). AreNamesOf (all_but_last ls) old.names) (sym same) are.names)) in
    let tape : UnitTape = record { spelling = c.in_ok-spelling.spelling; ops = c.args.ops } in
    let parts : AreParts all (old.tokens.items ++ c.args.tokens ∷ []) (old.tapes.items ++ tape ∷ []) =
    parts_more units unit c.args.tokens c.args.ops.items old.tokens.items old.tapes.items _ tape are.parts is
    (c.in_ok-spelling.ensures (lexed_of units) named) refl in
    record {
      parts = subst (λ (ts : List Lexed). AreParts all ts c.push.new.self.items) (sym c.in_ok-push-2.ensures.items)
          (subst (λ (ts : List UnitTape). AreParts all (old.tokens.items ++ c.args.tokens ∷ []) ts)
          (sym c.in_ok-push.ensures.items) parts);
      names = subst (λ (ls : List Lexed). AreNamesOf ls c.name_last.new.names) (sym (before_last units unit)) named;
    }
