use Rattle.std.proofs.Common.{List, map, sym, ◌∙◌, ap, subst}
use Rattle.std.proofs.lemmas.Result.{IfOk-weaker}
use Rattle.name_rules.specs.Spellings.{Place}
use Rattle.annotate.specs.Texts.{UnitText}
use Rattle.annotate.specs.Scenes as scenes
use Rattle.c_lexer.specs.Tokens.{Lexed}
use Rattle.sig_writer.specs.Library.{external_at}
use Rattle.sig_writer.specs.Parts.{AreOwnedApart}
use Rattle.cqual_tool.specs.Words.{names_in}
use Rattle.cqual_tool.specs.Programs.{judging_of, texts_of}
use Rattle.cqual_tool.proofs.Signed.{some_of, unsigned_as}
use Rattle.cqual_tool.proofs.ending.signatures.Goals as goal

-- what functions own apart in the program they own apart as the functions are held for `sign`
pub sign-requires-clause-apart : goal.sign-requires-clause-apart
sign-requires-clause-apart c =
    let made = c.args.ready.now.made in
    let texts = scenes.units_of c.deref-4.result.now in
    subst (λ (places : List Place). AreOwnedApart made.graph (map (external_at texts made.skeletons) places))
    (sym c.deref-3.ensures.value)
    (c.requires.signs.apart texts)

-- an answer of the library is the answer for the signatures of its program
pub returns-in-Some-clause-signed : goal.returns-in-Some-clause-signed
returns-in-Some-clause-signed c = λ units marks is.
    let named = names_in c.args.named.now in
    let it = judging_of named c.args.lattices.now marks units in
    let made = c.args.ready.now.made in
    let are = c.in_ok-units.ensures ∙ ap (λ (ls : List Lexed). texts_of named ls) c.deref.ensures.value
    ∙ ap (texts_of named) is.units_are in
    let same = ap scenes.units_of c.deref-2.ensures.value ∙ are in
    let lent = ap scenes.units_of c.deref-4.ensures.value ∙ are in
    let library =
    ap (λ (texts : List UnitText). map (external_at texts made.skeletons) c.args.ready.now.functions.items) (sym lent)
    ∙ ap (map (external_at (scenes.units_of c.deref-4.result.now) made.skeletons)) (sym c.deref-3.ensures.value) in
    let answers = some_of _ c.in_ok-answer.field-0 c.in-Some.answer c.in-Some.is c.in_ok-answer.ensures.signed in
    answers it (c.scene_of-scene.ensures.shows named units marks same is.differ is.made) (sym is.made.system)
    (is.externals (texts_of named _) ∙ library)

-- where the library suits and is not accepted, its report is the answer for its signatures
pub returns-clause-signed : goal.returns-clause-signed
returns-clause-signed c = λ units marks is.
    let named = names_in c.args.named.now in
    let it = judging_of named c.args.lattices.now marks units in
    let are = c.in_ok-units.ensures ∙ ap (λ (ls : List Lexed). texts_of named ls) c.deref.ensures.value
    ∙ ap (texts_of named) is.units_are in
    let same = ap scenes.units_of c.deref-2.ensures.value ∙ are in
    let never = c.in_ok-answer.ensures.rejected c.in-None.is in
    unsigned_as it c.args.ready.now.made.graph c.scene_of-scene.result.lattices.now
    (sym c.scene_of-scene.ensures.lattices) (sym is.made.system) c.report.result never.0 never.1
    (IfOk-weaker c.report.result _ _
    (λ answer report. report it (c.scene_of-scene.ensures.shows named units marks same is.differ is.made)
    (sym is.made.system)) c.report.ensures.report)
