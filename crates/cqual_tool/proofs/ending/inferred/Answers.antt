use Rattle.std.proofs.Common.{List, sym, ◌∙◌, ap}
use Rattle.std.proofs.lemmas.Result.{IfOk-weaker}
use Rattle.annotate.specs.Scenes as scenes
use Rattle.c_lexer.specs.Tokens.{Lexed}
use Rattle.cqual_tool.specs.Words.{names_in}
use Rattle.cqual_tool.specs.Programs.{judging_of, texts_of}
use Rattle.cqual_tool.proofs.ending.inferred.Goals as goal

-- the report over the texts and the scene of a program is that of its judging
pub returns-clause-report : goal.returns-clause-report
returns-clause-report c = λ units marks are differ made.
    let named = names_in c.args.named.now in
    let same =
    ap scenes.units_of c.deref-2.ensures.value ∙ c.in_ok-units.ensures
    ∙ ap (λ (ls : List Lexed). texts_of named ls) c.deref.ensures.value
    ∙ ap (texts_of named) are in
    IfOk-weaker c.report.result _ _ (λ answer is. is (judging_of named c.args.lattices.now marks units)
    (c.scene_of-scene.ensures.shows named units marks same differ made) (sym made.system)) c.report.ensures.report
