use Rattle.std.proofs.Common.{List, sym, ◌∙◌, ap}
use Rattle.std.proofs.lemmas.Result.{IfOk-weaker}
use Rattle.annotate.specs.Scenes as scenes
use Rattle.c_lexer.specs.Tokens.{Lexed}
use Rattle.cqual_tool.specs.Words.{names_in}
use Rattle.cqual_tool.specs.Programs.{judging_of, texts_of}
use Rattle.cqual_tool.proofs.ending.who.Goals as goal

-- the answer for a name over the scene of a program is that of its judging
pub returns-clause-answered : goal.returns-clause-answered
returns-clause-answered c = λ units marks is.
    let named = names_in c.args.named.now in
    let same =
    ap scenes.units_of c.deref-2.ensures.value ∙ c.in_ok-units.ensures
    ∙ ap (λ (ls : List Lexed). texts_of named ls) c.deref.ensures.value
    ∙ ap (texts_of named) is.units_are in
    IfOk-weaker c.answered.result _ _ (λ answer who. who (judging_of named c.args.lattices.now marks units)
    (c.scene_of-scene.ensures.shows named units marks same is.differ is.made)
    (sym is.made.system)) c.answered.ensures.answered
