use Rattle.std.proofs.Common.{List, [], length, refl, sym, ◌∙◌, ap, subst}
use Rattle.std.proofs.lemmas.Result.{IfOk-weaker}
use Rattle.qual_types.specs.declared.row.VarRow.{VarRow}
use Rattle.qual_types.specs.Table.{Stands}
use Rattle.annotate.specs.Scenes as scenes
use Rattle.c_lexer.specs.Tokens.{Lexed}
use Rattle.c_types.specs.Sources.{lexed_of}
use Rattle.cqual_tool.specs.Words.{FileNames, names_in}
use Rattle.cqual_tool.specs.Programs.{judging_of, texts_of}
use Rattle.cqual_tool.specs.Outcome.{made_names}
use Rattle.cqual_tool.proofs.Joining.{texts_apart}
use Rattle.cqual_tool.proofs.making.of_program.Goals as goal

-- the sum over the texts and the scene of a made program is that of its judging
pub returns-clause-sum : goal.returns-clause-sum
returns-clause-sum c = λ units is.
    let it = judging_of made_names c.args.lattices.now [] units in
    let names = names_in c.made_names-named.result in
    let same =
    ap scenes.units_of c.deref-2.ensures.value ∙ c.in_ok-units.ensures
    ∙ ap (λ (ls : List Lexed). texts_of names ls) c.deref.ensures.value
    ∙ ap (texts_of names) is.units_are
    ∙ ap (λ (ns : FileNames). texts_of ns (lexed_of units)) c.made_names-named.ensures in
    IfOk-weaker c.summed.result _ _
    (λ answer sum.
    sum it
    (record {
      units = sym same;
      apart = subst scenes.AreApart (sym same) (texts_apart made_names units is.differ);
      lattices = refl;
      listed = sym (c.deref-3.ensures.value ∙ is.made.listed);
      count = sym is.made.count ∙ ap (λ (rows : List VarRow). length rows) (sym c.vars.ensures);
      stand = λ v p lt stands.
          is.made.stand p v (subst (λ (rows : List VarRow). Stands rows p v) c.vars.ensures stands);
    })
    (sym is.made.system))
    c.summed.ensures.sum
