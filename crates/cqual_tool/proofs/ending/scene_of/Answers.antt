use Rattle.std.proofs.Common.{List, length, refl, sym, ◌∙◌, ap, subst}
use Rattle.qual_types.specs.declared.row.VarRow.{VarRow}
use Rattle.qual_types.specs.Table.{Stands}
use Rattle.annotate.specs.Scenes as scenes
use Rattle.cqual_tool.proofs.Joining.{texts_apart}
use Rattle.cqual_tool.proofs.ending.scene_of.Goals as goal

-- the scene of the texts, the lattices and what was generated shows what the judging of the units names
pub returns-clause-shows : goal.returns-clause-shows
returns-clause-shows c = λ named units marks same differ made.
    record {
      units = sym same;
      apart = subst scenes.AreApart (sym same) (texts_apart named units differ);
      lattices = refl;
      listed = sym (c.deref.ensures.value ∙ made.listed);
      count = sym made.count ∙ ap (λ (rows : List VarRow). length rows) (sym c.vars.ensures);
      stand = λ v p lt stands. made.stand p v (subst (λ (rows : List VarRow). Stands rows p v) c.vars.ensures stands);
    }
